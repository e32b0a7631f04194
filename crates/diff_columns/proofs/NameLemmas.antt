-- Names that are lent, and names that are looked for one after another.
use Rattle.std.proofs.Common.{◌≡◌, ◌<◌, ◌≤◌, ℕ, List, [], get_or, length, arith, ap, sym, subst, ◌∙◌}
use Rattle.std.proofs.lemmas.List.{get_or-map, get_or_default, length-map}
use Rattle.std.specs.Borrow.{Bor}
use Rattle.std.specs.Prelude.{All, Any, Contains}
use Rattle.diff_columns.specs.Names.{Names, AreDistinct, IsNamed, IsRepeated, name_at, names_of}

-- no name, past the end
abbrev pub nothing : Bor (List ℕ)
nothing = record { ref_ptr = (0, 0); now = [] }

-- as many names as were lent
pub length_names : (lent : List (Bor (List ℕ))) → length (names_of lent) ≡ length lent
length_names lent = length-map lent (λ (name : Bor (List ℕ)). name.now)

-- name k is the one that was lent there
pub name_lent : (lent : List (Bor (List ℕ))) (k : ℕ) (d : Bor (List ℕ)) (e : List ℕ) → k < length lent → get_or (names_of lent) k e ≡ (get_or lent k d).now
name_lent lent k d e within = get_or-map (λ (name : Bor (List ℕ)). name.now) lent k d e within

-- a name that was lent is among the names
pub among_from_lent : (lent : List (Bor (List ℕ))) (name : List ℕ) → Any (λ x. x.now ≡ name) lent → Contains (names_of lent) name
among_from_lent lent name h =
    let (k, x, within, at, is) = h in
    (k, omega (arith, within, length_names lent), name_lent lent k x name within ∙ (ap (λ (y : Bor (List ℕ)). y.now) at ∙ is))

-- a name that is among the names was lent
pub lent_from_among : (lent : List (Bor (List ℕ))) (name : List ℕ) → Contains (names_of lent) name → Any (λ x. x.now ≡ name) lent
lent_from_among lent name h =
    let (k, within, is) = h in
    let low : k < length lent = omega (arith, within, length_names lent) in
    (k, get_or lent k nothing, low, get_or_default lent k (get_or lent k nothing) nothing low, sym (name_lent lent k nothing name low) ∙ is)

-- a column of a name shows that the name is there
pub named_there : (names : Names) (name : List ℕ) (c : ℕ) → IsNamed names name c → Contains names name
named_there names name c h = (c, h.0, get_or_default names c name [] h.0 ∙ h.1)

-- names none of which comes twice
pub are_distinct : (names : Names) (n : ℕ) → length names ≤ n → ((c : ℕ) → c < n → ¬ (IsRepeated names c)) → AreDistinct names
are_distinct names n past once d c other before within e =
    let low : d < length names = omega (arith, before, within) in
    once c (omega (arith, within, past))
    (within, (d, before, get_or_default names d [] other low ∙ (e ∙ get_or_default names c other [] within)))

-- each of some names is as P says
pub all_meet : (P : List ℕ → Type 0) (names : Names) (n : ℕ) → length names ≤ n → ((k : ℕ) → k < n → P (name_at names k)) → All P names
all_meet P names n past met k other within = subst P (get_or_default names k [] other within) (met k (omega (arith, within, past)))

-- each key is a name
pub all_there : (names keys : Names) (n : ℕ) → length keys ≤ n → ((k : ℕ) → k < n → Contains names (name_at keys k)) → All (Contains names) keys
all_there names keys n past there k other within =
    subst (λ name. Contains names name) (get_or_default keys k [] other within) (there k (omega (arith, within, past)))
