-- What counts of a state say of it.
use Rattle.std.proofs.Common.{◌≡◌, ◌≤◌, ◌+◌, ◌∙◌, ◌&&◌, ◌++◌, ℕ, suc, Bool, true, false, cond, eqb, List, [], ◌∷◌, length, map, refl, sym, ap, ap₂, arith}
use Rattle.std.specs.Prelude.{ℤ, filter}
use Rattle.std.specs.List.{list_all}
use Rattle.std.proofs.lemmas.Bool.Decides.{nat_tests}
use Rattle.std.proofs.lemmas.List.{length-append, length-map}
use Rattle.polars_arrays_flat.specs.Row.{Row, Null}
use Rattle.polars_compute_slots.specs.Slots.{IsCounted}
use Rattle.polars_compute_slots.specs.State.{State, all_seen, finalised, is_full, set_of}
use Rattle.polars_compute_slots.specs.declared.reading.ReadCounts.{ReadCounts}
use mir.Val.{bool_byte}

abbrev seen_in : List (ℤ × Bool) → List (ℤ × Bool)
seen_in vs = filter (λ (v : ℤ × Bool). v.1) vs

few-seen : (vs : List (ℤ × Bool)) → length (seen_in vs) ≤ length vs
few-seen [] = omega arith
few-seen ((v, true) ∷ vs) = omega (arith, few-seen vs)
few-seen ((v, false) ∷ vs) = omega (arith, few-seen vs)

-- all values were seen where as many were as there are, and only there
full-then : (vs : List (ℤ × Bool)) → length (seen_in vs) ≡ length vs → list_all (λ (v : ℤ × Bool). v.1) vs ≡ true
full-then [] same = refl
full-then ((v, true) ∷ vs) same = full-then vs (omega (arith, same))
full-then ((v, false) ∷ vs) same = absurd (omega (arith, same, few-seen vs))

full-else : (vs : List (ℤ × Bool)) → (length (seen_in vs) ≡ length vs → ⊥) → list_all (λ (v : ℤ × Bool). v.1) vs ≡ false
full-else [] other = absurd (other refl)
full-else ((v, true) ∷ vs) other = full-else vs (λ same. other (ap suc same))
full-else ((v, false) ∷ vs) other = refl

length-set : (s : State) → length (set_of s) ≡ length (seen_in s.values)
length-set s = length-map (seen_in s.values) (λ (v : ℤ × Bool). v.0)

-- as many were seen as there are values: then all rows were seen where a null was
pub all-then : (s : State) (counts : ReadCounts) → IsCounted s counts → counts.seen ≡ counts.values → counts.has_null ≡ all_seen s
all-then s counts is same =
    let full = full-then s.values (sym (is.seen ∙ length-set s) ∙ same ∙ is.values) in
    is.has_null ∙ ap (λ (b : Bool). b && s.has_null) (sym full)

eqb-not : (a b : ℕ) → (a ≡ b → ⊥) → eqb a b ≡ false
eqb-not a b other = grind (arith, nat_tests)

-- else not
pub all-else : (s : State) (counts : ReadCounts) → IsCounted s counts → (counts.seen ≡ counts.values → ⊥) → eqb counts.seen counts.values ≡ all_seen s
all-else s counts is other =
    let full = full-else s.values (λ same. other (is.seen ∙ length-set s ∙ same ∙ sym is.values)) in
    eqb-not counts.seen counts.values other ∙ ap (λ (b : Bool). b && s.has_null) (sym full)

length-null : (b : Bool) → length (cond b (Null ∷ []) []) ≡ bool_byte b
length-null true = refl
length-null false = refl

-- the rows that a state gives are those of its set, and a null if there was one
pub rows-counted : (put : ℤ → Row) (s : State) (counts : ReadCounts) (m : ℕ) → IsCounted s counts → m ≡ bool_byte counts.has_null → counts.seen + m ≡ length (finalised put s)
rows-counted put s counts m is byte =
    ap₂ (λ (a b : ℕ). a + b) (is.seen ∙ sym (length-map (set_of s) put)) (byte ∙ ap bool_byte is.has_null ∙ sym (length-null s.has_null))
    ∙ sym (length-append (map put (set_of s)) (cond s.has_null (Null ∷ []) []))
