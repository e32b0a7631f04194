-- The first record of a text, and the names that it gives.
use Rattle.std.proofs.Common.{◌≡◌, ◌∙◌, Bool, true, false, ℕ, List, [], ◌∷◌, ◌++◌, Some, None, length, map, take, get_or, sym, refl, ap, arith, ◌<◌, ◌≤◌, ◌+◌, zero, suc}
use Rattle.std.proofs.lemmas.List.{append_assoc, take_more}
use Rattle.std.specs.Fmt.{decimal}
use Rattle.std.specs.List.{range_with_len}
use Rattle.csv.specs.Machine.{Read, next_record}
use Rattle.csv.specs.Reading.{AreRecords, Reached}
use Rattle.csv.specs.Records.{field_at}
use Rattle.csv.specs.declared.parser.Config.{Config}
use Rattle.csv.specs.declared.parser.State.{State}
use Rattle.diff_csv.specs.Records.{names_of}

-- all records of a text begin with the one that was read first
pub first_read : (cfg : Config) (s : State) (xs : List ℕ) (first : List (List ℕ)) (s2 : State) (ys : List ℕ) (records : List (List (List ℕ)))
    → Reached cfg s xs (first ∷ []) s2 ys → AreRecords cfg s xs records → (more : List (List (List ℕ))) × (records ≡ first ∷ more)
unfolding Reached
first_read cfg s xs first s2 ys [] h all =
    let state : s ≡ all.0 = all.2.0 in
    let text : xs ≡ all.1 = all.2.1 in
    let none : next_record cfg s [] [] xs ≡ None = rw (state, text) all.3 in
    let some : next_record cfg s [] [] xs ≡ Some h.0 = h.1 in
    absurd (cc)
first_read cfg s xs first s2 ys (r ∷ rs) h all =
    let one : next_record cfg s [] [] xs ≡ Some h.0 = h.1 in
    let two : next_record cfg s [] [] xs ≡ Some all.2.0 = all.2.1 in
    let same : all.2.0 ≡ h.0 = cc in
    (rs, ap (λ (x : List (List ℕ)). x ∷ rs) (all.2.2 ∙ (ap (λ (p : Read). p.0) same ∙ sym h.2)))

pub header_names : (b : Bool) (first : List (List ℕ)) (more records : List (List (List ℕ))) → records ≡ first ∷ more → b ≡ true → names_of b records ≡ first
header_names b first more records e t = rw (e, t) refl

pub numbered_names : (b : Bool) (first : List (List ℕ)) (more records : List (List (List ℕ))) → records ≡ first ∷ more → b ≡ false
    → names_of b records ≡ map decimal (range_with_len 1 (length first))
numbered_names b first more records e f = rw (e, f) refl

-- a field that is there
field_there : (fs : List (List ℕ)) (i : ℕ) (x : List ℕ) → Some x ≡ field_at fs i → (i < length fs) × (get_or fs i [] ≡ x)
unfolding field_at
field_there [] i x e = absurd (cc)
field_there (f ∷ fs) zero x e = (omega arith, cc)
field_there (f ∷ fs) (suc i) x e = let rest : (i < length fs) × (get_or fs i [] ≡ x) = field_there fs i x e in (omega (arith, rest.0), rest.1)

pub field_found : (fs : List (List ℕ)) (i : ℕ) (x : List ℕ) → Some x ≡ field_at fs i → x ≡ get_or fs i []
field_found fs i x e = sym (field_there fs i x e).1

pub field_missing : (fs : List (List ℕ)) (i : ℕ) → None ≡ field_at fs i → [] ≡ get_or fs i []
unfolding field_at
field_missing [] i e = refl
field_missing (f ∷ fs) zero e = absurd (cc)
field_missing (f ∷ fs) (suc i) e = field_missing fs i e

-- past the last field there is none
pub no_field : (fs : List (List ℕ)) (i : ℕ) → None ≡ field_at fs i → length fs ≤ i
unfolding field_at
no_field [] i e = omega arith
no_field (f ∷ fs) zero e = absurd (cc)
no_field (f ∷ fs) (suc i) e = let rest : length fs ≤ i = no_field fs i e in omega (arith, rest)

-- one field more
pub one_field : (all fs : List (List ℕ)) (i j : ℕ) (x : List ℕ) → Some x ≡ field_at fs i → j ≡ i + 1 → (all ++ take i fs) ++ x ∷ [] ≡ all ++ take j fs
one_field all fs i j x e next =
    let there : (i < length fs) × (get_or fs i [] ≡ x) = field_there fs i x e in
    let more : take (i + 1) fs ≡ take i fs ++ get_or fs i [] ∷ [] = take_more fs i [] there.0 in
    rw (next, more, there.1, append_assoc) refl
