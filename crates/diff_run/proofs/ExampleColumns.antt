-- The worked example of a report: how the columns of the two texts of docs/DIFF.md are matched.
use Rattle.std.proofs.Common.{◌≡◌, ◌<◌, ℕ, zero, suc, List, [], ◌∷◌, length, get_or, arith, sym, ap, subst, inr, refl}
use Rattle.std.specs.Borrow.{Bor}
use Rattle.std.specs.Prelude.{None, codes, slice_index}
use Rattle.diff_keys.specs.Rising.{ListsRising}
use Rattle.diff_keys.specs.RisingLaws.{none_listed, one_listed, one_passed}
use Rattle.diff_columns.specs.Choice.{IsChosen}
use Rattle.diff_columns.specs.Layout.{AreKeyPlaces, HaveSameNames, IsAlone, IsCompared, IsLayout, IsPlace}
use Rattle.diff_columns.specs.Names.{Names, IsNamed, name_at}
use Rattle.diff_columns.specs.declared.choice.Choice.{Choice}
use Rattle.diff_columns.specs.declared.layout.Layout.{Layout}
use Rattle.diff_run.proofs.OnceLemmas.{one_listing, same_items}

-- what is lent
abbrev lent : {A : Type 0} → A → Bor A
lent x = record { ref_ptr = (0, 0); now = x }

-- the names of the columns of both texts
abbrev pub old_names : Names
old_names = codes "id" ∷ codes "city" ∷ codes "amount" ∷ []

abbrev pub new_names : Names
new_names = codes "amount" ∷ codes "id" ∷ codes "city" ∷ []

-- the key is id
abbrev pub by_id : Choice
by_id = record { keys = lent (lent (codes "id") ∷ []); only = None; ignored = lent [] }

-- no column is ignored
all-chosen : (name : List ℕ) → IsChosen by_id name
all-chosen name = inr (tt, λ there. let (k, within, is) = there in omega (arith, within))

-- all three old columns are compared
old-compared : ListsRising (IsCompared by_id old_names new_names) 3 (0 ∷ 1 ∷ 2 ∷ [])
old-compared =
    let P : ℕ → Type 0 = IsCompared by_id old_names new_names in
    one_listed P 2 3 (0 ∷ 1 ∷ []) (one_listed P 1 2 (0 ∷ []) (one_listed P 0 1 [] (none_listed P)
    (all-chosen (codes "id"), (1, omega arith, refl)) refl) (all-chosen (codes "city"), (2, omega arith, refl)) refl) (all-chosen (codes "amount"), (0, omega arith, refl)) refl

-- neither text has a column alone
old-alone : ListsRising (IsAlone by_id old_names new_names) 3 []
old-alone =
    let P : ℕ → Type 0 = IsAlone by_id old_names new_names in
    one_passed P 2 3 [] (one_passed P 1 2 [] (one_passed P 0 1 [] (none_listed P) (λ h. h.1 (1, omega arith, refl)) refl) (λ h. h.1 (2, omega arith, refl)) refl) (λ h. h.1 (0, omega arith, refl)) refl

new-alone : ListsRising (IsAlone by_id new_names old_names) 3 []
new-alone =
    let P : ℕ → Type 0 = IsAlone by_id new_names old_names in
    one_passed P 2 3 [] (one_passed P 1 2 [] (one_passed P 0 1 [] (none_listed P) (λ h. h.1 (2, omega arith, refl)) refl) (λ h. h.1 (0, omega arith, refl)) refl) (λ h. h.1 (1, omega arith, refl)) refl

-- names that are the same begin with the same byte
first-byte : (s t : List ℕ) → s ≡ t → get_or s 0 0 ≡ get_or t 0 0
first-byte s t e = ap (λ name. get_or name 0 0) e

-- where each name stands among the new columns
new-column : (p c : ℕ) → p < 3 → IsNamed new_names (name_at old_names p) c → c ≡ slice_index (1 ∷ 2 ∷ 0 ∷ []) p
new-column zero zero low h = absurd (let e = first-byte (codes "amount") (codes "id") h.1 in omega (arith, e))
new-column zero (suc zero) low h = refl
new-column zero (suc (suc zero)) low h = absurd (let e = first-byte (codes "city") (codes "id") h.1 in omega (arith, e))
new-column (suc zero) zero low h = absurd (let e = first-byte (codes "amount") (codes "city") h.1 in omega (arith, e))
new-column (suc zero) (suc zero) low h = absurd (let e = first-byte (codes "id") (codes "city") h.1 in omega (arith, e))
new-column (suc zero) (suc (suc zero)) low h = refl
new-column (suc (suc zero)) zero low h = refl
new-column (suc (suc zero)) (suc zero) low h = absurd (let e = first-byte (codes "id") (codes "amount") h.1 in omega (arith, e))
new-column (suc (suc zero)) (suc (suc zero)) low h = absurd (let e = first-byte (codes "city") (codes "amount") h.1 in omega (arith, e))
new-column p (suc (suc (suc c))) low h = absurd (let within : suc (suc (suc c)) < 3 = h.0 in omega (arith, within))
new-column (suc (suc (suc p))) c low h = absurd (omega (arith, low))

-- where the key stands among the old columns
key-place : (p : ℕ) → IsPlace old_names (0 ∷ 1 ∷ 2 ∷ []) (codes "id") p → p ≡ 0
key-place zero h = refl
key-place (suc zero) h = absurd (let e = first-byte (codes "city") (codes "id") h.1 in omega (arith, e))
key-place (suc (suc zero)) h = absurd (let e = first-byte (codes "amount") (codes "id") h.1 in omega (arith, e))
key-place (suc (suc (suc p))) h = absurd (let within : suc (suc (suc p)) < 3 = h.0 in omega (arith, within))

-- how both texts are laid out
pub record IsExampleLayout (layout : Layout) : Type 0 where
  pub left : layout.left.items ≡ 0 ∷ 1 ∷ 2 ∷ []
  pub right : layout.right.items ≡ 1 ∷ 2 ∷ 0 ∷ []
  pub keys : layout.keys.items ≡ 0 ∷ []
  pub left_alone : layout.left_alone.items ≡ []
  pub right_alone : layout.right_alone.items ≡ []

pub example_layout : (layout : Layout) → IsLayout old_names new_names by_id layout → IsExampleLayout layout
example_layout layout h = record {
  left = left;
  right = sym (same_items (1 ∷ 2 ∷ 0 ∷ []) layout.right.items many (λ k within. sym (new-column k (slice_index layout.right.items k) within (named k within))));
  keys = sym (same_items (0 ∷ []) layout.keys.items (sym h.key_places.one_each) keyed);
  left_alone = one_listing (IsAlone by_id old_names new_names) 3 layout.left_alone.items [] h.left_alone old-alone;
  right_alone = one_listing (IsAlone by_id new_names old_names) 3 layout.right_alone.items [] h.right_alone new-alone;
}
  where
    left : layout.left.items ≡ 0 ∷ 1 ∷ 2 ∷ []
    left = one_listing (IsCompared by_id old_names new_names) 3 layout.left.items (0 ∷ 1 ∷ 2 ∷ []) h.compared old-compared

    names : HaveSameNames old_names new_names (0 ∷ 1 ∷ 2 ∷ []) layout.right.items
    names = subst (λ columns. HaveSameNames old_names new_names columns layout.right.items) left h.same_names

    many : 3 ≡ length layout.right.items
    many = names.one_length

    named : (k : ℕ) → k < 3 → IsNamed new_names (name_at old_names k) (slice_index layout.right.items k)
    named zero within = names.same 0 within
    named (suc zero) within = names.same 1 within
    named (suc (suc zero)) within = names.same 2 within
    named (suc (suc (suc k))) within = absurd (omega (arith, within))

    places : AreKeyPlaces old_names (0 ∷ 1 ∷ 2 ∷ []) (codes "id" ∷ []) layout.keys.items
    places = subst (λ columns. AreKeyPlaces old_names columns (codes "id" ∷ []) layout.keys.items) left h.key_places

    keyed : (k : ℕ) → k < 1 → slice_index (0 ∷ []) k ≡ slice_index layout.keys.items k
    keyed zero within = sym (key-place (slice_index layout.keys.items 0) (places.place 0 (let one : length layout.keys.items ≡ 1 = places.one_each in omega (arith, one))))
    keyed (suc k) within = absurd (omega (arith, within))
