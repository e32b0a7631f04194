-- Bits that are joined place by place.
use Rattle.std.proofs.Common.{◌≡◌, ◌<◌, ◌∙◌, ◌&&◌, ℕ, zero, suc, Bool, true, false, List, [], ◌∷◌, Some, None, length, refl, ap, arith, slice_index_or}
use Rattle.std.proofs.lemmas.Simd.{get_or-zip2}
use Rattle.std.specs.Simd.Lanes.{zip2}
use Rattle.polars_arrays_bits.specs.Bits.{zip3}
use Rattle.polars_arrays_bits.specs.Logic.{or_not, merged_eq, merged_ne}
use Rattle.polars_compare_leaves.specs.Joining.{Joined, joined_bit}

pub length-zip2 : {A B C : Type 0} (f : A → B → C) (xs : List A) (ys : List B) → length ys ≡ length xs → length (zip2 f xs ys) ≡ length xs
length-zip2 f [] ys e = refl
length-zip2 f (x ∷ xs) [] e = absurd (omega arith)
length-zip2 f (x ∷ xs) (y ∷ ys) e = ap suc (length-zip2 f xs ys (omega arith))

length-zip3 : (f : Bool → Bool → Bool → Bool) (xs ys zs : List Bool) → length ys ≡ length xs → length zs ≡ length xs → length (zip3 f xs ys zs) ≡ length xs
length-zip3 f [] ys zs e k = refl
length-zip3 f (x ∷ xs) [] zs e k = absurd (omega arith)
length-zip3 f (x ∷ xs) (y ∷ ys) [] e k = absurd (omega arith)
length-zip3 f (x ∷ xs) (y ∷ ys) (z ∷ zs) e k = ap suc (length-zip3 f xs ys zs (omega arith) (omega arith))

zip3-at : (f : Bool → Bool → Bool → Bool) (xs ys zs : List Bool) (i : ℕ) → length ys ≡ length xs → length zs ≡ length xs → i < length xs → slice_index_or (zip3 f xs ys zs) i false ≡ f (slice_index_or xs i false) (slice_index_or ys i false) (slice_index_or zs i false)
zip3-at f [] ys zs i e k h = absurd (omega arith)
zip3-at f (x ∷ xs) [] zs i e k h = absurd (omega arith)
zip3-at f (x ∷ xs) (y ∷ ys) [] i e k h = absurd (omega arith)
zip3-at f (x ∷ xs) (y ∷ ys) (z ∷ zs) zero e k h = refl
zip3-at f (x ∷ xs) (y ∷ ys) (z ∷ zs) (suc i) e k h = zip3-at f xs ys zs i (omega arith) (omega arith) (omega arith)

-- a combination that joins each raw bit with its presence on one side, or on both
module _ (equal : Bool) (raw : List Bool) where
  pub joined-left : (f : Bool → Bool → Bool) → ((q p : Bool) → f q p ≡ joined_bit equal q p true)
      → (mask bits : List Bool) → length mask ≡ length raw → bits ≡ zip2 f raw mask → Joined equal (Some mask) None raw bits
  joined-left f is mask bits e b = record {
    size = rw b (length-zip2 f raw mask e);
    at_each = λ i h. rw b (get_or-zip2 f raw mask i false false false h (omega arith) ∙ is (slice_index_or raw i false) (slice_index_or mask i false));
  }

  pub joined-right : (f : Bool → Bool → Bool) → ((q p : Bool) → f q p ≡ joined_bit equal q true p)
      → (mask bits : List Bool) → length mask ≡ length raw → bits ≡ zip2 f raw mask → Joined equal None (Some mask) raw bits
  joined-right f is mask bits e b = record {
    size = rw b (length-zip2 f raw mask e);
    at_each = λ i h. rw b (get_or-zip2 f raw mask i false false false h (omega arith) ∙ is (slice_index_or raw i false) (slice_index_or mask i false));
  }

  pub joined-both : (f : Bool → Bool → Bool → Bool) → ((q l r : Bool) → f q l r ≡ joined_bit equal q l r)
      → (left right bits : List Bool) → length left ≡ length raw → length right ≡ length raw → bits ≡ zip3 f raw left right → Joined equal (Some left) (Some right) raw bits
  joined-both f is left right bits el er b = record {
    size = rw b (length-zip3 f raw left right el er);
    at_each = λ i h. rw b (zip3-at f raw left right i el er h ∙ is (slice_index_or raw i false) (slice_index_or left i false) (slice_index_or right i false));
  }

pub and-left : (q p : Bool) → (q && p) ≡ joined_bit true q p true
and-left true true = refl
and-left true false = refl
and-left false true = refl
and-left false false = refl

pub and-right : (q p : Bool) → (q && p) ≡ joined_bit true q true p
and-right true true = refl
and-right true false = refl
and-right false true = refl
and-right false false = refl

pub or_not-left : (q p : Bool) → or_not q p ≡ joined_bit false q p true
or_not-left true true = refl
or_not-left true false = refl
or_not-left false true = refl
or_not-left false false = refl

pub or_not-right : (q p : Bool) → or_not q p ≡ joined_bit false q true p
or_not-right true true = refl
or_not-right true false = refl
or_not-right false true = refl
or_not-right false false = refl

pub merged_eq-joins : (q l r : Bool) → merged_eq q l r ≡ joined_bit true q l r
merged_eq-joins true true true = refl
merged_eq-joins true true false = refl
merged_eq-joins true false true = refl
merged_eq-joins true false false = refl
merged_eq-joins false true true = refl
merged_eq-joins false true false = refl
merged_eq-joins false false true = refl
merged_eq-joins false false false = refl

pub merged_ne-joins : (q l r : Bool) → merged_ne q l r ≡ joined_bit false q l r
merged_ne-joins true true true = refl
merged_ne-joins true true false = refl
merged_ne-joins true false true = refl
merged_ne-joins true false false = refl
merged_ne-joins false true true = refl
merged_ne-joins false true false = refl
merged_ne-joins false false true = refl
merged_ne-joins false false false = refl
