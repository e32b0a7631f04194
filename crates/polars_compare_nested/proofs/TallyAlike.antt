-- Windows that are kept alike cost the same beside any other.
use Rattle.std.proofs.Common.{◌≡◌, ◌<◌, ◌+◌, ◌*◌, ◌&&◌, ℕ, zero, suc, eqb, Bool, true, false, cond, List, [], ◌∷◌, refl, ap, ◌∙◌, arith}
use Rattle.polars_arrays_flat.specs.Validity.{is_present}
use Rattle.polars_arrays_nested.specs.DictKeys.{key_at, key_validity}
use Rattle.polars_arrays_nested.specs.KeptAlike.{AcrossAlike}
use Rattle.polars_arrays_nested.specs.ListOffsets.{offset_at, span}
use Rattle.polars_arrays_nested.specs.declared.any_array.AnyArray.{AnyArray, Null, Boolean, Int8, Int16, Int32, Int64, Int128, UInt8, UInt16, UInt32, UInt64, UInt128, Binary, LargeBinary, Utf8, LargeUtf8, BinaryView, Utf8View, FixedSizeBinary, List', FixedSizeList', Struct', Dictionary', Row_of-AnyArray, end_of-AnyArray, more_of-AnyArray, items-the_row-AnyArray}
use Rattle.polars_compare_nested.specs.Tally.{entry_tally, pair_tally, tally, tally_across, total_pairs}
use Rattle.polars_compare_nested.specs.TallyLaws.{TallyIsKept, TallyOfClone, TallyOfCut}

-- sums of the same numbers are the same
pairs-agree : (f g : ℕ → ℕ → ℕ) (a a' b n : ℕ) → ((k : ℕ) → k < n → f (a + k) (b + k) ≡ g (a' + k) (b + k)) → total_pairs f a b n ≡ total_pairs g a' b n
pairs-agree f g a a' b zero h = refl
pairs-agree f g a a' b (suc n) h =
    let last : f (a + n) (b + n) ≡ g (a' + n) (b + n) = h n (omega arith) in
    let rest = pairs-agree f g a a' b n (λ k low. h k (omega (arith, low))) in
    omega (arith, last, rest)

-- two lists of one length and cost
lists-agree : (p p' q : Bool) (s s' t : ℕ) (cost cost' : ℕ → ℕ) → p ≡ p' → s ≡ s' → cost s ≡ cost' s → cond (p && q && eqb s t) (cost s) 0 ≡ cond (p' && q && eqb s' t) (cost' s') 0
lists-agree p p' q s s' t cost cost' masks spans same = rw (masks, same, spans) refl

-- two keys, whose entries cost the same where they are present
keys-agree : (p p' q : Bool) (cost cost' : ℕ) → p ≡ p' → (p ≡ true → cost ≡ cost') → cond (p && q) cost 0 ≡ cond (p' && q) cost' 0
keys-agree true true true cost cost' masks same = same refl
keys-agree true true false cost cost' masks same = refl
keys-agree true false q cost cost' masks same = cc
keys-agree false true q cost cost' masks same = cc
keys-agree false false q cost cost' masks same = refl

mutual
  pub tally-alike : TallyIsKept
  tally-alike (Null x) (Null x') y a a' b n alike = refl
  tally-alike (Boolean x) (Boolean x') y a a' b n alike = refl
  tally-alike (Int8 x) (Int8 x') y a a' b n alike = refl
  tally-alike (Int16 x) (Int16 x') y a a' b n alike = refl
  tally-alike (Int32 x) (Int32 x') y a a' b n alike = refl
  tally-alike (Int64 x) (Int64 x') y a a' b n alike = refl
  tally-alike (Int128 x) (Int128 x') y a a' b n alike = refl
  tally-alike (UInt8 x) (UInt8 x') y a a' b n alike = refl
  tally-alike (UInt16 x) (UInt16 x') y a a' b n alike = refl
  tally-alike (UInt32 x) (UInt32 x') y a a' b n alike = refl
  tally-alike (UInt64 x) (UInt64 x') y a a' b n alike = refl
  tally-alike (UInt128 x) (UInt128 x') y a a' b n alike = refl
  tally-alike (Binary x) (Binary x') y a a' b n alike = refl
  tally-alike (LargeBinary x) (LargeBinary x') y a a' b n alike = refl
  tally-alike (Utf8 x) (Utf8 x') y a a' b n alike = refl
  tally-alike (LargeUtf8 x) (LargeUtf8 x') y a a' b n alike = refl
  tally-alike (BinaryView x) (BinaryView x') y a a' b n alike = refl
  tally-alike (Utf8View x) (Utf8View x') y a a' b n alike = refl
  tally-alike (FixedSizeBinary x) (FixedSizeBinary x') y a a' b n alike = refl
  tally-alike (List' o p v m) (List' o' p' v' m') (List' r q w l) a a' b n alike =
      pairs-agree (pair_tally (λ i j s. tally v w i j s) o m r l) (pair_tally (λ i j s. tally v' w i j s) o' m' r l) a a' b n
      (λ k low.
      let lists = alike k low in
      lists-agree (is_present m (a + k)) (is_present m' (a' + k)) (is_present l (b + k)) (span o (a + k)) (span o' (a' + k)) (span r (b + k))
      (λ s. tally v w (offset_at o (a + k)) (offset_at r (b + k)) s) (λ s. tally v' w (offset_at o' (a' + k)) (offset_at r (b + k)) s)
      lists.masks lists.spans
      (tally-alike v v' w (offset_at o (a + k)) (offset_at o' (a' + k)) (offset_at r (b + k)) (span o (a + k)) lists.items))
  tally-alike (List' o p v m) (List' o' p' v' m') y a a' b n alike = refl
  tally-alike (FixedSizeList' width len p v m) (FixedSizeList' width' len' p' v' m') (FixedSizeList' size count q w l) a a' b n alike =
      tally-alike v v' w (width * a) (width * a') (width * b) (width * n) alike.1
      ∙ ap (λ (k : ℕ). tally v' w (k * a') (k * b) (k * n)) alike.0
  tally-alike (FixedSizeList' width len p v m) (FixedSizeList' width' len' p' v' m') y a a' b n alike = refl
  tally-alike (Struct' f len p v m) (Struct' f' len' p' v' m') (Struct' g count q w l) a a' b n alike =
      across-alike v v' (items-the_row-AnyArray _ w) a a' b n alike
  tally-alike (Struct' f len p v m) (Struct' f' len' p' v' m') y a a' b n alike = refl
  tally-alike (Dictionary' keys p v) (Dictionary' keys' p' v') (Dictionary' others q w) a a' b n alike =
      pairs-agree (entry_tally (λ i j s. tally v w i j s) keys others) (entry_tally (λ i j s. tally v' w i j s) keys' others) a a' b n
      (λ k low.
      let named = alike k low in
      keys-agree (is_present (key_validity keys) (a + k)) (is_present (key_validity keys') (a' + k)) (is_present (key_validity others) (b + k))
      (tally v w (key_at keys (a + k)) (key_at others (b + k)) 1) (tally v' w (key_at keys' (a' + k)) (key_at others (b + k)) 1)
      named.masks
      (λ here. tally-alike v v' w (key_at keys (a + k)) (key_at keys' (a' + k)) (key_at others (b + k)) 1 (named.entries here)))
  tally-alike (Dictionary' keys p v) (Dictionary' keys' p' v') y a a' b n alike = refl
  tally-alike x x' y a a' b n alike = absurd alike

  across-alike : {c : _} {c' : _} (all : Row_of-AnyArray c) (all' : Row_of-AnyArray c') (others : List AnyArray) (a a' b n : ℕ) → AcrossAlike all all' a a' n → tally_across all others a b n ≡ tally_across all' others a' b n
  across-alike end_of-AnyArray end_of-AnyArray others a a' b n alike = refl
  across-alike end_of-AnyArray (more_of-AnyArray first' rest') others a a' b n alike = absurd alike
  across-alike (more_of-AnyArray first rest) end_of-AnyArray others a a' b n alike = absurd alike
  across-alike (more_of-AnyArray first rest) (more_of-AnyArray first' rest') [] a a' b n alike = refl
  across-alike (more_of-AnyArray first rest) (more_of-AnyArray first' rest') (other ∷ others) a a' b n alike =
      let here = tally-alike first first' other a a' b n alike.0 in
      let there = across-alike rest rest' others a a' b n alike.1 in
      omega (arith, here, there)

pub tally-cut : TallyOfCut
tally-cut x y other at n cut i m b within = tally-alike x y other i (at + i) b m (cut.alike i m within)

pub tally-clone : TallyOfClone
tally-clone x y other clone a b n = tally-alike x y other a a b n (clone.alike a n)
