-- Second copies of the parts of an array make a second copy of the array.
use Rattle.std.proofs.Common.{◌≡◌, ◌<◌, ◌+◌, ℕ, suc, List, [], ◌∷◌, length, get_or, refl, ap, sym, subst, ◌∙◌, arith, ◌*◌, ◌++◌, inl, inr, length-append, ◌-◌, cond}
use Rattle.std.specs.Prelude.{Result, Ok, Err, MatchResult}
use Rattle.std.specs.Result.{IsOkAnd}
use Rattle.std.proofs.Math.Seq.{get_or-append_seam}
use Rattle.std.proofs.lemmas.Bool.{cases_lt}
use Rattle.std.proofs.lemmas.List.{get_or_append_left, get_or_default}
use Rattle.polars_arrays_bits.specs.Errors.{IsMemory}
use Rattle.polars_arrays_bits.specs.declared.error.ComputeError.{ComputeError}
use Rattle.polars_arrays_flat.specs.DataType.{kind_of, kinds_of}
use Rattle.polars_arrays_flat.specs.Kind.{StructKind}
use Rattle.polars_arrays_flat.specs.Row.{Rows}
use Rattle.polars_arrays_flat.specs.StoredRows.{kept}
use Rattle.polars_arrays_flat.specs.Validity.{is_present}
use Rattle.polars_arrays_flat.specs.declared.data_type.Field.{Field}
use Rattle.polars_arrays_nested.specs.AnyRows.{entry_row, row}
use Rattle.polars_arrays_nested.specs.Clones.{IsClone}
use Rattle.polars_arrays_nested.specs.Columns.{AreColumns, ColumnsAlike, columns_leaves, rows_at}
use Rattle.polars_arrays_nested.specs.ColumnLaws.{alike-struct, good-struct, leaves-struct, row-struct, struct-good}
use Rattle.polars_arrays_nested.specs.DictKeys.{key_at, key_validity}
use Rattle.polars_arrays_nested.specs.GoodParts.{IsGood}
use Rattle.polars_arrays_nested.specs.KeptAlike.{KeptAlike}
use Rattle.polars_arrays_nested.specs.Leaves.{leaves}
use Rattle.polars_arrays_nested.specs.Lengths.{len_of}
use Rattle.polars_arrays_nested.specs.ListOffsets.{offset_at, span}
use Rattle.polars_arrays_nested.specs.Parts.{columns, struct_fields, struct_validity}
use Rattle.polars_arrays_nested.specs.Types.{kind_of_lists, type_of}
use Rattle.polars_arrays_nested.specs.declared.any_array.AnyArray.{AnyArray, FixedSizeList, Struct, Dictionary}
use Rattle.polars_arrays_nested.specs.declared.any_array.AnyArray.{List as Lists}
use Rattle.polars_arrays_nested.specs.declared.dictionary.DictionaryArray.{DictionaryArray}
use Rattle.polars_arrays_nested.specs.declared.fixed_size_list.FixedSizeListArray.{FixedSizeListArray}
use Rattle.polars_arrays_nested.specs.declared.list.ListArray.{ListArray}
use Rattle.polars_arrays_nested.specs.declared.struct_array.StructArray.{StructArray}
use Rattle.polars_arrays_nested.proofs.Cuts.{totals_agree, windows_agree}
use Rattle.polars_arrays_nested.proofs.KeptAlike.{alike-same}

pub clone-same : (a b : AnyArray) → a ≡ b → IsClone a b
clone-same a b same = record {
  one_type = ap type_of same;
  as_long = ap len_of same;
  same_rows = λ i. ap (λ x. row x i) same;
  same_leaves = λ i m. ap (λ x. leaves x i m) same;
  alike = λ i m. subst (λ x. KeptAlike x b i i m) (sym same) (alike-same b i m);
  good = λ good. subst IsGood (sym same) good;
}

pub clone-list : (a b : ListArray) → a.offsets ≡ b.offsets → IsClone a.values.value b.values.value → a.validity ≡ b.validity → IsClone (Lists a) (Lists b)
clone-list a b offsets child mask = record {
  one_type = rw offsets (ap (kind_of_lists b.offsets) child.one_type);
  as_long = rw offsets refl;
  same_rows = λ i.
      rw (offsets, mask)
      (ap (λ r. kept (is_present b.validity i) (Rows r))
      (windows_agree (λ k. row a.values.value k) (λ k. row b.values.value k) (offset_at b.offsets i) (offset_at b.offsets i) (span b.offsets i) (λ k low. child.same_rows (offset_at b.offsets i + k))));
  same_leaves = λ i m.
      rw offsets (child.same_leaves (offset_at b.offsets i) (offset_at b.offsets (i + m) - offset_at b.offsets i));
  alike = λ i m k low. record {
    masks = rw mask refl;
    spans = rw offsets refl;
    items = rw offsets (child.alike (offset_at b.offsets (i + k)) (span b.offsets (i + k)));
  };
  good = λ good. (
    record { bits = rw (offsets, mask) good.0.bits; good = rw (offsets, child.as_long) good.0.good },
    child.good good.1,
  );
}

pub clone-fixed : (a b : FixedSizeListArray) → a.width ≡ b.width → a.len ≡ b.len → IsClone a.values.value b.values.value → a.validity ≡ b.validity → IsClone (FixedSizeList a) (FixedSizeList b)
clone-fixed a b width len child mask = record {
  one_type = rw (width, child.one_type) refl;
  as_long = len;
  same_rows = λ i.
      rw (width, mask)
      (ap (λ r. kept (is_present b.validity i) (Rows r))
      (windows_agree (λ k. row a.values.value k) (λ k. row b.values.value k) (b.width * i) (b.width * i) b.width (λ k low. child.same_rows (b.width * i + k))));
  same_leaves = λ i m. rw width (child.same_leaves (b.width * i) (b.width * m));
  alike = λ i m. (width, rw width (child.alike (b.width * i) (b.width * m)));
  good = λ good. (
    record { bits = rw (len, mask) good.0.bits; items = rw (child.as_long, width, len) good.0.items },
    child.good good.1,
  );
}

pub clone-dictionary : (a b : DictionaryArray) → a.keys ≡ b.keys → IsClone a.values.value b.values.value → IsClone (Dictionary a) (Dictionary b)
clone-dictionary a b keys child = record {
  one_type = rw (keys, child.one_type) refl;
  as_long = rw keys refl;
  same_rows = λ i.
      rw keys (ap (λ r. kept (is_present (key_validity b.keys) i) (entry_row r)) (child.same_rows (key_at b.keys i)));
  same_leaves = λ i m.
      totals_agree
      (λ k. cond (is_present (key_validity a.keys) k) (leaves a.values.value (key_at a.keys k) 1) 0)
      (λ k. cond (is_present (key_validity b.keys) k) (leaves b.values.value (key_at b.keys k) 1) 0)
      i i m
      (λ k low.
      rw keys (ap (λ (slots : ℕ). cond (is_present (key_validity b.keys) (i + k)) slots 0) (child.same_leaves (key_at b.keys (i + k)) 1)));
  alike = λ i m k low. record {
    masks = rw keys refl;
    entries = λ here. rw keys (child.alike (key_at b.keys (i + k)) 1);
  };
  good = λ good. (record { named = rw (keys, child.as_long) good.0.named }, child.good good.1);
}

clone-columns : (fs gs : List Field) (len : ℕ) (xs ys : List AnyArray) → kinds_of fs ≡ kinds_of gs → AreColumns gs len ys → length xs ≡ length ys → ((i : ℕ) (d : AnyArray) → i < length ys → IsClone (get_or xs i d) (get_or ys i d)) → AreColumns fs len xs
clone-columns [] [] len [] [] same good many each = good
clone-columns (f ∷ fs) [] len xs ys same good many each = absurd (let e : ⊥ = cc in e)
clone-columns [] (g ∷ gs) len xs ys same good many each = absurd (let e : ⊥ = cc in e)
clone-columns [] [] len (x ∷ xs) [] same good many each = absurd (omega arith)
clone-columns [] [] len [] (y ∷ ys) same good many each = absurd (omega arith)
clone-columns [] [] len (x ∷ xs) (y ∷ ys) same good many each = good
clone-columns (f ∷ fs) (g ∷ gs) len [] [] same good many each = good
clone-columns (f ∷ fs) (g ∷ gs) len (x ∷ xs) [] same good many each = absurd (omega arith)
clone-columns (f ∷ fs) (g ∷ gs) len [] (y ∷ ys) same good many each = absurd (omega arith)
clone-columns (f ∷ fs) (g ∷ gs) len (x ∷ xs) (y ∷ ys) same good many each =
    let first : IsClone x y = each 0 x (omega arith) in
    let kind : kind_of g.dtype ≡ kind_of f.dtype = cc in
    let rest : kinds_of fs ≡ kinds_of gs = cc in
    (first.as_long ∙ good.0, first.one_type ∙ good.1 ∙ kind, first.good good.2, clone-columns fs gs len xs ys rest good.3 (omega arith) (λ i d low. each (suc i) d (omega arith)))

clone-rows_at : (xs ys : List AnyArray) → length xs ≡ length ys → ((i : ℕ) (d : AnyArray) → i < length ys → IsClone (get_or xs i d) (get_or ys i d)) → (j : ℕ) → rows_at xs j ≡ rows_at ys j
clone-rows_at [] [] many each j = refl
clone-rows_at [] (y ∷ ys) many each j = absurd (omega arith)
clone-rows_at (x ∷ xs) [] many each j = absurd (omega arith)
clone-rows_at (x ∷ xs) (y ∷ ys) many each j =
    let first : IsClone x y = each 0 x (omega arith) in
    let one = first.same_rows j in
    let rest = clone-rows_at xs ys (omega arith) (λ i d low. each (suc i) d (omega arith)) j in
    cc

clone-columns_leaves : (xs ys : List AnyArray) → length xs ≡ length ys → ((i : ℕ) (d : AnyArray) → i < length ys → IsClone (get_or xs i d) (get_or ys i d)) → (j m : ℕ) → columns_leaves xs j m ≡ columns_leaves ys j m
clone-columns_leaves [] [] many each j m = refl
clone-columns_leaves [] (y ∷ ys) many each j m = absurd (omega arith)
clone-columns_leaves (x ∷ xs) [] many each j m = absurd (omega arith)
clone-columns_leaves (x ∷ xs) (y ∷ ys) many each j m =
    let first : IsClone x y = each 0 x (omega arith) in
    let one = first.same_leaves j m in
    let rest = clone-columns_leaves xs ys (omega arith) (λ i d low. each (suc i) d (omega arith)) j m in
    omega (arith, one, rest)

clone-columns_alike : (xs ys : List AnyArray) → length xs ≡ length ys → ((i : ℕ) (d : AnyArray) → i < length ys → IsClone (get_or xs i d) (get_or ys i d)) → (j m : ℕ) → ColumnsAlike xs ys j j m
clone-columns_alike [] [] many each j m = tt
clone-columns_alike [] (y ∷ ys) many each j m = absurd (omega arith)
clone-columns_alike (x ∷ xs) [] many each j m = absurd (omega arith)
clone-columns_alike (x ∷ xs) (y ∷ ys) many each j m =
    let first : IsClone x y = each 0 x (omega arith) in
    (first.alike j m, clone-columns_alike xs ys (omega arith) (λ i d low. each (suc i) d (omega arith)) j m)

pub clone-struct : (a b : StructArray) → kinds_of (struct_fields a) ≡ kinds_of (struct_fields b) → a.len ≡ b.len → length (columns a) ≡ length (columns b) → ((i : ℕ) (d : AnyArray) → i < length (columns b) → IsClone (get_or (columns a) i d) (get_or (columns b) i d)) → struct_validity a ≡ struct_validity b → IsClone (Struct a) (Struct b)
clone-struct a b kinds len many each mask = record {
  one_type = ap StructKind kinds;
  as_long = len;
  same_rows = λ i. row-struct a i ∙ rw (mask, clone-rows_at (columns a) (columns b) many each i) (sym (row-struct b i));
  same_leaves = λ i m.
      leaves-struct a i m ∙ clone-columns_leaves (columns a) (columns b) many each i m ∙ sym (leaves-struct b i m);
  alike = λ i m. alike-struct a b i i m (clone-columns_alike (columns a) (columns b) many each i m);
  good = λ good.
      let known = good-struct b good in
      struct-good a (rw (mask, len) known.0) (rw len (clone-columns (struct_fields a) (struct_fields b) b.len (columns a) (columns b) kinds known.1 many each));
}

-- one more was copied
pub copies-more : {A : Type 0} (IsCopy : A → A → Type 0) (copies before all : List A) (copy one : A) (i : ℕ) → copies ≡ before ++ (copy ∷ []) → length before ≡ i → i < length all → one ≡ get_or all i one → IsCopy copy one → ((k : ℕ) (d : A) → k < i → IsCopy (get_or before k d) (get_or all k d)) → (length copies ≡ i + 1) × ((k : ℕ) (d : A) → k < i + 1 → IsCopy (get_or copies k d) (get_or all k d))
copies-more {A} IsCopy copies before all copy one i pushed many low was copied each = (
  ap (λ (l : List A). length l) pushed ∙ omega (arith, many, length-append before (copy ∷ [])),
  λ k d below.
      rw pushed (elim (cases_lt k i) [
        | inl less ↦ subst (λ z. IsCopy z (get_or all k d)) (sym (get_or_append_left before (copy ∷ []) d k (omega (arith, less, many)))) (each k d less)
        | inr past ↦
            let e : k ≡ i = omega (arith, below, past) in
            let here : one ≡ get_or all i d = was ∙ get_or_default all i one d low in
            let there : get_or (before ++ (copy ∷ [])) i d ≡ copy = subst (λ (j : ℕ). get_or (before ++ (copy ∷ [])) j d ≡ copy) many (get_or-append_seam before copy [] d) in
            subst (λ j. IsCopy (get_or (before ++ (copy ∷ [])) j d) (get_or all j d)) (sym e) (subst (λ z. IsCopy z (get_or all i d)) (sym there) (subst (λ z. IsCopy copy z) here copied))
      ]),
)

-- a second copy of the part that makes an array makes one of the array
pub clone-made : {A : Type 0} (make : A → AnyArray) (part : A) (whole : AnyArray) (copied : Result A ComputeError) (made : Result AnyArray ComputeError) → whole ≡ make part → MatchResult copied (λ x. x ≡ part) IsMemory → MatchResult copied (λ x. IsOkAnd made (λ r. r ≡ make x)) (λ e. made ≡ Err e) → MatchResult made (λ r. IsClone r whole) IsMemory
clone-made make part whole (Ok x) (Ok r) is same of = clone-same r whole (of ∙ ap make same ∙ sym is)
clone-made make part whole (Ok x) (Err e) is same of = absurd of
clone-made make part whole (Err e) made is memory of =
    subst (λ (m : Result AnyArray ComputeError). MatchResult m (λ r. IsClone r whole) IsMemory) (sym of) memory

-- and where the part holds arrays
pub clone-made_of : {A : Type 0} (make : A → AnyArray) (part : A) (whole : AnyArray) (copied : Result A ComputeError) (made : Result AnyArray ComputeError) → whole ≡ make part → MatchResult copied (λ x. IsClone (make x) (make part)) IsMemory → MatchResult copied (λ x. IsOkAnd made (λ r. r ≡ make x)) (λ e. made ≡ Err e) → MatchResult made (λ r. IsClone r whole) IsMemory
clone-made_of make part whole (Ok x) (Ok r) is clone of =
    subst (IsClone r) (sym is) (subst (λ a. IsClone a (make part)) (sym of) clone)
clone-made_of make part whole (Ok x) (Err e) is clone of = absurd of
clone-made_of make part whole (Err e) made is memory of =
    subst (λ (m : Result AnyArray ComputeError). MatchResult m (λ r. IsClone r whole) IsMemory) (sym of) memory

pub ruleset copies = (clone-same, clone-list, clone-fixed, clone-dictionary)
