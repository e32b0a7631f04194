-- What slices of the parts of an array make of the array.
use Rattle.std.proofs.Common.{◌≡◌, ◌<◌, ◌≤◌, ◌+◌, ◌*◌, ℕ, ℤ, Bool, zero, suc, true, List, [], ◌∷◌, length, get_or, drop, refl, ap, sym, subst, ◌∙◌, arith, add-zero, inl, inr, set, ◌≢◌, cond}
use Rattle.std.specs.Prelude.{Option, None}
use Rattle.std.proofs.Math.Nat.{mul-add, mul-le-mul_left}
use Rattle.std.proofs.lemmas.Bool.{cases_lt}
use Rattle.std.proofs.lemmas.List.{length-drop, length-take, get_or-set_other, get_or-set_same, get_or_default}
use Rattle.std.proofs.lemmas.Nat.{mul-add-lt}
use Rattle.polars_arrays_bytes.specs.OffsetStrings.{OffsetStrings, offset_rows, place_at, row_count}
use Rattle.polars_arrays_bytes.specs.SizedStrings.{SizedStrings, sized_rows}
use Rattle.polars_arrays_flat.specs.ArrayRows.{number_rows, truth_rows}
use Rattle.polars_arrays_flat.specs.DataType.{kinds_of}
use Rattle.polars_arrays_flat.specs.Flat.{Flat}
use Rattle.polars_arrays_flat.specs.Kind.{FixedSizeBinaryKind, Kind, StructKind}
use Rattle.polars_arrays_flat.specs.Numbers.{Numbers}
use Rattle.polars_arrays_flat.specs.Row.{Row, Rows}
use Rattle.polars_arrays_flat.specs.StoredRows.{kept}
use Rattle.polars_arrays_flat.specs.StoredRows.{row as row_at}
use Rattle.polars_arrays_flat.specs.Validity.{is_present, validity_window, window}
use Rattle.polars_arrays_flat.specs.declared.data_type.Field.{Field}
use Rattle.polars_arrays_nested.specs.AnyRows.{row, rows_from}
use Rattle.polars_arrays_nested.specs.Columns.{AreColumns, ColumnsAlike, columns_leaves, rows_at}
use Rattle.polars_arrays_nested.specs.ColumnLaws.{alike-struct, good-struct, leaves-struct, row-struct, struct-good}
use Rattle.polars_arrays_nested.specs.Cuts.{IsCut}
use Rattle.polars_arrays_nested.specs.DictKeys.{key_at, key_count, key_places, key_type, key_validity}
use Rattle.polars_arrays_nested.specs.GoodParts.{IsGood}
use Rattle.polars_arrays_nested.specs.KeptAlike.{KeptAlike}
use Rattle.polars_arrays_nested.specs.Leaves.{leaves, total}
use Rattle.polars_arrays_nested.specs.Lengths.{len_of}
use Rattle.polars_arrays_nested.specs.ListOffsets.{is_large, list_count, list_places, offset_at, span}
use Rattle.polars_arrays_nested.specs.Parts.{columns, struct_fields, struct_validity}
use Rattle.polars_arrays_nested.specs.Places.{place_or_zero}
use Rattle.polars_arrays_nested.specs.Types.{kind_of_lists, type_of}
use Rattle.polars_arrays_nested.specs.declared.any_array.AnyArray.{AnyArray, FixedSizeBinary, FixedSizeList, Null, Struct, Dictionary}
use Rattle.polars_arrays_nested.specs.declared.any_array.AnyArray.{List as Lists}
use Rattle.polars_arrays_nested.specs.declared.dict_keys.DictKeys.{DictKeys}
use Rattle.polars_arrays_nested.specs.declared.dictionary.DictionaryArray.{DictionaryArray}
use Rattle.polars_arrays_nested.specs.declared.fixed_size_list.FixedSizeListArray.{FixedSizeListArray}
use Rattle.polars_arrays_nested.specs.declared.list.ListArray.{ListArray}
use Rattle.polars_arrays_nested.specs.declared.list_offsets.ListOffsets.{ListOffsets}
use Rattle.polars_arrays_nested.specs.declared.list_offsets.ListOffsets.TheVariants.{Small, Large}
use Rattle.polars_arrays_nested.specs.declared.struct_array.StructArray.{StructArray}
use Rattle.polars_arrays_views.specs.Parts.{ViewParts, view_rows}
use Rattle.polars_arrays_nested.proofs.KeptAlike.{alike-same}
use Rattle.polars_arrays_nested.proofs.Windows.{bits-window, get_or-window, good-window, length-window, one_more, present-window, row-window}

-- a kind of array of one level: how many rows each has, and which they are
pub record IsLeaf {A : Type 0} (make : A → AnyArray) (rows : A → List Row) (count : A → ℕ) : Type 0 where
  pub one_type : (a b : A) → type_of (make a) ≡ type_of (make b)
  pub as_long : (a : A) → len_of (make a) ≡ count a
  pub row_is : (a : A) (i : ℕ) → row (make a) i ≡ row_at (rows a) i
  pub leaves_are : (a : A) (i m : ℕ) → leaves (make a) i m ≡ m
  pub alike : (a b : A) (i j m : ℕ) → KeptAlike (make a) (make b) i j m
  pub good : (a : A) → IsGood (make a)

-- a window of the rows of an array of one level
cut-leaf : {A : Type 0} (make : A → AnyArray) (rows : A → List Row) (count : A → ℕ) (kind : IsLeaf make rows count) (a b : A) (at n : ℕ) → count a ≡ n → rows a ≡ window at n (rows b) → IsCut (make a) (make b) at n
cut-leaf make rows count kind a b at n long cut = record {
  one_type = kind.one_type a b;
  as_long = kind.as_long a ∙ long;
  same_rows = λ i low. kind.row_is a i ∙ row-window at n (rows a) (rows b) i cut low ∙ sym (kind.row_is b (at + i));
  same_leaves = λ i m low. kind.leaves_are a i m ∙ sym (kind.leaves_are b (at + i) m);
  alike = λ i m low. kind.alike a b i (at + i) m;
  good = kind.good a;
}

-- nulls are alike
pub cut-nulls : (a b at n : ℕ) → a ≡ n → IsCut (Null a) (Null b) at n
cut-nulls a b at n long = record {
  one_type = refl;
  as_long = long;
  same_rows = λ i low. refl;
  same_leaves = λ i m low. refl;
  alike = λ i m low. tt;
  good = tt;
}

pub cut-truths : (make : Flat Bool → AnyArray) → IsLeaf make truth_rows (λ a. length a.values) → (a b : Flat Bool) (at n : ℕ) → at + n ≤ length b.values → a ≡ record { values = window at n b.values; validity = validity_window at n b.validity } → truth_rows a ≡ window at n (truth_rows b) → IsCut (make a) (make b) at n
cut-truths make kind a b at n within stored cut =
    cut-leaf make truth_rows (λ a. length a.values) kind a b at n (ap (λ (x : Flat Bool). length x.values) stored ∙ length-window at n b.values within) cut

pub cut-numbers : {A : Type 0} (value : A → ℤ) (make : Numbers A → AnyArray) → IsLeaf make (number_rows value) (λ a. length a.values) → (a b : Numbers A) (at n : ℕ) → at + n ≤ length b.values → a ≡ record { values = window at n b.values; validity = validity_window at n b.validity; owned = b.owned } → number_rows value a ≡ window at n (number_rows value b) → IsCut (make a) (make b) at n
cut-numbers {A} value make kind a b at n within stored cut =
    cut-leaf make (number_rows value) (λ a. length a.values) kind a b at n (ap (λ (x : Numbers A). length x.values) stored ∙ length-window at n b.values within) cut

pub cut-strings : {A : Type 0} (value : A → ℤ) (make : OffsetStrings A → AnyArray) → IsLeaf make (offset_rows value) (λ a. row_count a.offsets) → (a b : OffsetStrings A) (at n : ℕ) → at + n ≤ row_count b.offsets → a ≡ record { offsets = window at (n + 1) b.offsets; values = b.values; validity = validity_window at n b.validity } → offset_rows value a ≡ window at n (offset_rows value b) → IsCut (make a) (make b) at n
cut-strings {A} value make kind a b at n within stored cut =
    let kept : length a.offsets ≡ length (window at (n + 1) b.offsets) = ap (λ (x : OffsetStrings A). length x.offsets) stored in
    let long : row_count a.offsets ≡ n = omega (arith, within, kept, length-take (n + 1) (drop at b.offsets), length-drop at b.offsets) in
    cut-leaf make (offset_rows value) (λ a. row_count a.offsets) kind a b at n long cut

pub cut-views : (make : ViewParts → AnyArray) → IsLeaf make view_rows (λ a. length a.views) → (a b : ViewParts) (at n : ℕ) → at + n ≤ length b.views → a ≡ record { views = window at n b.views; buffers = b.buffers; validity = validity_window at n b.validity } → view_rows a ≡ window at n (view_rows b) → IsCut (make a) (make b) at n
cut-views make kind a b at n within stored cut =
    cut-leaf make view_rows (λ a. length a.views) kind a b at n (ap (λ (x : ViewParts). length x.views) stored ∙ length-window at n b.views within) cut

pub cut-sized : (a b : SizedStrings) (at n : ℕ) → a ≡ record { size = b.size; count = n; values = window (b.size * at) (b.size * n) b.values; validity = validity_window at n b.validity } → sized_rows a ≡ window at n (sized_rows b) → IsCut (FixedSizeBinary a) (FixedSizeBinary b) at n
cut-sized a b at n stored cut = record {
  one_type = ap (λ (x : SizedStrings). FixedSizeBinaryKind x.size) stored;
  as_long = ap (λ (x : SizedStrings). x.count) stored;
  same_rows = λ i low. row-window at n (sized_rows a) (sized_rows b) i cut low;
  same_leaves = λ i m low. refl;
  alike = λ i m low. tt;
  good = tt;
}

-- windows of the same rows are the same
pub windows_agree : (f g : ℕ → Row) (p q n : ℕ) → ((k : ℕ) → k < n → f (p + k) ≡ g (q + k)) → rows_from f p n ≡ rows_from g q n
windows_agree f g p q zero h = refl
windows_agree f g p q (suc n) h =
    let first : f p ≡ g q =
    (let at : f (p + 0) ≡ g (q + 0) = h 0 (omega arith) in rw (add-zero, add-zero) at at) in
    let rest = windows_agree f g (p + 1) (q + 1) n
    (λ k low.
    let at : f (p + suc k) ≡ g (q + suc k) = h (suc k) (omega arith) in
    let i' : p + 1 + k ≡ p + suc k = omega arith in
    let j' : q + 1 + k ≡ q + suc k = omega arith in
    rw (i', j') at) in
    cc

-- sums of the same numbers are the same
pub totals_agree : (f g : ℕ → ℕ) (p q n : ℕ) → ((k : ℕ) → k < n → f (p + k) ≡ g (q + k)) → total f p n ≡ total g q n
totals_agree f g p q zero h = refl
totals_agree f g p q (suc n) h =
    let last : f (p + n) ≡ g (q + n) = h n (omega arith) in
    let rest = totals_agree f g p q n (λ k low. h k (omega (arith, low))) in
    omega (arith, last, rest)

-- offsets of one width make lists of one kind
kind-offsets : (a b : ListOffsets) (item : Kind) → is_large a ≡ is_large b → kind_of_lists a item ≡ kind_of_lists b item
kind-offsets (Small a) (Small b) item same = refl
kind-offsets (Large a) (Large b) item same = refl
kind-offsets (Small a) (Large b) item same = cc
kind-offsets (Large a) (Small b) item same = cc

-- an offset of a window of offsets
offset-window : (a b : ListOffsets) (at n i : ℕ) → list_places a ≡ window at (n + 1) (list_places b) → i < n + 1 → offset_at a i ≡ offset_at b (at + i)
offset-window a b at n i cut below =
    ap place_or_zero (ap (λ (all : List (Option ℕ)). place_at all i) cut ∙ get_or-window at (n + 1) (list_places b) i None below)

-- lists between a window of offsets
pub cut-list : (a b : ListArray) (at n : ℕ) → IsGood (Lists b) → at + n ≤ list_count b.offsets → list_places a.offsets ≡ window at (n + 1) (list_places b.offsets) → is_large a.offsets ≡ is_large b.offsets → a.values ≡ b.values → a.validity ≡ validity_window at n b.validity → IsCut (Lists a) (Lists b) at n
cut-list a b at n good within cut same values mask =
    let inside = one_more (len_of b.values.value) (list_places b.offsets) (at + n) good.0.good within in
    let long : list_count a.offsets ≡ n =
    (let e : length (list_places a.offsets) ≡ n + 1 = ap (λ (all : List (Option ℕ)). length all) cut ∙ length-window at (n + 1) (list_places b.offsets) (omega (arith, inside)) in omega (arith, e)) in
    record {
      one_type = kind-offsets a.offsets b.offsets (type_of a.values.value) same ∙ ap (λ v. kind_of_lists b.offsets (type_of v.value)) values;
      as_long = long;
      same_rows = λ i low.
          let from = offset-window a.offsets b.offsets at n i cut (omega (arith, low)) in
          let next : at + (i + 1) ≡ at + i + 1 = omega arith in
          let to = offset-window a.offsets b.offsets at n (i + 1) cut (omega (arith, low)) ∙ ap (offset_at b.offsets) next in
          rw (values, mask, from, to, present-window at n b.validity i low) refl;
      same_leaves = λ i m low.
          let from = offset-window a.offsets b.offsets at n i cut (omega (arith, low)) in
          let next : at + (i + m) ≡ at + i + m = omega arith in
          let to = offset-window a.offsets b.offsets at n (i + m) cut (omega (arith, low)) ∙ ap (offset_at b.offsets) next in
          rw (values, from, to) refl;
      alike = λ i m low k low'.
          let below : i + k < n = omega (arith, low, low') in
          let place : at + (i + k) ≡ at + i + k = omega arith in
          let next : at + (i + k + 1) ≡ at + i + k + 1 = omega arith in
          let from = offset-window a.offsets b.offsets at n (i + k) cut (omega (arith, below)) ∙ ap (offset_at b.offsets) place in
          let to = offset-window a.offsets b.offsets at n (i + k + 1) cut (omega (arith, below)) ∙ ap (offset_at b.offsets) next in
          record {
            masks = rw mask (present-window at n b.validity (i + k) below ∙ ap (is_present b.validity) place);
            spans = rw (from, to) refl;
            items = rw (values, from, to) (alike-same b.values.value (offset_at b.offsets (at + i + k)) (span b.offsets (at + i + k)));
          };
      good = (
        record {
          bits = rw (mask, long) (bits-window (list_count b.offsets) at n b.validity good.0.bits within);
          good = rw (cut, values) (good-window (len_of b.values.value) at n (list_places b.offsets) good.0.good inside);
        },
        rw values good.1,
      );
    }

-- lists of one width over a slice of the items
pub cut-fixed : (a b : FixedSizeListArray) (at n : ℕ) → IsGood (FixedSizeList b) → at + n ≤ b.len → a.width ≡ b.width → a.len ≡ n → IsCut a.values.value b.values.value (b.width * at) (b.width * n) → a.validity ≡ validity_window at n b.validity → IsCut (FixedSizeList a) (FixedSizeList b) at n
cut-fixed a b at n good within ew el child mask = record {
  one_type = rw (ew, child.one_type) refl;
  as_long = el;
  same_rows = λ i low.
      rw (mask, present-window at n b.validity i low, ew)
      (ap (λ r. kept (is_present b.validity (at + i)) (Rows r))
      (windows_agree (λ k. row a.values.value k) (λ k. row b.values.value k) (b.width * i) (b.width * (at + i)) b.width
      (λ k low'.
      let w = b.width in
      let inside = mul-add-lt i w k n low low' in
      let e : b.width * (at + i) + k ≡ b.width * at + (b.width * i + k) = grind (arith, mul-add) in
      let l : b.width * i + k < b.width * n = omega (arith, inside) in
      rw e (child.same_rows (b.width * i + k) l))));
  same_leaves = λ i m low.
      let fits : b.width * (i + m) ≤ b.width * n = mul-le-mul_left b.width low in
      let inside : b.width * i + b.width * m ≤ b.width * n = omega (arith, fits) in
      let e : b.width * (at + i) ≡ b.width * at + b.width * i = omega arith in
      rw (ew, e) (child.same_leaves (b.width * i) (b.width * m) inside);
  alike = λ i m low.
      let fits : b.width * (i + m) ≤ b.width * n = mul-le-mul_left b.width low in
      let inside : b.width * i + b.width * m ≤ b.width * n = omega (arith, fits) in
      let e : b.width * (at + i) ≡ b.width * at + b.width * i = omega arith in
      (ew, rw (ew, e) (child.alike (b.width * i) (b.width * m) inside));
  good = (
    record {
      bits = rw (mask, el) (bits-window b.len at n b.validity good.0.bits within);
      items = rw (ew, el) child.as_long;
    },
    child.good,
  );
}

-- a key of a window of keys
key-window : (a b : DictKeys) (at n i : ℕ) → key_places a ≡ window at n (key_places b) → i < n → place_at (key_places a) i ≡ place_at (key_places b) (at + i)
key-window a b at n i cut below =
    ap (λ (all : List (Option ℕ)). place_at all i) cut ∙ get_or-window at n (key_places b) i None below

-- rows of a window of keys
pub cut-dictionary : (a b : DictionaryArray) (at n : ℕ) → IsGood (Dictionary b) → at + n ≤ key_count b.keys → key_places a.keys ≡ window at n (key_places b.keys) → key_validity a.keys ≡ validity_window at n (key_validity b.keys) → key_type a.keys ≡ key_type b.keys → a.values ≡ b.values → IsCut (Dictionary a) (Dictionary b) at n
cut-dictionary a b at n good within cut mask name values =
    let long : key_count a.keys ≡ n = ap (λ (all : List (Option ℕ)). length all) cut ∙ length-window at n (key_places b.keys) within in
    record {
      one_type = rw (name, values) refl;
      as_long = long;
      same_rows = λ i low.
          let key = ap place_or_zero (key-window a.keys b.keys at n i cut low) in
          rw (values, mask, key, present-window at n (key_validity b.keys) i low) refl;
      same_leaves = λ i m low.
          totals_agree
          (λ k. cond (is_present (key_validity a.keys) k) (leaves a.values.value (key_at a.keys k) 1) 0)
          (λ k. cond (is_present (key_validity b.keys) k) (leaves b.values.value (key_at b.keys k) 1) 0)
          i (at + i) m
          (λ k low'.
          let below : i + k < n = omega (arith, low, low') in
          let key = ap place_or_zero (key-window a.keys b.keys at n (i + k) cut below) in
          let place : at + (i + k) ≡ at + i + k = omega arith in
          rw (values, mask, key, present-window at n (key_validity b.keys) (i + k) below, place) refl);
      alike = λ i m low k low'.
          let below : i + k < n = omega (arith, low, low') in
          let place : at + (i + k) ≡ at + i + k = omega arith in
          let key = ap place_or_zero (key-window a.keys b.keys at n (i + k) cut below) ∙ ap (key_at b.keys) place in
          record {
            masks = rw mask (present-window at n (key_validity b.keys) (i + k) below ∙ ap (is_present (key_validity b.keys)) place);
            entries = λ here. rw (values, key) (alike-same b.values.value (key_at b.keys (at + i + k)) 1);
          };
      good = (
        record {
          named = λ i low here.
              let below : i < n = omega (arith, low, long) in
              let there : is_present (key_validity b.keys) (at + i) ≡ true = sym (present-window at n (key_validity b.keys) i below) ∙ sym (ap (λ v. is_present v i) mask) ∙ here in
              let entry = good.0.named (at + i) (omega (arith, below, within)) there in
              rw (values, key-window a.keys b.keys at n i cut below) entry;
        },
        rw values good.1,
      );
    }

-- what is known of one column
pub column_good : (fields : List Field) (n : ℕ) (xs : List AnyArray) → AreColumns fields n xs → (i : ℕ) (d : AnyArray) → i < length xs → IsGood (get_or xs i d) × (len_of (get_or xs i d) ≡ n)
column_good fields n [] h i d low = absurd (omega arith)
column_good [] n (x ∷ xs) h i d low = absurd h
column_good (field ∷ fields) n (x ∷ xs) h zero d low = (h.2, h.0)
column_good (field ∷ fields) n (x ∷ xs) h (suc i) d low = column_good fields n xs h.3 i d (omega arith)

cut-columns : (fields : List Field) (len at n : ℕ) (xs ys : List AnyArray) → AreColumns fields len ys → length xs ≡ length ys → ((i : ℕ) (d : AnyArray) → i < length ys → IsCut (get_or xs i d) (get_or ys i d) at n) → AreColumns fields n xs
cut-columns [] len at n [] [] h e k = h
cut-columns (field ∷ fields) len at n [] [] h e k = h
cut-columns fields len at n [] (y ∷ ys) h e k = absurd (omega arith)
cut-columns fields len at n (x ∷ xs) [] h e k = absurd (omega arith)
cut-columns [] len at n (x ∷ xs) (y ∷ ys) h e k = absurd h
cut-columns (field ∷ fields) len at n (x ∷ xs) (y ∷ ys) h e k =
    let first : IsCut x y at n = k 0 x (omega arith) in
    (first.as_long, first.one_type ∙ h.1, first.good, cut-columns fields len at n xs ys h.3 (omega arith) (λ i d low. k (suc i) d (omega arith)))

cut-rows_at : (at n : ℕ) (xs ys : List AnyArray) → length xs ≡ length ys → ((i : ℕ) (d : AnyArray) → i < length ys → IsCut (get_or xs i d) (get_or ys i d) at n) → (j : ℕ) → j < n → rows_at xs j ≡ rows_at ys (at + j)
cut-rows_at at n [] [] e k j low = refl
cut-rows_at at n [] (y ∷ ys) e k j low = absurd (omega arith)
cut-rows_at at n (x ∷ xs) [] e k j low = absurd (omega arith)
cut-rows_at at n (x ∷ xs) (y ∷ ys) e k j low =
    let first : IsCut x y at n = k 0 x (omega arith) in
    let one = first.same_rows j low in
    let rest = cut-rows_at at n xs ys (omega arith) (λ i d low'. k (suc i) d (omega arith)) j low in
    cc

cut-columns_leaves : (at n : ℕ) (xs ys : List AnyArray) → length xs ≡ length ys → ((i : ℕ) (d : AnyArray) → i < length ys → IsCut (get_or xs i d) (get_or ys i d) at n) → (j m : ℕ) → j + m ≤ n → columns_leaves xs j m ≡ columns_leaves ys (at + j) m
cut-columns_leaves at n [] [] e k j m low = refl
cut-columns_leaves at n [] (y ∷ ys) e k j m low = absurd (omega arith)
cut-columns_leaves at n (x ∷ xs) [] e k j m low = absurd (omega arith)
cut-columns_leaves at n (x ∷ xs) (y ∷ ys) e k j m low =
    let first : IsCut x y at n = k 0 x (omega arith) in
    let one = first.same_leaves j m low in
    let rest = cut-columns_leaves at n xs ys (omega arith) (λ i d low'. k (suc i) d (omega arith)) j m low in
    omega (arith, one, rest)

cut-columns_alike : (at n : ℕ) (xs ys : List AnyArray) → length xs ≡ length ys → ((i : ℕ) (d : AnyArray) → i < length ys → IsCut (get_or xs i d) (get_or ys i d) at n) → (j m : ℕ) → j + m ≤ n → ColumnsAlike xs ys j (at + j) m
cut-columns_alike at n [] [] e k j m low = tt
cut-columns_alike at n [] (y ∷ ys) e k j m low = absurd (omega arith)
cut-columns_alike at n (x ∷ xs) [] e k j m low = absurd (omega arith)
cut-columns_alike at n (x ∷ xs) (y ∷ ys) e k j m low =
    let first : IsCut x y at n = k 0 x (omega arith) in
    (first.alike j m low, cut-columns_alike at n xs ys (omega arith) (λ i d low'. k (suc i) d (omega arith)) j m low)

-- one column more was cut, of the columns zs that the struct had before
pub cuts-more : (xs zs : List AnyArray) (i : ℕ) (new old : AnyArray) (at n : ℕ) → length xs ≡ length zs → i < length zs → old ≡ get_or zs i old → IsCut new old at n → ((k : ℕ) (d : AnyArray) → k < i → IsCut (get_or xs k d) (get_or zs k d) at n) → (k : ℕ) (d : AnyArray) → k < i + 1 → IsCut (get_or (set xs i new) k d) (get_or zs k d) at n
cuts-more xs zs i new old at n many low was cut before k d below = elim (cases_lt k i) [
  | inl less ↦
      let other : k ≢ i = omega (arith, less) in
      subst (λ z. IsCut z (get_or zs k d) at n) (sym (get_or-set_other xs i k new d other)) (before k d less)
  | inr past ↦
      let e : k ≡ i = omega (arith, below, past) in
      let here : old ≡ get_or zs i d = was ∙ get_or_default zs i old d low in
      let there : get_or (set xs i new) i d ≡ new = get_or-set_same xs i new d (omega (arith, many, low)) in
      subst (λ j. IsCut (get_or (set xs i new) j d) (get_or zs j d) at n) (sym e) (subst (λ z. IsCut z (get_or zs i d) at n) (sym there) (subst (λ z. IsCut new z at n) here cut))
]

-- the columns after it are still those that the struct had before
pub unvisited-more : (xs zs : List AnyArray) (i : ℕ) (new : AnyArray) → ((k : ℕ) (d : AnyArray) → i ≤ k → get_or xs k d ≡ get_or zs k d) → (k : ℕ) (d : AnyArray) → i + 1 ≤ k → get_or (set xs i new) k d ≡ get_or zs k d
unvisited-more xs zs i new same k d past =
    let other : k ≢ i = omega (arith, past) in
    get_or-set_other xs i k new d other ∙ same k d (omega (arith, past))

-- structs whose columns were all cut
pub cut-struct : (a b : StructArray) (at n : ℕ) → IsGood (Struct b) → at + n ≤ b.len → a.fields ≡ b.fields → a.len ≡ n → length (columns a) ≡ length (columns b) → ((i : ℕ) (d : AnyArray) → i < length (columns b) → IsCut (get_or (columns a) i d) (get_or (columns b) i d) at n) → struct_validity a ≡ validity_window at n (struct_validity b) → IsCut (Struct a) (Struct b) at n
cut-struct a b at n good within ef el many each mask =
    let known = good-struct b good in
    record {
      one_type = ap (λ f. StructKind (kinds_of f.items)) ef;
      as_long = el;
      same_rows = λ i low.
          row-struct a i
          ∙ rw (mask, present-window at n (struct_validity b) i low, cut-rows_at at n (columns a) (columns b) many each i low) (sym (row-struct b (at + i)));
      same_leaves = λ i m low.
          leaves-struct a i m
          ∙ cut-columns_leaves at n (columns a) (columns b) many each i m low
          ∙ sym (leaves-struct b (at + i) m);
      alike = λ i m low.
          alike-struct a b i (at + i) m (cut-columns_alike at n (columns a) (columns b) many each i m low);
      good = struct-good a
          (rw (mask, el) (bits-window b.len at n (struct_validity b) known.0 within))
          (rw (ef, el) (cut-columns (struct_fields b) b.len at n (columns a) (columns b) known.1 many each));
    }

pub ruleset leaf_cuts = (length-window, row-window)

pub ruleset kept_parts = (cut-list, cut-dictionary, one_more)
