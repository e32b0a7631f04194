-- Lists as columns of their items, and arrays that stand for them.
use denote.RawPtr.{null_ptr}
use Rattle.std.proofs.Common.{◌≡◌, ◌↔◌, ◌∙◌, ◌<◌, ◌≤◌, ◌+◌, ◌-◌, ◌^◌, ◌&&◌, ℕ, zero, suc, Bool, true, false, IsTrue, cond, eqb, List, [], ◌∷◌, length, get_or, map, take, drop, refl, sym, ap, ap₂, subst, arith}
use Rattle.std.specs.List.{list_all}
use Rattle.std.specs.Str.{IsUtf8}
use Rattle.std.specs.Prelude.{Option, Some, None, Result, IfOk, IfSome, min, slice_index_or}
use Rattle.std.proofs.Math.Seq.{drop-cons}
use Rattle.std.proofs.lemmas.Bool.{eq-eqb}
use Rattle.std.proofs.lemmas.Result.{IfOk-weaker}
use Rattle.polars_arrays_bytes.specs.OffsetStrings.{AreGood, row_count}
use Rattle.polars_arrays_flat.specs.Kind.{Kind, LargeListKind}
use Rattle.polars_arrays_flat.specs.Row.{Row, RowList, Rows, more_rows}
use Rattle.polars_arrays_flat.specs.StoredRows.{kept}
use Rattle.polars_arrays_flat.specs.Validity.{is_present, window}
use Rattle.polars_arrays_nested.specs.AnyRows.{row, rows_from}
use Rattle.polars_arrays_nested.specs.Leaves.{leaves}
use Rattle.polars_arrays_nested.specs.Lengths.{len_of}
use Rattle.polars_arrays_nested.specs.ListOffsets.{list_count, list_places, offset_at, span}
use Rattle.polars_arrays_nested.specs.Types.{type_of}
use Rattle.polars_arrays_nested.specs.declared.any_array.AnyArray.{AnyArray, Null, Boolean, Int8, Int16, Int32, Int64, Int128, UInt8, UInt16, UInt32, UInt64, UInt128, Binary, LargeBinary, Utf8, LargeUtf8, BinaryView, Utf8View, FixedSizeBinary, List', FixedSizeList', Struct', Dictionary'}
use Rattle.polars_arrays_nested.specs.declared.any_array.AnyArray as of
use Rattle.polars_arrays_nested.specs.declared.list.ListArray.{ListArray}
use Rattle.polars_arrays_nested.specs.declared.list_offsets.ListOffsets.{ListOffsets}
use Rattle.polars_arrays_nested.specs.declared.list_offsets.ListOffsets.TheVariants.{Small, Large}
use Rattle.polars_arrays_words.proofs.Firsts.{get_or-first, length-first}
use Rattle.polars_compare_leaves.specs.Joining.{joined_bit}
use Rattle.polars_compare_nested.specs.Leaf.{is_leaf}
use Rattle.polars_compare_nested.specs.Tally.{pair_tally, tally, total_pairs}
use Rattle.polars_compare_nested.specs.TallyLaws.{TallyIsWithinLeaves}
use Rattle.arrow_parts.specs.Kinds.{kind_number}
use Rattle.arrow_parts.specs.Lent.{present_in}
use Rattle.arrow_parts.specs.declared.part.Part.{Part}
use Rattle.arrow_parts.specs.declared.part.PartKind.{PartKind}
use Rattle.arrow_parts.specs.declared.part.PartKind.TheVariants as kind
use Rattle.arrow_parts.specs.declared.refused.Refused.{Refused}
use Rattle.arrow_arrays.proofs.SlotLemmas.{rows-bits}
use Rattle.arrow_arrays.proofs.Standing.{rows_from-same}
use Rattle.arrow_arrays.specs.Columns.{Column, column_of, column_with, columns_of, far_ends, kind_in, list_leaves, lists, near_ends, only, placed, rows_of_parts}
use Rattle.arrow_arrays.specs.Good.{AreGoodParts, AreRows, GoodKind, GoodRows}
use Rattle.arrow_arrays.specs.Stands.{Stands}
use Rattle.arrow_equality.specs.Compared.{IsCounted}
use Rattle.arrow_equality.specs.Equal.{IsComparison, IsCount}
use Rattle.arrow_equality.specs.Lists.{AreListsCompared, is_equal_list, equal_lists, items_of_both, list_size}
use Rattle.arrow_equality.specs.declared.compared.Compared.{Compared}
use Rattle.arrow_equality.proofs.Comparisons.{within-leaves}
use Rattle.arrow_equality.proofs.Fields.{only-one}
use Rattle.arrow_equality.proofs.ListPlaces.{list-within}
use Rattle.arrow_equality.proofs.StringColumns.{if-some, whole, whole-places}

-- ---- rows

-- the first of two lists of items, and the others
items-told : (bit rest : Bool) (x y : Row) (xs ys : RowList) → (bit ≡ true) ↔ (x ≡ y) → (rest ≡ true) ↔ (xs ≡ ys) → (bit && rest ≡ true) ↔ (more_rows x xs ≡ more_rows y ys)
items-told true rest x y xs ys first others = (
  (λ set. ap₂ more_rows (first.0 refl) (others.0 set)),
  (λ e. let all : more_rows x xs ≡ more_rows y ys = e in let same : xs ≡ ys = cc in others.1 same),
)
items-told false rest x y xs ys first others = (
  (λ set. cc),
  (λ e. let all : more_rows x xs ≡ more_rows y ys = e in let same : x ≡ y = cc in first.1 same),
)

-- a window of bits is set exactly if its rows are the same
window-told : (bits : List Bool) (f g : ℕ → Row) → ((i : ℕ) → i < length bits → (slice_index_or bits i false ≡ true) ↔ (f i ≡ g i)) → (count from : ℕ) → from + count ≤ length bits → (list_all (λ b. b) (window from count bits) ≡ true) ↔ (rows_from f from count ≡ rows_from g from count)
window-told bits f g each zero from low = ((λ _. refl), (λ _. refl))
window-told bits f g each (suc count) from low =
    let next : suc from ≡ from + 1 = omega arith in
    let rest : List Bool = drop (from + 1) bits in
    let split : drop from bits ≡ slice_index_or bits from false ∷ rest = drop-cons bits from false (omega (arith, low)) ∙ ap (λ (n : ℕ). slice_index_or bits from false ∷ drop n bits) next in
    subst (λ (bs : List Bool). (list_all (λ b. b) (take (suc count) bs) ≡ true) ↔ (rows_from f from (suc count) ≡ rows_from g from (suc count))) (sym split)
    (items-told (slice_index_or bits from false) (list_all (λ b. b) (take count rest)) (f from) (g from) (rows_from f (from + 1) count) (rows_from g (from + 1) count) (each from (omega (arith, low))) (window-told bits f g each count (from + 1) (omega (arith, low))))

-- the bit of two lists
list-told : (bit raw pl pr : Bool) (xs ys : RowList) → bit ≡ joined_bit true raw pl pr → (raw ≡ true) ↔ (xs ≡ ys) → (bit ≡ true) ↔ (kept pl (Rows xs) ≡ kept pr (Rows ys))
list-told bit raw true true xs ys is told = (
  (λ set. ap (λ (zs : RowList). Rows zs) (told.0 (sym is ∙ set))),
  (λ e. let rows : Rows xs ≡ Rows ys = e in let same : xs ≡ ys = cc in is ∙ told.1 same),
)
list-told bit raw true false xs ys is told = ((λ set. cc), (λ e. cc))
list-told bit raw false true xs ys is told = ((λ set. cc), (λ e. cc))
list-told bit raw false false xs ys is told = ((λ set. refl), (λ e. is))

-- ---- the count

-- leaves take one comparison for each row
leaf-tally : (x y : AnyArray) → IsTrue (is_leaf (type_of x)) → (a b n : ℕ) → tally x y a b n ≡ n
leaf-tally (Null x) y leaf a b n = cc
leaf-tally (Boolean x) y leaf a b n = refl
leaf-tally (Int8 x) y leaf a b n = refl
leaf-tally (Int16 x) y leaf a b n = refl
leaf-tally (Int32 x) y leaf a b n = refl
leaf-tally (Int64 x) y leaf a b n = refl
leaf-tally (Int128 x) y leaf a b n = refl
leaf-tally (UInt8 x) y leaf a b n = refl
leaf-tally (UInt16 x) y leaf a b n = refl
leaf-tally (UInt32 x) y leaf a b n = refl
leaf-tally (UInt64 x) y leaf a b n = refl
leaf-tally (UInt128 x) y leaf a b n = refl
leaf-tally (Binary x) y leaf a b n = refl
leaf-tally (LargeBinary x) y leaf a b n = refl
leaf-tally (Utf8 x) y leaf a b n = refl
leaf-tally (LargeUtf8 x) y leaf a b n = refl
leaf-tally (BinaryView x) y leaf a b n = refl
leaf-tally (Utf8View x) y leaf a b n = refl
leaf-tally (FixedSizeBinary x) y leaf a b n = refl
leaf-tally (List' (Small offsets) p values validity) y leaf a b n = cc
leaf-tally (List' (Large offsets) p values validity) y leaf a b n = cc
leaf-tally (FixedSizeList' width len p values validity) y leaf a b n = cc
leaf-tally (Struct' fields len p values validity) y leaf a b n = cc
leaf-tally (Dictionary' keys p values) y leaf a b n = cc

-- the cost of two lists of one size
pair-size : (p q e : Bool) (x y : ℕ) → e ≡ true → x ≡ y → cond (p && q && e) x 0 ≡ cond (p && q) y 0
pair-size true true e x y one same = ap (λ (b : Bool). cond b x 0) one ∙ same
pair-size true false e x y one same = refl
pair-size false true e x y one same = refl
pair-size false false e x y one same = refl

pairs-size : (f : ℕ → ℕ → ℕ → ℕ) → ((i j m : ℕ) → f i j m ≡ m) → (offsets : ListOffsets) (v w : Option (List Bool)) (n : ℕ) → total_pairs (pair_tally f offsets v offsets w) 0 0 n ≡ items_of_both v w (list_places offsets) n
pairs-size f one offsets v w zero = refl
pairs-size f one offsets v w (suc n) =
    let here : 0 + n ≡ n = omega arith in
    ap₂ ◌+◌ (pairs-size f one offsets v w n)
    (ap (λ (m : ℕ). pair_tally f offsets v offsets w m m) here
    ∙ pair-size (is_present v n) (is_present w n) (eqb (span offsets n) (span offsets n)) (f (offset_at offsets n) (offset_at offsets n) (span offsets n)) (span offsets n) (eq-eqb (span offsets n) (span offsets n) refl) (one (offset_at offsets n) (offset_at offsets n) (span offsets n)))

-- ---- the array of lists

-- places as offsets of 64 bits
abbrev offsets_of : List (Option ℕ) → ListOffsets
offsets_of all = Large (record { items = map whole all; owned = true })

places-of : (all : List (Option ℕ)) → list_places (offsets_of all) ≡ all
places-of all = whole-places all

-- the array of lists of items between places
abbrev lists_of : Part → List (Option ℕ) → AnyArray → ListArray
lists_of s all a = record {
  offsets = offsets_of all;
  values = record { ptr = null_ptr; alloc = record { memory = record { seal = tt } }; value = a };
  validity = present_in s;
}

-- the column of lists of items between places
abbrev lists_column : Part → List (Option ℕ) → Column → Column
lists_column s all c =
    column_with s (LargeListKind c.kind) (lists all (c ∷ [])) (list_leaves all (c ∷ []))

lists-stand : (s : Part) (all : List (Option ℕ)) (a : AnyArray) (c : Column) → Stands a c → row_count all ≡ s.rows → AreGood c.len all → Stands (of.List (lists_of s all a)) (lists_column s all c)
lists-stand s all a c stands count good =
    let offsets = offsets_of all in
    let long : list_count offsets ≡ s.rows = ap (λ (ps : List (Option ℕ)). row_count ps) (places-of all) ∙ count in
    record {
      good = (
        record {
          bits = rows-bits s (list_count offsets) (present_in s) long refl;
          good = subst (λ (ps : List (Option ℕ)). AreGood (len_of a) ps) (sym (places-of all)) (subst (λ (n : ℕ). AreGood n all) (sym stands.len) good);
        },
        stands.good,
      );
      kind = ap (λ (k : Kind). LargeListKind k) stands.kind;
      len = long;
      rows = λ i.
          ap (λ (ps : List (Option ℕ)). kept (is_present (present_in s) i) (Rows (rows_from (row a) (placed ps i) (list_size ps i)))) (places-of all)
          ∙ ap (λ (rs : RowList). kept (is_present (present_in s) i) (Rows rs)) (rows_from-same (row a) c.row stands.rows (placed all i) (list_size all i));
      leaves = λ from n.
          ap (λ (ps : List (Option ℕ)). leaves a (placed ps from) (placed ps (from + n) - placed ps from)) (places-of all)
          ∙ stands.leaves (placed all from) (placed all (from + n) - placed all from);
    }

-- ---- the kinds

-- what is common to the two kinds of parts that store lists between offsets
pub record IsListKind (k : PartKind) (ends : Part → List (Option ℕ)) : Type 0 where
  pub column : (p : Part) (c : Column) → column_of (Some k) p (c ∷ []) ≡ lists_column p (ends p) c
  pub good : (p : Part) (c : Column) → AreRows p c.len (ends p) → GoodKind k p (c ∷ [])

pub list-List : IsListKind kind.List near_ends
list-List = record { column = λ p c. refl; good = λ p c are. are }

pub list-LargeList : IsListKind kind.LargeList far_ends
list-LargeList = record { column = λ p c. refl; good = λ p c are. are }

-- ---- parts

-- a part over the one array of those after it
list-column : (k : PartKind) (s : Part) (c : Column) (ls : List Part) → kind_number s.kind ≡ Some k → s.children ≡ 1 → columns_of ls ≡ c ∷ [] → rows_of_parts (s ∷ ls) ≡ column_of (Some k) s (c ∷ [])
list-column k s c ls is one inside =
    ap (λ (cs : List Column). only (column_of (kind_number s.kind) s (take s.children cs) ∷ drop s.children cs)) inside
    ∙ ap (λ (n : ℕ). only (column_of (kind_number s.kind) s (take n (c ∷ [])) ∷ drop n (c ∷ []))) one
    ∙ ap (λ (o : Option PartKind). column_of o s (c ∷ [])) is

list-parts : (k : PartKind) (s : Part) (c : Column) (ls : List Part) → kind_number s.kind ≡ Some k → s.children ≡ 1 → columns_of ls ≡ c ∷ [] → IsUtf8 s.name.now → GoodKind k s (c ∷ []) → AreGoodParts ls → AreGoodParts (s ∷ ls)
list-parts k s c ls is one inside name made good = record {
  all = (
    record {
      name = name;
      children = omega (arith, one, ap (λ (cs : List Column). length cs) inside);
      rows =
          subst (λ (cs : List Column). GoodRows (kind_number s.kind) s (take s.children cs)) (sym inside)
          (subst (λ (n : ℕ). GoodRows (kind_number s.kind) s (take n (c ∷ []))) (sym one)
          (subst (λ (o : Option PartKind). GoodRows o s (c ∷ [])) (sym is) made));
    },
    good.all,
  );
  one =
      ap (λ (cs : List Column). length (column_of (kind_number s.kind) s (take s.children cs) ∷ drop s.children cs)) inside
      ∙ ap (λ (n : ℕ). length (column_of (kind_number s.kind) s (take n (c ∷ [])) ∷ drop n (c ∷ []))) one;
}

-- a lone part of leaves
only-alone : (o : Option PartKind) (q : Part) (n : ℕ) → only (column_of o q (take n []) ∷ drop n []) ≡ column_of o q []
only-alone o q zero = refl
only-alone o q (suc n) = refl

pub leaf-kind : (k : PartKind) (q : Part) → kind_number q.kind ≡ Some k → ((p : Part) → IsTrue (is_leaf (kind_in k p []))) → IsTrue (is_leaf (rows_of_parts (q ∷ [])).kind)
leaf-kind k q is leaf =
    subst (λ (c : Column). IsTrue (is_leaf c.kind)) (sym (only-alone (kind_number q.kind) q q.children ∙ ap (λ (o : Option PartKind). column_of o q []) is)) (leaf q)

-- ---- two lists

module _ (law : TallyIsWithinLeaves) (k : PartKind) (ends : Part → List (Option ℕ)) (is : IsListKind k ends) (s q t r : Part) (left : kind_number s.kind ≡ Some k) (right : kind_number t.kind ≡ Some k) (c : Compared) (are : AreListsCompared s q t r (ends s) (ends t) c) where
  abbrev all : List (Option ℕ)
  all = ends s

  abbrev l : Column
  l = rows_of_parts (q ∷ [])

  abbrev m : Column
  m = rows_of_parts (r ∷ [])

  left-inside : columns_of (q ∷ []) ≡ l ∷ []
  left-inside = only-one (columns_of (q ∷ [])) are.left_good.one

  right-inside : columns_of (r ∷ []) ≡ m ∷ []
  right-inside = only-one (columns_of (r ∷ [])) are.right_good.one

  left-long : length are.items.bits ≡ l.len
  left-long = are.compared.size

  left-rows : AreRows s l.len all
  left-rows = record {
    present = are.left_held;
    count = are.lists.count;
    good = subst (λ (n : ℕ). AreGood n all) left-long are.lists.good;
  }

  right-rows : AreRows t m.len (ends t)
  right-rows = record {
    present = are.right_held;
    count = ap (λ (ps : List (Option ℕ)). row_count ps) are.lists.alike ∙ are.lists.count ∙ are.lists.one_length;
    good = subst (λ (ps : List (Option ℕ)). AreGood m.len ps) (sym are.lists.alike) (subst (λ (n : ℕ). AreGood n all) (left-long ∙ are.compared.one_length) are.lists.good);
  }

  left-parts : AreGoodParts (s ∷ q ∷ [])
  left-parts = list-parts k s l (q ∷ []) left are.left_holds.children left-inside are.left_holds.name (is.good s l left-rows) are.left_good

  right-parts : AreGoodParts (t ∷ r ∷ [])
  right-parts = list-parts k t m (r ∷ []) right are.right_holds.children right-inside are.right_holds.name (is.good t m right-rows) are.right_good

  bits-told : (i : ℕ) → i < s.rows → (slice_index_or c.bits i false ≡ true) ↔ ((lists_column s all l).row i ≡ (lists_column t all m).row i)
  bits-told i low =
      let size : length (equal_lists are.items.bits all s.rows) ≡ s.rows = length-first (is_equal_list are.items.bits all) s.rows in
      let bit = are.joined.at_each i (omega (arith, low, size)) in
      let raw = get_or-first (is_equal_list are.items.bits all) s.rows i false low in
      let inside : placed all i + list_size all i ≤ length are.items.bits = list-within (length are.items.bits) all i are.lists.good (omega (arith, low, are.lists.count)) in
      let same = window-told are.items.bits l.row m.row (λ j there. are.compared.at_each j (omega (arith, there, left-long))) (list_size all i) (placed all i) inside in
      let xs : RowList = rows_from l.row (placed all i) (list_size all i) in
      let ys : RowList = rows_from m.row (placed all i) (list_size all i) in
      list-told (slice_index_or c.bits i false) (slice_index_or (equal_lists are.items.bits all s.rows) i false) (is_present (present_in s) i) (is_present (present_in t) i) xs ys bit (subst (λ (b : Bool). (b ≡ true) ↔ (xs ≡ ys)) (sym raw) same)

  counted : IsCount (lists_column s all l) (lists_column t all m) c.comparisons
  counted =
      let n = are.compared.count in
      let a = of.List (lists_of s all n.left_array) in
      let b = of.List (lists_of t all n.right_array) in
      let leaf : IsTrue (is_leaf (type_of n.left_array)) = subst (λ (k : Kind). IsTrue (is_leaf k)) (sym n.left_stands.kind) are.left_holds.leaves in
      let cost = λ (i j w : ℕ). tally n.left_array n.right_array i j w in
      let stands = lists-stand s all n.left_array l n.left_stands left-rows.count left-rows.good in
      let stands' = lists-stand t all n.right_array m n.right_stands (are.lists.count ∙ are.lists.one_length) (subst (λ (ps : List (Option ℕ)). AreGood m.len ps) are.lists.alike right-rows.good) in
      let total : tally a b 0 0 (len_of a) ≡ items_of_both (present_in s) (present_in t) all s.rows =
      ap (λ (w : ℕ). tally a b 0 0 w) stands.len
      ∙ pairs-size cost (λ i j w. leaf-tally n.left_array n.right_array leaf i j w) (offsets_of all) (present_in s) (present_in t) s.rows
      ∙ ap (λ (ps : List (Option ℕ)). items_of_both (present_in s) (present_in t) ps s.rows) (places-of all) in
      let counts : IsCounted a b c.comparisons = are.count ∙ ap (λ (w : ℕ). min w (2 ^ 64 - 1)) (sym total) in
      record {
        left_array = a;
        right_array = b;
        one_type = ap (λ (k : Kind). LargeListKind k) n.one_type;
        left_stands = stands;
        right_stands = stands';
        counted = counts;
        bound = subst (λ (w : ℕ). c.comparisons ≤ w) (stands.leaves 0 (len_of a) ∙ ap ((lists_column s all l).leaves 0) stands.len) (within-leaves a b c.comparisons (law a b stands.good 0 0 (len_of a) (omega arith)) counts);
      }

  lists-compared : IsComparison (lists_column s all l) (lists_column t all m) c
  lists-compared = record {
    one_type = ap (λ (k : Kind). LargeListKind k) are.compared.one_type;
    one_length = are.lists.one_length;
    size = are.joined.size ∙ length-first (is_equal_list are.items.bits all) s.rows;
    at_each = bits-told;
    count = counted;
  }

  parts-compared : IsComparison (rows_of_parts (s ∷ q ∷ [])) (rows_of_parts (t ∷ r ∷ [])) c
  parts-compared =
      subst (λ (x : Column). IsComparison x (rows_of_parts (t ∷ r ∷ [])) c) (sym (list-column k s l (q ∷ []) left are.left_holds.children left-inside ∙ is.column s l))
      (subst (λ (y : Column). IsComparison (lists_column s all l) y c) (sym (list-column k t m (r ∷ []) right are.right_holds.children right-inside ∙ is.column t m))
      (subst (λ (ps : List (Option ℕ)). IsComparison (lists_column s all l) (lists_column t ps m) c) (sym are.lists.alike) lists-compared))

-- ---- of calls

module _ (law : TallyIsWithinLeaves) (k : PartKind) (ends : Part → List (Option ℕ)) (is : IsListKind k ends) (s q t r : Part) (result : Result (Option Compared) Refused) (left : kind_number s.kind ≡ Some k) (right : kind_number t.kind ≡ Some k) (told : IfOk result (λ found. IfSome found (AreListsCompared s q t r (ends s) (ends t)))) where
  abbrev are_compared : Compared → Type 0
  are_compared = AreListsCompared s q t r (ends s) (ends t)

  abbrev is_comparison : Compared → Type 0
  is_comparison = IsComparison (rows_of_parts (s ∷ q ∷ [])) (rows_of_parts (t ∷ r ∷ []))

  pub found-lists : IfOk result (λ found. IfSome found is_comparison)
  found-lists =
      IfOk-weaker result (λ found. IfSome found are_compared) (λ found. IfSome found is_comparison)
      (if-some are_compared is_comparison (parts-compared law k ends is s q t r left right)) told

  abbrev are_good : Type 0
  are_good = AreGoodParts (s ∷ q ∷ []) × AreGoodParts (t ∷ r ∷ [])

  pub found-good-lists : IfOk result (λ found. IfSome found (λ _. are_good))
  found-good-lists =
      IfOk-weaker result (λ found. IfSome found are_compared) (λ found. IfSome found (λ _. are_good))
      (if-some are_compared (λ _. are_good) (λ c are. (
        left-parts law k ends is s q t r left right c are,
        right-parts law k ends is s q t r left right c are,
      ))) told

-- ---- two parts of a list

two-parts : (parts : List Part) (d e : Part) → length parts ≡ 2 → get_or parts 0 d ∷ get_or parts 1 e ∷ [] ≡ parts
two-parts [] d e two = cc
two-parts (p ∷ []) d e two = absurd (omega (arith, two))
two-parts (p ∷ q ∷ []) d e two = refl
two-parts (p ∷ q ∷ r ∷ parts) d e two = absurd (omega (arith, two))

pub lists-whole : (left right : List Part) (d e d' e' : Part) (found : Option Compared) → length left ≡ 2 → length right ≡ 2 → IfSome found (IsComparison (rows_of_parts (get_or left 0 d ∷ get_or left 1 e ∷ [])) (rows_of_parts (get_or right 0 d' ∷ get_or right 1 e' ∷ []))) → IfSome found (IsComparison (rows_of_parts left) (rows_of_parts right))
lists-whole left right d e d' e' found two two' =
    subst (λ (ps : List Part). IfSome found (IsComparison (rows_of_parts (get_or left 0 d ∷ get_or left 1 e ∷ [])) (rows_of_parts (get_or right 0 d' ∷ get_or right 1 e' ∷ []))) → IfSome found (IsComparison (rows_of_parts ps) (rows_of_parts right))) (two-parts left d e two)
    (subst (λ (ps : List Part). IfSome found (IsComparison (rows_of_parts (get_or left 0 d ∷ get_or left 1 e ∷ [])) (rows_of_parts (get_or right 0 d' ∷ get_or right 1 e' ∷ []))) → IfSome found (IsComparison (rows_of_parts (get_or left 0 d ∷ get_or left 1 e ∷ [])) (rows_of_parts ps))) (two-parts right d' e' two') (λ told. told))

pub lists-whole-good : (left right : List Part) (d e d' e' : Part) (found : Option Compared) → length left ≡ 2 → length right ≡ 2 → IfSome found (λ _. AreGoodParts (get_or left 0 d ∷ get_or left 1 e ∷ []) × AreGoodParts (get_or right 0 d' ∷ get_or right 1 e' ∷ [])) → IfSome found (λ _. AreGoodParts left × AreGoodParts right)
lists-whole-good left right d e d' e' (Some c) two two' told = (
  subst (λ (ps : List Part). AreGoodParts ps) (two-parts left d e two) told.0,
  subst (λ (ps : List Part). AreGoodParts ps) (two-parts right d' e' two') told.1,
)
lists-whole-good left right d e d' e' None two two' told = tt
