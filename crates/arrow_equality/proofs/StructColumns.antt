-- Structs as columns of their fields, and arrays that stand for them.
use Rattle.std.proofs.Common.{◌≡◌, ◌↔◌, ◌∙◌, ◌<◌, ◌≤◌, ◌+◌, ◌-◌, ◌^◌, ◌++◌, ℕ, suc, Bool, true, false, List, [], ◌∷◌, length, get_or, take, drop, replicate, refl, sym, ap, subst, arith}
use Rattle.std.specs.Prelude.{Option, Some, Result, IfOk, IfSome, min, slice_index_or}
use Rattle.std.proofs.lemmas.Result.{IfOk-weaker}
use Rattle.std.specs.Str.{IsUtf8}
use Rattle.std.proofs.lemmas.List.{drop-drop, drop_all, get_or-replicate, length-replicate, take-append-drop, take_all}
use Rattle.std.proofs.lemmas.List.Elements.{All-head, All-nil, All-tail}
use Rattle.polars_arrays_flat.specs.Kind.{StructKind}
use Rattle.polars_arrays_flat.specs.Row.{RowList, Fields}
use Rattle.polars_arrays_flat.specs.StoredRows.{kept}
use Rattle.polars_arrays_flat.specs.Validity.{HasBits, is_present}
use Rattle.polars_arrays_flat.specs.declared.data_type.Field.{Field}
use Rattle.polars_arrays_nested.specs.ColumnLaws.{leaves-struct, row-struct, struct-good}
use Rattle.polars_arrays_nested.specs.Columns.{AreColumns}
use Rattle.polars_arrays_nested.specs.declared.any_array.AnyArray.{AnyArray, Struct}
use Rattle.polars_arrays_nested.specs.declared.struct_array.StructArray.{StructArray}
use Rattle.polars_compare_leaves.specs.Joining.{joined_bit}
use Rattle.polars_compare_nested.specs.TallyColumns.{columns_tally}
use Rattle.polars_compare_nested.specs.TallyLaws.{StructTallyIsColumns}
use Rattle.arrow_parts.specs.Kinds.{kind_number}
use Rattle.arrow_parts.specs.Lent.{present_in}
use Rattle.arrow_parts.specs.declared.part.Part.{Part}
use Rattle.arrow_parts.specs.declared.part.PartKind.{PartKind}
use Rattle.arrow_parts.specs.declared.part.PartKind.TheVariants as kind
use Rattle.arrow_parts.specs.declared.refused.Refused.{Refused}
use Rattle.arrow_arrays.proofs.SlotLemmas.{rows-bits}
use Rattle.arrow_arrays.proofs.Standing.{length-stand, struct-rows}
use Rattle.arrow_arrays.specs.Columns.{Column, across, column_of, columns_of, leaves_across, only, rows_of_parts}
use Rattle.arrow_arrays.specs.Good.{AllGood, AllLong, AreGoodParts, GoodKind, GoodRows, HoldRows}
use Rattle.arrow_arrays.specs.Stands.{AllNamed, AllStand, AreTyped, Stands, field_names}
use Rattle.arrow_equality.specs.Equal.{IsComparison, IsCount}
use Rattle.arrow_equality.specs.Structs.{AddsField, AreFieldsCompared, AreFieldsJoined, AreStructs}
use Rattle.arrow_equality.specs.declared.compared.Compared.{Compared}
use Rattle.arrow_equality.proofs.FieldWitnesses.{vector}
use Rattle.arrow_equality.proofs.StringColumns.{if-some}

-- ---- no fields

pub no-fields : (ls rs : List Part) (c : Compared) (rows : ℕ) → length ls ≡ 0 → length rs ≡ 0 → c.bits ≡ replicate rows true → c.comparisons ≡ 0 → AreFieldsCompared 0 ls rs c
no-fields [] [] c rows none other bits count = record {
  left_good = tt;
  right_good = tt;
  left_count = refl;
  right_count = refl;
  one_type = refl;
  left_long = All-nil (λ (x : Column). x.len ≡ length c.bits);
  right_long = All-nil (λ (x : Column). x.len ≡ length c.bits);
  at_each = λ i low.
      let low' : i < rows = omega (arith, low, ap length bits, length-replicate rows true) in
      ((λ set. refl), (λ e. ap (λ (bs : List Bool). slice_index_or bs i false) bits ∙ get_or-replicate rows i true false low'));
  count = record { fields = []; left_arrays = []; right_arrays = []; left_stand = tt; right_stand = tt; left_typed = tt; right_typed = tt; left_named = tt; right_named = tt; counted = count; bound = omega (arith, count) };
}
no-fields [] (r ∷ rs) c rows none other bits count = absurd (omega (arith, other))
no-fields (l ∷ ls) rs c rows none other bits count = absurd (omega (arith, none))

-- ---- parts of a list

-- the parts of a field, and those after it
parts-on : (parts : List Part) (start end : ℕ) → start ≤ end → take (end - start) (drop start parts) ++ drop end parts ≡ drop start parts
parts-on parts start end low =
    let places : start + (end - start) ≡ end = omega (arith, low) in
    ap (λ (n : ℕ). take (end - start) (drop start parts) ++ drop n parts) (sym places)
    ∙ ap (λ (ps : List Part). take (end - start) (drop start parts) ++ ps) (sym (drop-drop (end - start) start parts))
    ∙ take-append-drop (end - start) (drop start parts)

-- the fields from one more on
pub fields-on : (left right : List Part) (start end k : ℕ) (rest more : Compared) → start ≤ end → AddsField (take (end - start) (drop start left)) (take (end - start) (drop start right)) rest more → AreFieldsCompared k (drop end left) (drop end right) rest → AreFieldsCompared (k + 1) (drop start left) (drop start right) more
fields-on left right start end k rest more low adds others =
    subst (λ (ls : List Part). AreFieldsCompared (k + 1) ls (drop start right) more) (parts-on left start end low)
    (subst (λ (rs : List Part). AreFieldsCompared (k + 1) (take (end - start) (drop start left) ++ drop end left) rs more) (parts-on right start end low)
    (adds.more k (drop end left) (drop end right) others))

first-part : (parts : List Part) (d : Part) → 0 < length parts → get_or parts 0 d ∷ drop 1 parts ≡ parts
first-part [] d some = absurd (omega (arith, some))
first-part (p ∷ parts) d some = refl

-- ---- one struct

struct-column : (s : Part) (ls : List Part) → kind_number s.kind ≡ Some kind.Struct → length (columns_of ls) ≡ s.children → rows_of_parts (s ∷ ls) ≡ column_of (Some kind.Struct) s (columns_of ls)
struct-column s ls is count =
    let cs = columns_of ls in
    ap (λ (ds : List Column). only (column_of (kind_number s.kind) s (take s.children cs) ∷ ds)) (drop_all s.children cs (omega (arith, count)))
    ∙ ap (λ (ds : List Column). column_of (kind_number s.kind) s ds) (take_all s.children cs (omega (arith, count)))
    ∙ ap (λ (o : Option PartKind). column_of o s cs) is

struct-parts : (s : Part) (ls : List Part) → kind_number s.kind ≡ Some kind.Struct → IsUtf8 s.name.now → HoldRows s → AllLong s.rows (columns_of ls) → AllGood ls → length (columns_of ls) ≡ s.children → AreGoodParts (s ∷ ls)
struct-parts s ls is name held long good count =
    let cs = columns_of ls in
    let made : GoodKind kind.Struct s cs = record { present = held; long = long } in
    record {
      all = (
        record {
          name = name;
          children = omega (arith, count);
          rows = subst (λ (ds : List Column). GoodRows (kind_number s.kind) s ds) (sym (take_all s.children cs (omega (arith, count)))) (subst (λ (o : Option PartKind). GoodRows o s cs) (sym is) made);
        },
        good,
      );
      one = ap (λ (ds : List Column). length (column_of (kind_number s.kind) s (take s.children cs) ∷ ds)) (drop_all s.children cs (omega (arith, count)));
    }

-- ---- the array of a struct

-- the array of structs with these fields and columns
abbrev struct_of : (fields : List Field) (arrays : List AnyArray) → length fields < 2 ^ 63 → length arrays < 2 ^ 63 → Part → StructArray
struct_of fields arrays few few' s = record { fields = vector fields few; len = s.rows; values = vector arrays few'; validity = present_in s }

fields-fit : (fields : List Field) (arrays : List AnyArray) (cs : List Column) (n : ℕ) → AreTyped fields arrays → AllStand arrays cs → AllLong n cs → AreColumns fields n arrays
fields-fit [] [] cs n typed all long = tt
fields-fit [] (a ∷ arrays) cs n typed all long = absurd typed
fields-fit (field ∷ fields) [] cs n typed all long = absurd typed
fields-fit (field ∷ fields) (a ∷ arrays) [] n typed all long = absurd all
fields-fit (field ∷ fields) (a ∷ arrays) (c ∷ cs) n typed all long = (
  all.0.len ∙ All-head (λ (x : Column). x.len ≡ n) c cs long,
  typed.0,
  all.0.good,
  fields-fit fields arrays cs n typed.1 all.1 (All-tail (λ (x : Column). x.len ≡ n) c cs long),
)

fields-count : (fields : List Field) (arrays : List AnyArray) → AreTyped fields arrays → length fields ≡ length arrays
fields-count [] [] typed = refl
fields-count [] (a ∷ arrays) typed = absurd typed
fields-count (field ∷ fields) [] typed = absurd typed
fields-count (field ∷ fields) (a ∷ arrays) typed = ap suc (fields-count fields arrays typed.1)

struct-stands : (fields : List Field) (arrays : List AnyArray) (few : length fields < 2 ^ 63) (few' : length arrays < 2 ^ 63) (s : Part) (cs : List Column) → AreTyped fields arrays → AllStand arrays cs → AllNamed (field_names fields) cs → AllLong s.rows cs → Stands (Struct (struct_of fields arrays few few' s)) (column_of (Some kind.Struct) s cs)
struct-stands fields arrays few few' s cs typed all named long =
    let a = struct_of fields arrays few few' s in
    let bits : HasBits s.rows (present_in s) = rows-bits s s.rows (present_in s) refl refl in
    let good = struct-good a bits (fields-fit fields arrays cs s.rows typed all long) in
    let stands = struct-rows (Struct a) fields arrays s.rows (present_in s) good typed refl refl (row-struct a) (leaves-struct a) cs all named in
    record { good = good; kind = stands.kind; len = stands.len; rows = stands.rows; leaves = stands.leaves }

-- ---- two structs

-- the bit of two rows of structs
row-told : (bit raw pl pr : Bool) (xs ys : RowList) → bit ≡ joined_bit true raw pl pr → (raw ≡ true) ↔ (xs ≡ ys) → (bit ≡ true) ↔ (kept pl (Fields xs) ≡ kept pr (Fields ys))
row-told bit raw true true xs ys is told = (
  (λ set. ap (λ (zs : RowList). Fields zs) (told.0 (sym is ∙ set))),
  (λ e. let fields : Fields xs ≡ Fields ys = e in let same : xs ≡ ys = cc in is ∙ told.1 same),
)
row-told bit raw true false xs ys is told = ((λ set. cc), (λ e. cc))
row-told bit raw false true xs ys is told = ((λ set. cc), (λ e. cc))
row-told bit raw false false xs ys is told = ((λ set. refl), (λ e. is))

module _ (law : StructTallyIsColumns) (s t : Part) (ls rs : List Part) (k : ℕ) (fields c : Compared) (are : AreStructs s t) (one : AreFieldsCompared k ls rs fields) (joined : AreFieldsJoined s t fields c) (size : length fields.bits ≡ s.rows) (count : k ≡ s.children) (few : k < 2 ^ 63) where
  abbrev cs : List Column
  cs = columns_of ls

  abbrev ds : List Column
  ds = columns_of rs

  left-count : length cs ≡ s.children
  left-count = one.left_count ∙ count

  right-count : length ds ≡ t.children
  right-count = one.right_count ∙ count ∙ are.one_count

  left-long : AllLong s.rows cs
  left-long = subst (λ (n : ℕ). AllLong n cs) size one.left_long

  right-long : AllLong t.rows ds
  right-long = subst (λ (n : ℕ). AllLong n ds) (size ∙ are.one_length) one.right_long

  abbrev l : Column
  l = column_of (Some kind.Struct) s cs

  abbrev r : Column
  r = column_of (Some kind.Struct) t ds

  left-parts : AreGoodParts (s ∷ ls)
  left-parts = struct-parts s ls are.left_kind are.left_name joined.left_held left-long one.left_good left-count

  right-parts : AreGoodParts (t ∷ rs)
  right-parts = struct-parts t rs are.right_kind are.right_name joined.right_held right-long one.right_good right-count

  bits-told : (i : ℕ) → i < s.rows → (slice_index_or c.bits i false ≡ true) ↔ (l.row i ≡ r.row i)
  bits-told i low =
      let low' : i < length fields.bits = omega (arith, low, size) in
      row-told (slice_index_or c.bits i false) (slice_index_or fields.bits i false) (is_present (present_in s) i) (is_present (present_in t) i) (across cs i) (across ds i) (joined.joined.at_each i low') (one.at_each i low')

  counted : IsCount l r c.comparisons
  counted =
      let n = one.count in
      let left_few : length n.left_arrays < 2 ^ 63 = omega (arith, few, one.left_count, length-stand n.left_arrays cs n.left_stand) in
      let right_few : length n.right_arrays < 2 ^ 63 = omega (arith, few, one.right_count, length-stand n.right_arrays ds n.right_stand) in
      let fields_few : length n.fields < 2 ^ 63 = omega (arith, left_few, fields-count n.fields n.left_arrays n.left_typed) in
      let a = struct_of n.fields n.left_arrays fields_few left_few s in
      let b = struct_of n.fields n.right_arrays fields_few right_few t in
      record {
        left_array = Struct a;
        right_array = Struct b;
        one_type = refl;
        left_stands = struct-stands n.fields n.left_arrays fields_few left_few s cs n.left_typed n.left_stand n.left_named left-long;
        right_stands = struct-stands n.fields n.right_arrays fields_few right_few t ds n.right_typed n.right_stand n.right_named right-long;
        counted =
            joined.count
            ∙ n.counted
            ∙ ap (λ (m : ℕ). min (columns_tally n.left_arrays n.right_arrays 0 0 m) (2 ^ 64 - 1)) size
            ∙ ap (λ (m : ℕ). min m (2 ^ 64 - 1)) (sym (law a b 0 0 s.rows));
        bound = subst (λ (m : ℕ). m ≤ leaves_across cs 0 s.rows) (sym joined.count) (subst (λ (m : ℕ). fields.comparisons ≤ leaves_across cs 0 m) size n.bound);
      }

  columns-compared : IsComparison l r c
  columns-compared = record {
    one_type = ap (λ kinds. StructKind kinds) one.one_type;
    one_length = are.one_length;
    size = joined.joined.size ∙ size;
    at_each = bits-told;
    count = counted;
  }

  structs-compared : IsComparison (rows_of_parts (s ∷ ls)) (rows_of_parts (t ∷ rs)) c
  structs-compared =
      subst (λ (x : Column). IsComparison x (rows_of_parts (t ∷ rs)) c) (sym (struct-column s ls are.left_kind left-count))
      (subst (λ (y : Column). IsComparison l y c) (sym (struct-column t rs are.right_kind right-count)) columns-compared)

-- ---- of calls

module _ (law : StructTallyIsColumns) (left right : List Part) (d e : Part) (k : ℕ) (fields : Compared) (result : Result (Option Compared) Refused) (some : 0 < length left) (some' : 0 < length right) (are : AreStructs (get_or left 0 d) (get_or right 0 e)) (one : AreFieldsCompared k (drop 1 left) (drop 1 right) fields) (size : length fields.bits ≡ (get_or left 0 d).rows) (count : k ≡ (get_or left 0 d).children) (few : k < 2 ^ 63) (told : IfOk result (λ found. IfSome found (AreFieldsJoined (get_or left 0 d) (get_or right 0 e) fields))) where
  abbrev joins : Compared → Type 0
  joins = AreFieldsJoined (get_or left 0 d) (get_or right 0 e) fields

  is-compared : (c : Compared) → joins c → IsComparison (rows_of_parts left) (rows_of_parts right) c
  is-compared c joined =
      subst (λ (ps : List Part). IsComparison (rows_of_parts ps) (rows_of_parts right) c) (first-part left d some)
      (subst (λ (ps : List Part). IsComparison (rows_of_parts (get_or left 0 d ∷ drop 1 left)) (rows_of_parts ps) c) (first-part right e some')
      (structs-compared law (get_or left 0 d) (get_or right 0 e) (drop 1 left) (drop 1 right) k fields c are one joined size count few))

  are-good : (c : Compared) → joins c → AreGoodParts left × AreGoodParts right
  are-good c joined = (
    subst (λ (ps : List Part). AreGoodParts ps) (first-part left d some) (left-parts law (get_or left 0 d) (get_or right 0 e) (drop 1 left) (drop 1 right) k fields c are one joined size count few),
    subst (λ (ps : List Part). AreGoodParts ps) (first-part right e some') (right-parts law (get_or left 0 d) (get_or right 0 e) (drop 1 left) (drop 1 right) k fields c are one joined size count few),
  )

  pub found-structs : IfOk result (λ found. IfSome found (IsComparison (rows_of_parts left) (rows_of_parts right)))
  found-structs =
      IfOk-weaker result (λ found. IfSome found joins) (λ found. IfSome found (IsComparison (rows_of_parts left) (rows_of_parts right)))
      (if-some joins (IsComparison (rows_of_parts left) (rows_of_parts right)) is-compared) told

  pub found-good-structs : IfOk result (λ found. IfSome found (λ _. AreGoodParts left × AreGoodParts right))
  found-good-structs =
      IfOk-weaker result (λ found. IfSome found joins) (λ found. IfSome found (λ _. AreGoodParts left × AreGoodParts right))
      (if-some joins (λ _. AreGoodParts left × AreGoodParts right) are-good) told
