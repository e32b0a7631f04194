-- Arrays that are filled with others stand for the columns of shapes.
use Rattle.std.proofs.Common.{◌≡◌, ℕ, zero, suc, ◌+◌, ◌-◌, ◌*◌, Bool, List, [], ◌∷◌, length, refl, sym, ap, subst, ◌∙◌}
use Rattle.std.proofs.lemmas.List.Elements.{All-cons, All-head, All-nil, All-tail}
use Rattle.std.specs.List.{All}
use Rattle.std.specs.Prelude.{Option, Result, Ok, Err, IfErr, cond}
use Rattle.polars_arrays_flat.specs.DataType.{kind_of, kinds_of}
use Rattle.polars_arrays_flat.specs.Kind.{DictionaryKind, FixedSizeListKind, StructKind, more_kinds}
use Rattle.polars_arrays_flat.specs.Row.{Row, Rows, Fields, more_rows}
use Rattle.polars_arrays_flat.specs.StoredRows.{kept}
use Rattle.polars_arrays_flat.specs.Validity.{is_present}
use Rattle.polars_arrays_flat.specs.declared.data_type.Field.{Field}
use Rattle.polars_arrays_nested.specs.AnyRows.{entry_row, row, rows_from}
use Rattle.polars_arrays_nested.specs.Columns.{columns_leaves, rows_at}
use Rattle.polars_arrays_nested.specs.DictKeys.{key_at, key_count, key_validity, kind_of_keys}
use Rattle.polars_arrays_nested.specs.Faults.{AreStructs, FitsAt}
use Rattle.polars_arrays_nested.specs.GoodParts.{AreFixedLists, AreKeys, AreLists, IsGood}
use Rattle.polars_arrays_nested.specs.Leaves.{leaves, total}
use Rattle.polars_arrays_nested.specs.Lengths.{len_of}
use Rattle.polars_arrays_nested.specs.ListOffsets.{list_count, offset_at, span}
use Rattle.polars_arrays_nested.specs.Types.{kind_of_lists, type_of}
use Rattle.polars_arrays_nested.specs.declared.any_array.AnyArray.{AnyArray}
use Rattle.polars_arrays_nested.specs.declared.any_array.AnyArray as of
use Rattle.polars_arrays_nested.specs.declared.dict_keys.DictKeys.{DictKeys}
use Rattle.polars_arrays_nested.specs.declared.list_offsets.ListOffsets.{ListOffsets}
use Rattle.arrow_parts.specs.declared.part.PartKind.TheVariants as kind
use Rattle.arrow_parts.specs.Refusals.{IsHonest}
use Rattle.arrow_parts.specs.declared.refused.Refused.{Refused}
use Rattle.arrow_parts.specs.declared.refused.Refused.TheVariants.{Parts, Memory}
use Rattle.arrow_arrays.proofs.Honest.{honest-more}
use Rattle.arrow_arrays.specs.Columns.{Column, across, kind_inside, leaves_across, named_kinds}
use Rattle.arrow_arrays.specs.Good.{AllLong, OneColumn}
use Rattle.arrow_arrays.specs.Shapes.{CanFill, shape_column}
use Rattle.arrow_arrays.specs.Stands.{AllNamed, AllStand, AreTyped, CanFillOne, CanFillWith, Fills, FillsOne, IsHonestFill, IsHonestOne, Stands, field_names}
use Rattle.arrow_arrays.specs.declared.shapes.Shape.{Shape}
use Rattle.arrow_arrays.specs.declared.shapes.Shape.TheVariants.{Leaf, Lists, FixedLists, Structs, Entries}
use Rattle.arrow_arrays.specs.declared.shapes.Size.{Size}

pub rows_from-same : (f g : ℕ → Row) → ((k : ℕ) → f k ≡ g k) → (from count : ℕ) → rows_from f from count ≡ rows_from g from count
rows_from-same f g same from zero = refl
rows_from-same f g same from (suc count) =
    ap (λ r. more_rows r (rows_from f (from + 1) count)) (same from) ∙ ap (more_rows (g from)) (rows_from-same f g same (from + 1) count)

-- what follows for the one column
inside-kind : (items : AnyArray) (c : Column) → Stands items c → type_of items ≡ kind_inside (c ∷ [])
inside-kind items c stands = stands.kind

pub list-rows : (a items : AnyArray) (offsets : ListOffsets) (validity : Option (List Bool)) → IsGood a → type_of a ≡ kind_of_lists offsets (type_of items) → len_of a ≡ list_count offsets → ((i : ℕ) → row a i ≡ kept (is_present validity i) (Rows (rows_from (row items) (offset_at offsets i) (span offsets i)))) → ((from n : ℕ) → leaves a from n ≡ leaves items (offset_at offsets from) (offset_at offsets (from + n) - offset_at offsets from)) → FillsOne (Lists offsets validity) items a
list-rows a items offsets validity good type long each slots c stands = record {
  good = good;
  kind = type ∙ ap (kind_of_lists offsets) (inside-kind items c stands);
  len = long;
  rows = λ i. each i ∙ ap (λ r. kept (is_present validity i) (Rows r)) (rows_from-same (row items) c.row stands.rows (offset_at offsets i) (span offsets i));
  leaves = λ from n. slots from n ∙ stands.leaves (offset_at offsets from) (offset_at offsets (from + n) - offset_at offsets from);
}

pub fixed-rows : (a items : AnyArray) (size : Size) (validity : Option (List Bool)) → IsGood a → type_of a ≡ FixedSizeListKind (type_of items) size.width → len_of a ≡ size.rows → ((i : ℕ) → row a i ≡ kept (is_present validity i) (Rows (rows_from (row items) (size.width * i) size.width))) → ((from n : ℕ) → leaves a from n ≡ leaves items (size.width * from) (size.width * n)) → FillsOne (FixedLists size validity) items a
fixed-rows a items size validity good type long each slots c stands = record {
  good = good;
  kind = type ∙ ap (λ k. FixedSizeListKind k size.width) (inside-kind items c stands);
  len = long;
  rows = λ i. each i ∙ ap (λ r. kept (is_present validity i) (Rows r)) (rows_from-same (row items) c.row stands.rows (size.width * i) size.width);
  leaves = λ from n. slots from n ∙ stands.leaves (size.width * from) (size.width * n);
}

across-same : (arrays : List AnyArray) (cs : List Column) → AllStand arrays cs → (i : ℕ) → rows_at arrays i ≡ across cs i
across-same [] [] all i = refl
across-same [] (c ∷ cs) all i = absurd all
across-same (a ∷ arrays) [] all i = absurd all
across-same (a ∷ arrays) (c ∷ cs) all i =
    ap (λ r. more_rows r (rows_at arrays i)) (all.0.rows i) ∙ ap (more_rows (c.row i)) (across-same arrays cs all.1 i)

leaves-same : (arrays : List AnyArray) (cs : List Column) → AllStand arrays cs → (from n : ℕ) → columns_leaves arrays from n ≡ leaves_across cs from n
leaves-same [] [] all from n = refl
leaves-same [] (c ∷ cs) all from n = absurd all
leaves-same (a ∷ arrays) [] all from n = absurd all
leaves-same (a ∷ arrays) (c ∷ cs) all from n =
    ap (λ m. m + columns_leaves arrays from n) (all.0.leaves from n)
    ∙ ap (λ m. c.leaves from n + m) (leaves-same arrays cs all.1 from n)

-- fields that have the names and types of columns
kinds-same : (fields : List Field) (arrays : List AnyArray) (cs : List Column) → AreTyped fields arrays → AllStand arrays cs → AllNamed (field_names fields) cs → kinds_of fields ≡ named_kinds cs
kinds-same [] [] [] typed all named = refl
kinds-same [] [] (c ∷ cs) typed all named = absurd all
kinds-same [] (a ∷ arrays) cs typed all named = absurd typed
kinds-same (field ∷ fields) [] cs typed all named = absurd typed
kinds-same (field ∷ fields) (a ∷ arrays) [] typed all named = absurd all
kinds-same (field ∷ fields) (a ∷ arrays) (c ∷ cs) typed all named =
    ap (λ name. more_kinds name (kind_of field.dtype) (kinds_of fields)) named.0
    ∙ ap (λ k. more_kinds c.name k (kinds_of fields)) (sym typed.0 ∙ all.0.kind)
    ∙ ap (more_kinds c.name c.kind) (kinds-same fields arrays cs typed.1 all.1 named.1)

pub struct-rows : (a : AnyArray) (fields : List Field) (arrays : List AnyArray) (n : ℕ) (validity : Option (List Bool)) → IsGood a → AreTyped fields arrays → type_of a ≡ StructKind (kinds_of fields) → len_of a ≡ n → ((i : ℕ) → row a i ≡ kept (is_present validity i) (Fields (rows_at arrays i))) → ((from m : ℕ) → leaves a from m ≡ columns_leaves arrays from m) → Fills (Structs n validity) fields arrays a
struct-rows a fields arrays n validity good typed type long each slots cs all named = record {
  good = good;
  kind = type ∙ ap (λ kinds. StructKind kinds) (kinds-same fields arrays cs typed all named);
  len = long;
  rows = λ i. each i ∙ ap (λ r. kept (is_present validity i) (Fields r)) (across-same arrays cs all i);
  leaves = λ from m. slots from m ∙ leaves-same arrays cs all from m;
}

total-same : (f g : ℕ → ℕ) → ((k : ℕ) → f k ≡ g k) → (from n : ℕ) → total f from n ≡ total g from n
total-same f g same from zero = refl
total-same f g same from (suc n) =
    ap (λ m. m + f (from + n)) (total-same f g same from n) ∙ ap (λ m. total g from n + m) (same (from + n))

pub entry-rows : (a items : AnyArray) (keys : DictKeys) → IsGood a → type_of a ≡ DictionaryKind (kind_of_keys keys) (type_of items) → len_of a ≡ key_count keys → ((i : ℕ) → row a i ≡ kept (is_present (key_validity keys) i) (entry_row (row items (key_at keys i)))) → ((from n : ℕ) → leaves a from n ≡ total (λ k. cond (is_present (key_validity keys) k) (leaves items (key_at keys k) 1) 0) from n) → FillsOne (Entries keys) items a
entry-rows a items keys good type long each slots c stands = record {
  good = good;
  kind = type ∙ ap (DictionaryKind (kind_of_keys keys)) (inside-kind items c stands);
  len = long;
  rows = λ i. each i ∙ ap (λ r. kept (is_present (key_validity keys) i) (entry_row r)) (stands.rows (key_at keys i));
  leaves = λ from n. slots from n ∙ total-same (λ k. cond (is_present (key_validity keys) k) (leaves items (key_at keys k) 1) 0) (λ k. cond (is_present (key_validity keys) k) (c.leaves (key_at keys k) 1) 0) (λ k. ap (λ m. cond (is_present (key_validity keys) k) m 0) (stands.leaves (key_at keys k) 1)) from n;
}

one : (items : AnyArray) (cs : List Column) (P : List Column → Type 0) → ((c : Column) → Stands items c → P (c ∷ [])) → AllStand (items ∷ []) cs → P cs
one items [] P each all = absurd all
one items (c ∷ []) P each all = each c all.0
one items (c ∷ d ∷ cs) P each all = absurd all.1

-- the one array inside
pub one-fills : (fields : List Field) (arrays : List AnyArray) (items a : AnyArray) (s : Shape) → arrays ≡ items ∷ [] → FillsOne s items a → Fills s fields arrays a
one-fills fields arrays items a s only each cs all named = one items cs (λ xs. Stands a (shape_column s xs)) each (subst (λ xs. AllStand xs cs) only all)

pub one-good : (arrays : List AnyArray) (a : AnyArray) → arrays ≡ a ∷ [] → All IsGood arrays → IsGood a
one-good arrays a only all = All-head IsGood a [] (subst (All IsGood) only all)

pub leaf-fills : (a : AnyArray) (fields : List Field) (arrays : List AnyArray) → IsGood a → Fills (Leaf a) fields arrays a
leaf-fills a fields arrays good cs all named = record { good = good; kind = refl; len = refl; rows = λ i. refl; leaves = λ from n. refl }

-- ---- refusals

-- fields and arrays that make structs
structs-fit : (fields : List Field) (arrays : List AnyArray) (cs : List Column) (n : ℕ) → AreTyped fields arrays → AllStand arrays cs → AllLong n cs → (k : ℕ) → FitsAt fields n arrays k
structs-fit [] [] cs n typed all long zero = tt
structs-fit [] [] cs n typed all long (suc k) = tt
structs-fit [] (a ∷ arrays) cs n typed all long k = absurd typed
structs-fit (field ∷ fields) [] cs n typed all long k = absurd typed
structs-fit (field ∷ fields) (a ∷ arrays) [] n typed all long k = absurd all
structs-fit (field ∷ fields) (a ∷ arrays) (c ∷ cs) n typed all long zero =
    (all.0.len ∙ All-head (λ x. x.len ≡ n) c cs long, typed.0)
structs-fit (field ∷ fields) (a ∷ arrays) (c ∷ cs) n typed all long (suc k) =
    structs-fit fields arrays cs n typed.1 all.1 (All-tail (λ x. x.len ≡ n) c cs long) k

pub structs-can : (fields : List Field) (arrays : List AnyArray) (n : ℕ) (validity : Option (List Bool)) → AreTyped fields arrays → ¬ (AreStructs fields n arrays validity) → (cs : List Column) → AllStand arrays cs → ¬ (CanFill (Structs n validity) cs)
structs-can fields arrays n validity typed none cs all can =
    none (record { bits = can.0; fits = structs-fit fields arrays cs n typed all can.1 })

-- the arrays inside are not one
pub length-stand : (arrays : List AnyArray) (cs : List Column) → AllStand arrays cs → length arrays ≡ length cs
length-stand [] [] all = refl
length-stand [] (c ∷ cs) all = absurd all
length-stand (a ∷ arrays) [] all = absurd all
length-stand (a ∷ arrays) (c ∷ cs) all = ap suc (length-stand arrays cs all.1)

one-long : (f : Column → Type 0) (cs : List Column) → OneColumn f cs → length cs ≡ 1
one-long f [] good = absurd good
one-long f (c ∷ []) good = refl
one-long f (c ∷ d ∷ cs) good = absurd good

-- shapes that take one array
abbrev pub TakesOne : Shape → Type 0
TakesOne s = (cs : List Column) → CanFill s cs → length cs ≡ 1

pub lists-one : (offsets : ListOffsets) (validity : Option (List Bool)) → TakesOne (Lists offsets validity)
lists-one offsets validity cs = one-long (λ c. AreLists c.len offsets validity) cs

pub fixed-one : (size : Size) (validity : Option (List Bool)) → TakesOne (FixedLists size validity)
fixed-one size validity cs = one-long (λ c. AreFixedLists c.len size.width size.rows validity) cs

pub entries-one : (keys : DictKeys) → TakesOne (Entries keys)
entries-one keys cs = one-long (λ c. AreKeys c.len keys) cs

pub not-one : (s : Shape) (arrays : List AnyArray) (r : Refused) → TakesOne s → IsHonest (length arrays ≡ 1) r → IsHonestFill s arrays r
not-one s arrays r takes honest cs all =
    honest-more (length arrays ≡ 1) (CanFill s cs) r honest (λ can. length-stand arrays cs all ∙ takes cs can)

-- a refusal of the one array inside
pub one-refused : (s : Shape) (arrays : List AnyArray) (items : AnyArray) (r : Refused) → arrays ≡ items ∷ [] → IsHonestOne s items r → IsHonestFill s arrays r
one-refused s arrays items r only honest cs all =
    one items cs (λ xs. IsHonest (CanFill s xs) r) honest (subst (λ xs. AllStand xs cs) only all)

-- what the length of the array inside does not allow
pub other-length : (s : Shape) (f : ℕ → Type 0) (items : AnyArray) → ((c : Column) → CanFill s (c ∷ []) → f c.len) → ¬ (f (len_of items)) → (c : Column) → Stands items c → ¬ (CanFill s (c ∷ []))
other-length s f items to none c stands can = none (subst f (sym stands.len) (to c can))

-- an error that is `Parts`
pub parts-one : {T : Type 0} (s : Shape) (items : AnyArray) (result : Result T Refused) → IfErr result (λ r. r ≡ Parts) → ((c : Column) → Stands items c → ¬ (CanFill s (c ∷ []))) → IfErr result (IsHonestOne s items)
parts-one s items (Ok x) is none = tt
parts-one s items (Err r) is none = λ c stands. subst (IsHonest (CanFill s (c ∷ []))) (sym is) (none c stands)

pub parts-fill : {T : Type 0} (s : Shape) (arrays : List AnyArray) (result : Result T Refused) → IfErr result (λ r. r ≡ Parts) → ((cs : List Column) → AllStand arrays cs → ¬ (CanFill s cs)) → IfErr result (IsHonestFill s arrays)
parts-fill s arrays (Ok x) is none = tt
parts-fill s arrays (Err r) is none = λ cs all. subst (IsHonest (CanFill s cs)) (sym is) (none cs all)

pub memory-one : (s : Shape) (items : AnyArray) (r : Refused) → r ≡ Memory → IsHonestOne s items r
memory-one s items r is c stands = subst (IsHonest (CanFill s (c ∷ []))) (sym is) tt

-- ---- shapes that can be filled

-- what the length of the array inside allows
pub this-length : (s : Shape) (f : ℕ → Type 0) (items : AnyArray) → ((c : Column) → f c.len → CanFill s (c ∷ [])) → f (len_of items) → CanFillOne s items
this-length s f items of_length can c stands = of_length c (subst f stands.len can)

pub one-can : (s : Shape) (arrays : List AnyArray) (items : AnyArray) → arrays ≡ items ∷ [] → CanFillOne s items → CanFillWith s arrays
one-can s arrays items only can cs all =
    one items cs (λ xs. CanFill s xs) can (subst (λ xs. AllStand xs cs) only all)

all-long : (fields : List Field) (arrays : List AnyArray) (cs : List Column) (n : ℕ) → ((k : ℕ) → FitsAt fields n arrays k) → AllStand arrays cs → AllLong n cs
all-long fields [] [] n fits all = All-nil (λ c. c.len ≡ n)
all-long fields [] (c ∷ cs) n fits all = absurd all
all-long fields (a ∷ arrays) [] n fits all = absurd all
all-long [] (a ∷ arrays) (c ∷ cs) n fits all = absurd (fits 0)
all-long (field ∷ fields) (a ∷ arrays) (c ∷ cs) n fits all =
    All-cons (λ x. x.len ≡ n) c cs (sym all.0.len ∙ (fits 0).0) (all-long fields arrays cs n (λ k. fits (suc k)) all.1)

pub structs-filled : (fields : List Field) (arrays : List AnyArray) (n : ℕ) (validity : Option (List Bool)) → AreStructs fields n arrays validity → CanFillWith (Structs n validity) arrays
structs-filled fields arrays n validity are cs all = (are.bits, all-long fields arrays cs n are.fits all)

pub leaf-can : (a : AnyArray) (arrays : List AnyArray) → CanFillWith (Leaf a) arrays
leaf-can a arrays cs all = tt

pub ruleset filling = (list-rows, fixed-rows, struct-rows, entry-rows, one-fills, one-good, leaf-fills, lists-one, fixed-one, entries-one, not-one, one-refused, memory-one, one-can, leaf-can)
