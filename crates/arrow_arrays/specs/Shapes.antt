-- Columns that are made of shapes: arrays without the arrays inside them.
use Rattle.std.specs.Prelude.{◌≡◌, ◌↔◌, ℕ, List, [], Option, length, ⊤}
use Rattle.polars_arrays_flat.specs.Kind.{FixedSizeListKind, StructKind, DictionaryKind}
use Rattle.polars_arrays_flat.specs.Kind.{LargeListKind}
use Rattle.polars_arrays_flat.specs.Row.{Fields}
use Rattle.polars_arrays_flat.specs.StoredRows.{kept}
use Rattle.polars_arrays_flat.specs.Validity.{HasBits, is_present}
use Rattle.polars_arrays_nested.specs.AnyRows.{row}
use Rattle.polars_arrays_nested.specs.DictKeys.{key_count, key_places, key_validity, kind_of_keys}
use Rattle.polars_arrays_nested.specs.GoodParts.{AreFixedLists, AreKeys, AreLists, IsGood}
use Rattle.polars_arrays_nested.specs.Leaves.{leaves}
use Rattle.polars_arrays_nested.specs.Lengths.{len_of}
use Rattle.polars_arrays_nested.specs.declared.dict_keys.DictKeys.{DictKeys}
use Rattle.polars_arrays_nested.specs.ListOffsets.{list_count, list_places}
use Rattle.polars_arrays_nested.specs.Types.{kind_of_lists, type_of}
use Rattle.arrow_arrays.specs.Columns.{Column, across, column_of, column_with, entries}
use Rattle.arrow_arrays.specs.Columns.{entry_leaves, fixed_leaves, fixed_lists, keys_in, kind_in}
use Rattle.arrow_arrays.specs.Columns.{kind_inside, leaves_across, leaves_in, list_leaves, lists}
use Rattle.arrow_arrays.specs.Columns.{named_kinds, stored_in}
use Rattle.arrow_arrays.specs.Good.{AllLong, AreNumbers, GoodEntries, GoodKind, GoodLists, GoodRows}
use Rattle.arrow_arrays.specs.Good.{OneColumn}
use Rattle.arrow_parts.specs.Kinds.{kind_number}
use Rattle.arrow_parts.specs.Lent.{present_in}
use Rattle.arrow_parts.specs.declared.part.Part.{Part}
use Rattle.arrow_parts.specs.declared.part.PartKind.{PartKind}
use Rattle.arrow_parts.specs.declared.refused.Refused.{Refused}
use Rattle.arrow_parts.specs.Refusals.{IsHonest}
use Rattle.arrow_arrays.specs.declared.shapes.Shape.{Shape}
use Rattle.arrow_arrays.specs.declared.shapes.Shape.TheVariants.{Leaf, Lists, FixedLists, Structs}
use Rattle.arrow_arrays.specs.declared.shapes.Shape.TheVariants.{Entries}

-- an array of one level is good
abbrev pub GoodShape : Shape → Type 0
GoodShape (Leaf a) = IsGood a
GoodShape _ = ⊤

-- the column of a shape over the columns inside it, without a name
abbrev pub shape_column : Shape → List Column → Column
shape_column (Leaf a) cs = record {
  name = [];
  kind = type_of a;
  len = len_of a;
  row = row a;
  leaves = leaves a;
}
shape_column (Lists offsets validity) cs = record {
  name = [];
  kind = kind_of_lists offsets (kind_inside cs);
  len = list_count offsets;
  row = λ i. kept (is_present validity i) (lists (list_places offsets) cs i);
  leaves = list_leaves (list_places offsets) cs;
}
shape_column (FixedLists size validity) cs = record {
  name = [];
  kind = FixedSizeListKind (kind_inside cs) size.width;
  len = size.rows;
  row = λ i. kept (is_present validity i) (fixed_lists size.width cs i);
  leaves = fixed_leaves size.width cs;
}
shape_column (Structs rows validity) cs = record {
  name = [];
  kind = StructKind (named_kinds cs);
  len = rows;
  row = λ i. kept (is_present validity i) (Fields (across cs i));
  leaves = leaves_across cs;
}
shape_column (Entries keys) cs = record {
  name = [];
  kind = DictionaryKind (kind_of_keys keys) (kind_inside cs);
  len = key_count keys;
  row = λ i. kept (is_present (key_validity keys) i) (entries (key_places keys) cs i);
  leaves = entry_leaves (key_validity keys) (key_places keys) cs;
}

-- an array can be made of a shape and of arrays that have these columns
abbrev pub CanFill : Shape → List Column → Type 0
CanFill (Leaf a) cs = ⊤
CanFill (Lists offsets validity) cs = OneColumn (λ c. AreLists c.len offsets validity) cs
CanFill (FixedLists size validity) cs =
    OneColumn (λ c. AreFixedLists c.len size.width size.rows validity) cs
CanFill (Structs rows validity) cs = HasBits rows validity × AllLong rows cs
CanFill (Entries keys) cs = OneColumn (λ c. AreKeys c.len keys) cs

-- two columns have one type and the same rows
pub record SameColumn (c d : Column) : Type 0 where
  pub kind : c.kind ≡ d.kind
  pub len : c.len ≡ d.len
  pub rows : (i : ℕ) → c.row i ≡ d.row i
  pub leaves : (from n : ℕ) → c.leaves from n ≡ d.leaves from n

-- over any columns a shape makes the column that f gives
abbrev pub Fits : Shape → (List Column → Column) → Type 0
Fits s f = (cs : List Column) → SameColumn (shape_column s cs) (f cs)

-- the keys are those of a part of a kind, one for each row
pub record AreKeysOf (kind : PartKind) (p : Part) (keys : DictKeys) : Type 0 where
  pub type : (cs : List Column) → DictionaryKind (kind_of_keys keys) (kind_inside cs)
      ≡ kind_in kind p cs
  pub good : AreNumbers p (length (keys_in kind p))
  pub mask : key_validity keys ≡ present_in p
  pub named : key_places keys ≡ keys_in kind p

-- a good shape makes the column that f gives, and can be filled exactly where the part is good
pub record FitsOver (f : List Column → Column) (good_over : List Column → Type 0) (s : Shape) :
    Type 0 where
  pub good : GoodShape s
  pub fits : Fits s f
  pub fills : (cs : List Column) → good_over cs ↔ CanFill s cs

-- lists of a part between places
abbrev pub FitsLists : List (Option ℕ) → Part → Shape → Type 0
FitsLists all p s =
    FitsOver (λ cs. column_with p (LargeListKind (kind_inside cs)) (lists all cs)
    (list_leaves all cs)) (GoodLists all p) s

-- dictionary rows of a part
abbrev pub FitsEntries : PartKind → Part → Shape → Type 0
FitsEntries kind p s =
    FitsOver (λ cs. column_with p (kind_in kind p cs) (entries (keys_in kind p) cs)
    (entry_leaves (present_in p) (keys_in kind p) cs)) (GoodEntries (keys_in kind p) p) s

-- a part of a kind
abbrev pub FitsKind : PartKind → Part → Shape → Type 0
FitsKind kind p s =
    FitsOver (λ cs. column_with p (kind_in kind p cs) (stored_in kind p cs) (leaves_in kind p cs))
    (GoodKind kind p) s

-- a part
abbrev pub FitsPart : Part → Shape → Type 0
FitsPart p s = FitsOver (column_of (kind_number p.kind) p) (GoodRows (kind_number p.kind) p) s

-- whatever the columns inside, a refusal of the part is true
abbrev pub IsHonestOver : (List Column → Type 0) → Refused → Type 0
IsHonestOver good_over r = (cs : List Column) → IsHonest (good_over cs) r
