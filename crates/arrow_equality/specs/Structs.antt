-- Structs that are compared field by field.
--
-- Of two structs with the fields 1, 2 and `a`, `b` on one side, and 1, 3 and `a`, `b` on the other,
-- the bits are 1, 0 and the count of comparisons is 4.
use Rattle.std.specs.Prelude.{◌≡◌, ◌<◌, ◌≤◌, ◌+◌, ◌-◌, ◌^◌, ◌&&◌, ◌++◌, ◌↔◌, ℕ, true, false, List}
use Rattle.std.specs.Prelude.{[], ◌∷◌, Some, length, min, slice_index_or}
use Rattle.std.specs.Simd.Lanes.{zip2}
use Rattle.std.specs.Str.{IsUtf8}
use Rattle.polars_arrays_flat.specs.declared.data_type.Field.{Field}
use Rattle.polars_arrays_nested.specs.declared.any_array.AnyArray.{AnyArray}
use Rattle.polars_compare_leaves.specs.Joining.{Joined}
use Rattle.polars_compare_nested.specs.TallyColumns.{columns_tally}
use Rattle.arrow_parts.specs.Kinds.{kind_number}
use Rattle.arrow_parts.specs.Lent.{present_in}
use Rattle.arrow_parts.specs.declared.part.Part.{Part}
use Rattle.arrow_parts.specs.declared.part.PartKind.TheVariants as kind
use Rattle.arrow_arrays.specs.Columns.{Column, across, columns_of, leaves_across, named_kinds}
use Rattle.arrow_arrays.specs.Columns.{rows_of_parts}
use Rattle.arrow_arrays.specs.Good.{AllGood, AllLong, AreGoodParts, HoldRows}
use Rattle.arrow_arrays.specs.Stands.{AllNamed, AllStand, AreTyped, field_names}
use Rattle.arrow_equality.specs.Equal.{IsComparison}
use Rattle.arrow_equality.specs.declared.compared.Compared.{Compared}

-- the name of the first part
abbrev pub first_name : List Part → List ℕ
first_name [] = []
first_name (p ∷ rest) = p.name.now

-- the first parts of both sides have one name, of less than 2^63 bytes
pub record HaveOneName (left right : List Part) : Type 0 where
  pub same : first_name left ≡ first_name right
  pub short : length (first_name left) < 2 ^ 63

-- the comparison of a field: the parts of each side make one array, and the names are equal
pub record IsFieldCompared (left right : List Part) (c : Compared) : Type 0 where
  pub names : HaveOneName left right
  pub left_good : AreGoodParts left
  pub right_good : AreGoodParts right
  pub compared : IsComparison (rows_of_parts left) (rows_of_parts right) c

-- the exact number of comparisons of leaves of arrays that stand for columns of `rows` rows, as a
-- number of 64 bits: at most one for each leaf slot of the left columns
pub record AreCounted (left right : List Column) (rows n : ℕ) : Type 0 where
  pub fields : List Field
  pub left_arrays : List AnyArray
  pub right_arrays : List AnyArray
  pub left_stand : AllStand left_arrays left
  pub right_stand : AllStand right_arrays right
  pub left_typed : AreTyped fields left_arrays
  pub right_typed : AreTyped fields right_arrays
  pub left_named : AllNamed (field_names fields) left
  pub right_named : AllNamed (field_names fields) right
  pub counted : n ≡ min (columns_tally left_arrays right_arrays 0 0 rows) (2 ^ 64 - 1)
  pub bound : n ≤ leaves_across left 0 rows

-- the comparison of k fields, whose parts follow one another: a bit for each row, set exactly if
-- the row is the same in all fields
pub record AreFieldsCompared (k : ℕ) (left right : List Part) (c : Compared) : Type 0 where
  pub left_good : AllGood left
  pub right_good : AllGood right
  pub left_count : length (columns_of left) ≡ k
  pub right_count : length (columns_of right) ≡ k
  pub one_type : named_kinds (columns_of left) ≡ named_kinds (columns_of right)
  pub left_long : AllLong (length c.bits) (columns_of left)
  pub right_long : AllLong (length c.bits) (columns_of right)
  pub at_each : (i : ℕ) → i < length c.bits → (slice_index_or c.bits i false ≡ true)
      ↔ (across (columns_of left) i ≡ across (columns_of right) i)
  pub count : AreCounted (columns_of left) (columns_of right) (length c.bits) c.comparisons

-- the bits that are set in two comparisons of equally many rows, and the sum of their counts
pub record AreBoth (field rest c : Compared) : Type 0 where
  pub one_length : length field.bits ≡ length rest.bits
  pub bits : c.bits ≡ zip2 ◌&&◌ rest.bits field.bits
  pub count : c.comparisons ≡ min (field.comparisons + rest.comparisons) (2 ^ 64 - 1)

-- the comparison of one field more, before the others
pub record AddsField (left right : List Part) (rest c : Compared) : Type 0 where
  pub one_length : length c.bits ≡ length rest.bits
  pub more : (k : ℕ) (ls rs : List Part) → AreFieldsCompared k ls rs rest
      → AreFieldsCompared (k + 1) (left ++ ls) (right ++ rs) c

-- two parts of structs with equally many rows and fields
pub record AreStructs (s t : Part) : Type 0 where
  pub left_kind : kind_number s.kind ≡ Some kind.Struct
  pub right_kind : kind_number t.kind ≡ Some kind.Struct
  pub left_name : IsUtf8 s.name.now
  pub right_name : IsUtf8 t.name.now
  pub one_count : s.children ≡ t.children
  pub one_length : s.rows ≡ t.rows

-- the comparison of the fields of two structs, joined with the validities of the structs
pub record AreFieldsJoined (s t : Part) (fields c : Compared) : Type 0 where
  pub joined : Joined true (present_in s) (present_in t) fields.bits c.bits
  pub left_held : HoldRows s
  pub right_held : HoldRows t
  pub count : c.comparisons ≡ fields.comparisons
