-- Arrays that have the rows of columns.
use Rattle.std.specs.Prelude.{◌≡◌, ℕ, ℤ, Bool, List, [], ◌∷◌, Option, length, map, string_bytes, ⊤}
use Rattle.polars_arrays_bytes.specs.OffsetStrings.{OffsetStrings, places, row_count}
use Rattle.polars_arrays_bytes.specs.SizedStrings.{SizedStrings}
use Rattle.polars_arrays_flat.specs.DataType.{kind_of}
use Rattle.polars_arrays_flat.specs.Flat.{Flat}
use Rattle.polars_arrays_flat.specs.Numbers.{Numbers}
use Rattle.polars_arrays_flat.specs.declared.data_type.Field.{Field}
use Rattle.polars_arrays_nested.specs.AnyRows.{row}
use Rattle.polars_arrays_nested.specs.GoodParts.{IsGood}
use Rattle.polars_arrays_nested.specs.Leaves.{leaves}
use Rattle.polars_arrays_nested.specs.Lengths.{len_of}
use Rattle.polars_arrays_nested.specs.Types.{type_of}
use Rattle.polars_arrays_nested.specs.declared.any_array.AnyArray.{AnyArray}
use Rattle.arrow_arrays.specs.Good.{AreNumbers, AreSized, AreTruths}
use Rattle.arrow_arrays.specs.Columns.{Column, column_with, kind_in, leaves_in, stored_in}
use Rattle.arrow_arrays.specs.Shapes.{CanFill, shape_column}
use Rattle.arrow_arrays.specs.Views.{AreGathered}
use Rattle.arrow_arrays.specs.declared.shapes.Shape.{Shape}
use Rattle.arrow_parts.specs.ByteBits.{byte_window}
use Rattle.arrow_parts.specs.Lent.{present_in}
use Rattle.arrow_parts.specs.Refusals.{IsHonest}
use Rattle.arrow_parts.specs.declared.part.Part.{Part}
use Rattle.arrow_parts.specs.declared.part.PartKind.{PartKind}
use Rattle.arrow_parts.specs.declared.refused.Refused.{Refused}

-- a good array has the type and the rows of a column, the same number of them, and its leaf slots
pub record Stands (a : AnyArray) (c : Column) : Type 0 where
  pub good : IsGood a
  pub kind : type_of a ≡ c.kind
  pub len : len_of a ≡ c.len
  pub rows : (i : ℕ) → row a i ≡ c.row i
  pub leaves : (from n : ℕ) → leaves a from n ≡ c.leaves from n

-- each array stands for the column at its place
abbrev pub AllStand : List AnyArray → List Column → Type 0
AllStand [] [] = ⊤
AllStand (a ∷ arrays) (c ∷ columns) = Stands a c × AllStand arrays columns
AllStand _ _ = ⊥

-- an array has the rows of a part of a kind, whatever columns it holds
abbrev pub StandsFor : PartKind → Part → AnyArray → Type 0
StandsFor kind p a = (cs : List Column)
    → Stands a (column_with p (kind_in kind p cs) (stored_in kind p cs) (leaves_in kind p cs))

-- the names of fields
abbrev pub field_names : List Field → List (List ℕ)
field_names fields = map (λ field. string_bytes field.name) fields

-- each name is that of the column at its place
abbrev pub AllNamed : List (List ℕ) → List Column → Type 0
AllNamed [] [] = ⊤
AllNamed (name ∷ names) (c ∷ columns) = (name ≡ c.name) × AllNamed names columns
AllNamed _ _ = ⊥

-- an array has the rows of a shape over the columns that the arrays inside it have, and a struct's
-- fields their names
abbrev pub Fills : Shape → List Field → List AnyArray → AnyArray → Type 0
Fills s fields inside a = (cs : List Column) → AllStand inside cs
    → AllNamed (field_names fields) cs → Stands a (shape_column s cs)

-- an array has the rows of a shape over the column that the one array inside it has
abbrev pub FillsOne : Shape → AnyArray → AnyArray → Type 0
FillsOne s items a = (c : Column) → Stands items c → Stands a (shape_column s (c ∷ []))

-- a refusal to make an array of a shape and of the arrays inside it is true
abbrev pub IsHonestFill : Shape → List AnyArray → Refused → Type 0
IsHonestFill s inside r = (cs : List Column) → AllStand inside cs → IsHonest (CanFill s cs) r

-- a refusal to make an array of a shape and of the one array inside it is true
abbrev pub IsHonestOne : Shape → AnyArray → Refused → Type 0
IsHonestOne s items r = (c : Column) → Stands items c → IsHonest (CanFill s (c ∷ [])) r

-- an array can be made of a shape and of the arrays inside it
abbrev pub CanFillWith : Shape → List AnyArray → Type 0
CanFillWith s inside = (cs : List Column) → AllStand inside cs → CanFill s cs

-- an array can be made of a shape and of the one array inside it
abbrev pub CanFillOne : Shape → AnyArray → Type 0
CanFillOne s items = (c : Column) → Stands items c → CanFill s (c ∷ [])

-- an array of the numbers of a part, which are good
pub record IsNumbers {A : Type 0} (p : Part) (xs : List A) (a : Numbers A) : Type 0 where
  pub good : AreNumbers p (length xs)
  pub stored : a.values ≡ xs
  pub mask : a.validity ≡ present_in p

-- an array of the truth values of a part, which are good
pub record IsTruths (p : Part) (a : Flat Bool) : Type 0 where
  pub good : AreTruths p
  pub stored : a.values ≡ byte_window p.first_bit p.rows p.u8s.now
  pub mask : a.validity ≡ present_in p

-- an array of the byte strings of a part between places
pub record IsStrings (p : Part) (all : List (Option ℕ)) (a : OffsetStrings ℤ) : Type 0 where
  pub count : row_count a.offsets ≡ p.rows
  pub ends : places (λ x. x) a.offsets ≡ all
  pub stored : a.values ≡ p.u8s.now
  pub mask : a.validity ≡ present_in p

-- an array of the byte strings of a part, which are of one size and good
pub record IsSizedStrings (p : Part) (a : SizedStrings) : Type 0 where
  pub good : AreSized p (length p.u8s.now)
  pub size : a.size ≡ p.width
  pub count : a.count ≡ p.rows
  pub stored : a.values ≡ p.u8s.now
  pub mask : a.validity ≡ present_in p

-- an array of the rows that the views of a part lead to
pub record IsViewed (p : Part) (a : OffsetStrings ℤ) : Type 0 where
  pub rows : AreGathered p p.rows (places (λ x. x) a.offsets) a.values
  pub mask : a.validity ≡ present_in p

-- each field has the type of the array at its place
abbrev pub AreTyped : List Field → List AnyArray → Type 0
AreTyped [] [] = ⊤
AreTyped (field ∷ fields) (a ∷ arrays) = (type_of a ≡ kind_of field.dtype) × AreTyped fields arrays
AreTyped _ _ = ⊥
