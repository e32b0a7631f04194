-- The types of rows: their names, and their numbers.
use Rattle.std.specs.Prelude.{ℕ, ℤ, Bool, true, false, List, [], ◌∷◌, codes, Option}
use Rattle.polars_arrays_numbers.specs.Ranges.{least_of}
use Rattle.polars_tables_rows.specs.declared.row_type.RowType.{RowType}
use Rattle.polars_tables_rows.specs.declared.row_type.RowType.TheVariants.{I8, I16, I32, I64, U8}
use Rattle.polars_tables_rows.specs.declared.row_type.RowType.TheVariants.{U16, U32, U64, Boolean}
use Rattle.polars_tables_rows.specs.Tables.{find}

-- the types by name
abbrev pub row_types : List (List ℕ × RowType)
row_types = (codes "i8", I8)
    ∷ (codes "i16", I16)
    ∷ (codes "i32", I32)
    ∷ (codes "i64", I64)
    ∷ (codes "u8", U8)
    ∷ (codes "u16", U16)
    ∷ (codes "u32", U32)
    ∷ (codes "u64", U64)
    ∷ (codes "bool", Boolean)
    ∷ []

-- the type of a name
abbrev pub row_type_of : List ℕ → Option RowType
row_type_of name = find row_types name

-- whether the rows are truth values
abbrev pub is_boolean : RowType → Bool
is_boolean Boolean = true
is_boolean type = false

-- the number of bits of a row; a truth value has one
abbrev pub width_of : RowType → ℕ
width_of I8 = 8
width_of I16 = 16
width_of I32 = 32
width_of I64 = 64
width_of U8 = 8
width_of U16 = 16
width_of U32 = 32
width_of U64 = 64
width_of Boolean = 1

-- the least number of a type; a truth value is 0 or 1
abbrev pub least_in : RowType → ℤ
least_in I8 = least_of true 8
least_in I16 = least_of true 16
least_in I32 = least_of true 32
least_in I64 = least_of true 64
least_in U8 = least_of false 8
least_in U16 = least_of false 16
least_in U32 = least_of false 32
least_in U64 = least_of false 64
least_in Boolean = least_of false 1
