-- What is shown of columns, cut into rows.
use Rattle.std.proofs.Common.{◌≡◌, ◌+◌, ◌*◌, ◌++◌, ◌∷◌, ◌∙◌, suc, List, [], length, map, ap, refl, arith}
use Rattle.std.proofs.lemmas.List.Concat.{flat_map-cons}
use Rattle.std.specs.List.{flat_map}
use Rattle.diff_tables.specs.Tables.{cut_rows}
use Rattle.schema_columns.specs.declared.column.ColumnSchema.{ColumnSchema}
use Rattle.schema_report.specs.Grid.{header, row_of}

rows_cut : (columns : List ColumnSchema) → cut_rows 7 (length columns) (flat_map row_of columns) ≡ map row_of columns
unfolding cut_rows
rows_cut [] = refl
rows_cut (s ∷ more) = ap (λ cells. cut_rows 7 (suc (length more)) cells) (flat_map-cons row_of s more) ∙ ap (λ rest. row_of s ∷ rest) (rows_cut more)

pub all_cut : (columns : List ColumnSchema) → cut_rows 7 (length columns + 1) (header ++ flat_map row_of columns) ≡ header ∷ map row_of columns
unfolding cut_rows
all_cut columns =
    let more : length columns + 1 ≡ suc (length columns) = omega arith in
    ap (λ n. cut_rows 7 n (header ++ flat_map row_of columns)) more ∙ ap (λ rest. header ∷ rest) (rows_cut columns)

rows_many : (columns : List ColumnSchema) → length (flat_map row_of columns) ≡ 7 * length columns
rows_many [] = refl
rows_many (s ∷ more) =
    let rest = rows_many more in
    ap length (flat_map-cons row_of s more) ∙ omega (arith, rest)

pub all_many : (columns : List ColumnSchema) → length (header ++ flat_map row_of columns) ≡ 7 * (length columns + 1)
all_many columns =
    let rest = rows_many columns in
    omega (arith, rest)
