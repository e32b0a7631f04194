-- What is shown of paths, cut into rows.
use Rattle.std.proofs.Common.{◌≡◌, ◌+◌, ◌*◌, ◌++◌, ◌∷◌, ◌∙◌, suc, List, [], length, map, ap, refl, arith}
use Rattle.std.proofs.lemmas.List.Concat.{flat_map-cons}
use Rattle.std.specs.List.{flat_map}
use Rattle.diff_tables.specs.Tables.{cut_rows}
use Rattle.schema_paths.specs.declared.paths.PathSchema.{PathSchema}
use Rattle.schema_documents.specs.Grid.{header, row_of}

rows_cut : (paths : List PathSchema) → cut_rows 11 (length paths) (flat_map row_of paths) ≡ map row_of paths
unfolding cut_rows row_of
rows_cut [] = refl
rows_cut (s ∷ more) = ap (λ cells. cut_rows 11 (suc (length more)) cells) (flat_map-cons row_of s more) ∙ ap (λ rest. row_of s ∷ rest) (rows_cut more)

pub all_cut : (paths : List PathSchema) → cut_rows 11 (length paths + 1) (header ++ flat_map row_of paths) ≡ header ∷ map row_of paths
unfolding cut_rows
all_cut paths =
    let more : length paths + 1 ≡ suc (length paths) = omega arith in
    ap (λ n. cut_rows 11 n (header ++ flat_map row_of paths)) more ∙ ap (λ rest. header ∷ rest) (rows_cut paths)

rows_many : (paths : List PathSchema) → length (flat_map row_of paths) ≡ 11 * length paths
unfolding row_of
rows_many [] = refl
rows_many (s ∷ more) =
    let rest = rows_many more in
    ap length (flat_map-cons row_of s more) ∙ omega (arith, rest)

pub all_many : (paths : List PathSchema) → length (header ++ flat_map row_of paths) ≡ 11 * (length paths + 1)
all_many paths =
    let rest = rows_many paths in
    omega (arith, rest)
