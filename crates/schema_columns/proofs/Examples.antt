-- Worked examples of the definitions.
use Rattle.std.specs.List.{count_by}
use Rattle.std.specs.Ordering.{int_eq}
use Rattle.std.specs.Prelude.{◌≡◌, [], ◌∷◌, pos, Some, codes, refl}
use Rattle.polars_arrays_flat.specs.Row.{Bytes}
use Rattle.schema_values.specs.Distinct.{distinct_total}
use Rattle.schema_columns.specs.Ends.{row_text}
use Rattle.schema_columns.specs.Present.{cells_of, is_missing, is_null, present}

-- the cells of column 1
column-one : cells_of 1 ((codes "a" ∷ codes "7" ∷ []) ∷ (codes "b" ∷ codes "NA" ∷ []) ∷ []) ≡ codes "7" ∷ codes "NA" ∷ []
column-one = refl

-- where NA stands for no value
present-cells : present (Some (codes "NA")) (codes "7" ∷ codes "NA" ∷ [] ∷ codes "9" ∷ []) ≡ codes "7" ∷ codes "9" ∷ []
present-cells = refl

null-cells : count_by (is_null (Some (codes "NA"))) (codes "7" ∷ codes "NA" ∷ [] ∷ codes "9" ∷ []) ≡ 1
null-cells = refl

missing-cells : count_by (is_missing (Some (codes "NA"))) (codes "7" ∷ codes "NA" ∷ [] ∷ codes "9" ∷ []) ≡ 1
missing-cells = refl

-- where an empty cell does
empty-is-null : count_by (is_missing (Some [])) (codes "7" ∷ [] ∷ []) ≡ 0
empty-is-null = refl

-- two numbers of three differ
numbers-differ : distinct_total int_eq (pos 7 ∷ pos 3 ∷ pos 7 ∷ []) ≡ 2
numbers-differ = refl

text-of-bytes : row_text (Bytes (codes "Oslo")) ≡ codes "Oslo"
text-of-bytes = refl
