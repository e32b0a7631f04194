-- Worked examples of the definitions.
use Rattle.std.proofs.Common.{arith}
use Rattle.std.specs.Borrow.{Bor}
use Rattle.std.specs.Prelude.{◌≡◌, List, [], ◌∷◌, None, Some, codes, refl}
use Rattle.fast_float.specs.Text.{scan}
use Rattle.json.specs.Word.{after_number}
use Rattle.json_decimals.specs.Decimals.{decimal_of}
use Rattle.json_tolerances.specs.declared.closeness.Margin.TheVariants.{Absolute, Relative}
use Rattle.diff_keys.specs.Partners.{Keys, count_of}
use Rattle.diff_tolerances.specs.Cells.{cell_by}
use Rattle.diff_tolerances.specs.Partners.{IsPartnerOf}
use Rattle.diff_tolerances.specs.Rows.{row_by}
use Rattle.diff_tolerances.specs.declared.cells.Tolerance.{Tolerance}

abbrev lent : {A : Type 0} → A → Bor A
lent x = record { ref_ptr = (0, 0); now = x }

-- a tolerance of 0.1 for the column n
abbrev by_tenth : List Tolerance
by_tenth = record { column = lent (codes "n"); margin = Absolute (decimal_of (codes "0.1")) } ∷ []

near : cell_by by_tenth (codes "n") (codes "7.0") (codes "7.05") ≡ codes "7.0"
unfolding after_number decimal_of scan
near = refl

farther : cell_by by_tenth (codes "n") (codes "7.0") (codes "7.2") ≡ codes "7.2"
unfolding after_number decimal_of scan
farther = refl

no-number : cell_by by_tenth (codes "n") (codes "7.0") (codes "about 7") ≡ codes "about 7"
unfolding after_number decimal_of scan
no-number = refl

other-column : cell_by by_tenth (codes "m") (codes "7.0") (codes "7.05") ≡ codes "7.05"
unfolding after_number decimal_of scan
other-column = refl

-- of two tolerances one is enough
second-allows : cell_by (record { column = lent (codes "n"); margin = Relative (decimal_of (codes "0.5")) } ∷ by_tenth) (codes "n") (codes "0") (codes "1e-1") ≡ codes "0"
unfolding after_number decimal_of scan
second-allows = refl

-- a row beside its partner, and rows beside another one and beside none
beside-partner : row_by by_tenth (codes "id" ∷ codes "n" ∷ []) (Some (codes "a" ∷ codes "7.0" ∷ [])) (codes "a" ∷ codes "7.05" ∷ []) ≡ codes "a" ∷ codes "7.0" ∷ []
unfolding after_number decimal_of scan
beside-partner = refl

beside-another : row_by by_tenth (codes "id" ∷ codes "n" ∷ []) (Some (codes "a" ∷ codes "8" ∷ [])) (codes "a" ∷ codes "7.05" ∷ []) ≡ codes "a" ∷ codes "7.05" ∷ []
unfolding after_number decimal_of scan
beside-another = refl

beside-none : row_by by_tenth (codes "id" ∷ codes "n" ∷ []) None (codes "a" ∷ codes "7.05" ∷ []) ≡ codes "a" ∷ codes "7.05" ∷ []
beside-none = refl

-- partners of right rows
abbrev left_keys : Keys
left_keys = codes "a" ∷ codes "b" ∷ []

abbrev right_keys : Keys
right_keys = codes "b" ∷ codes "a" ∷ codes "c" ∷ []

row-zero : IsPartnerOf left_keys right_keys 0 (Some 1)
unfolding count_of
row-zero = record { left_row = omega arith; right_row = omega arith; one_key = refl; one_number = refl }
