-- The tables that rows are compared by, with tolerances and without.
use Rattle.std.proofs.Common.{◌≡◌, ◌∙◌, ℕ, List, Option, None, Some, length, ap, refl, sym}
use Rattle.std.proofs.lemmas.List.{length-map}
use Rattle.std.proofs.lemmas.List.FromFn.{length-map-range_with_len}
use Rattle.std.specs.Borrow.{Bor}
use Rattle.diff_columns.specs.Names.{Names}
use Rattle.diff_numbers.specs.Rows.{comparable_row}
use Rattle.diff_report.specs.declared.sides.Comparables.{Comparables}
use Rattle.diff_run.specs.Comparables.{AreBothBy, AreComparables, AreExact, AreTolerant, HaveFew, IsComparedFault, IsNumberFault, IsToleranceFault, Texts, numeric_columns}
use Rattle.diff_run.specs.declared.error.RunError.{RunError}
use Rattle.diff_run.specs.declared.error.RunError.TheVariants as error
use Rattle.diff_run.specs.declared.inputs.Both.{Both}
use Rattle.diff_run.specs.declared.options.Options.{Options}
use Rattle.diff_tolerances.specs.Rows.{row_beside}
use Rattle.diff_tolerances.specs.declared.cells.Tolerance.{Tolerance}

-- without tolerances
pub exact : (options : Options) (names : Names) (keys : List ℕ) (both : Both) (by : Option Comparables) → options.tolerances ≡ None → AreExact options.numbers names both by
    → AreComparables options names keys both by
exact options names keys both by none h = record { left = rw none h.left; right = rw none h.right; large = h.large }

-- as they are
pub exact_none : (texts : Texts) (names : Names) (both : Both) → texts ≡ None → AreExact texts names both None
exact_none texts names both none = rw none (record { left = refl; right = refl; large = tt })

-- where numbers count
pub exact_tables : (texts : Texts) (lists : Bor (List (Bor (List ℕ)))) (names : Names) (both : Both) (tables : Comparables) → texts ≡ Some lists → AreBothBy (numeric_columns texts names) both tables
    → AreExact texts names both (Some tables)
exact_tables texts lists names both tables asked h =
    let by : AreBothBy (numeric_columns (Some lists) names) both tables = rw asked at h in
    rw asked (record {
      left = by.left.rows;
      right = by.right.rows;
      large = record {
        left = record { width = by.left.width; count = ap length by.left.rows ∙ length-map both.left.table.rows (comparable_row (numeric_columns (Some lists) names)) };
        right = record { width = by.right.width; count = ap length by.right.rows ∙ length-map both.right.table.rows (comparable_row (numeric_columns (Some lists) names)) };
      };
    })

-- with tolerances
module _ (options : Options) (names : Names) (keys : List ℕ) (both : Both) (tables : Comparables) (h : AreBothBy (numeric_columns options.numbers names) both tables) where
  left_count : length tables.left.rows ≡ length both.left.table.rows
  left_count = ap length h.left.rows ∙ length-map both.left.table.rows (comparable_row (numeric_columns options.numbers names))

  right_count : length tables.right.rows ≡ length both.right.table.rows
  right_count = ap length h.right.rows ∙ length-map both.right.table.rows (comparable_row (numeric_columns options.numbers names))

  pub tolerant : (tolerances : Bor (List Tolerance)) (made : Comparables) → options.tolerances ≡ Some tolerances → AreTolerant tolerances.now names keys tables made → AreComparables options names keys both (Some made)
  tolerant tolerances made asked t = record {
    left = rw asked (ap (λ x. x.rows) t.left ∙ h.left.rows);
    right = rw asked (rw (h.left.rows, h.right.rows) at t.right.rows);
    large = record {
      left = record { width = ap (λ x. x.width) t.left ∙ h.left.width; count = ap (λ x. length x.rows) t.left ∙ left_count };
      right = record {
        width = t.right.width ∙ h.right.width;
        count = ap length t.right.rows.rows ∙ (length-map-range_with_len (row_beside tolerances.now names tables.left.rows t.right.rows.partners tables.right.rows) 0 (length tables.right.rows) ∙ right_count);
      };
    };
  }

  pub tolerance_fault : (e : RunError) → IsToleranceFault tables e → IsComparedFault options names both e
  tolerance_fault error.Memory fault = tt
  tolerance_fault error.TooManyRows fault = λ few. fault (rw (left_count, right_count) few)
  tolerance_fault (error.WideExponent side line name) fault = absurd fault
  tolerance_fault (error.KeyTwice side first again) fault = absurd fault
  tolerance_fault (error.Csv side cause) fault = absurd fault
  tolerance_fault (error.Columns cause) fault = absurd fault
  tolerance_fault (error.Choice cause) fault = absurd fault
  tolerance_fault (error.Write cause) fault = absurd fault

-- a number that can't be compared
pub number_told : (options : Options) (names : Names) (both : Both) (e : RunError) → IsNumberFault (numeric_columns options.numbers names) names both e → IsComparedFault options names both e
number_told options names both error.Memory fault = tt
number_told options names both (error.WideExponent side line name) fault = fault
number_told options names both error.TooManyRows fault = absurd fault
number_told options names both (error.KeyTwice side first again) fault = absurd fault
number_told options names both (error.Csv side cause) fault = absurd fault
number_told options names both (error.Columns cause) fault = absurd fault
number_told options names both (error.Choice cause) fault = absurd fault
number_told options names both (error.Write cause) fault = absurd fault

-- for tables that are compared without tolerances
pub ruleset exactly = (exact_none, exact_tables, number_told)

-- for tables that are compared as the options say
pub ruleset compared = (exact, tolerant, tolerance_fault, number_told)
