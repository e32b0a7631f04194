-- From arrays of rows to the rows of tables.
use Rattle.std.proofs.Common.{◌≡◌, ◌<◌, ◌↔◌, ℕ, List, [], length, get_or, arith, sym, ◌∙◌}
use Rattle.std.proofs.lemmas.List.{length-map}
use Rattle.std.specs.Prelude.{slice_index}
use Rattle.diff_keys.specs.Errors.{IsMatchFault}
use Rattle.diff_keys.specs.Matching.{IsMatching}
use Rattle.diff_keys.specs.Partners.{Keys}
use Rattle.diff_keys.specs.declared.error.MatchError.{MatchError}
use Rattle.diff_keys.specs.declared.error.MatchError.TheVariants.{Memory, TooManyRows}
use Rattle.diff_keys.specs.declared.matching.Matching.{Matching}
use Rattle.diff_keys.specs.Rising.{ListsRising}
use Rattle.diff_keys.specs.RisingLaws.{listed_as}
use Rattle.diff_pairs.specs.Cells.{strings_of}
use Rattle.diff_pairs.specs.Pairs.{NameRows}
use Rattle.diff_pairs.specs.Rows.{HaveOtherCells, row_cells}
use Rattle.diff_pairs.specs.declared.rows.LentRows.{LentRows}
use Rattle.diff_tables.specs.Comparison.{ArePairs, IsDifferent}
use Rattle.diff_tables.specs.Errors.{IsCompareFault, IsKeysFault}
use Rattle.diff_tables.specs.Keys.{row_key, row_keys}
use Rattle.diff_tables.specs.Tables.{Lends, TableRows}
use Rattle.diff_tables.proofs.TableLemmas.{length_cut, row_cut}

-- the row of a table is the row that is lent
row_lent : (t : TableRows) (lent : LentRows) (i : ℕ) → Lends t lent → i < length t.rows → get_or t.rows i [] ≡ row_cells lent.width (strings_of lent.cells) i
row_lent t lent i h within =
    let below : i < lent.count = omega (arith, rw h.rows at within, length_cut lent.width lent.count (strings_of lent.cells)) in
    rw h.rows (row_cut lent.width lent.count i (strings_of lent.cells) below)

-- numbers of rows of a table are numbers of rows that are lent
pub named_lent : (t : TableRows) (lent : LentRows) (rows : List ℕ) → Lends t lent → NameRows (length t.rows) rows → NameRows lent.count rows
named_lent t lent rows h within = λ p inside.
    let below : slice_index rows p < length t.rows = within p inside in
    omega (arith, rw h.rows at below, length_cut lent.width lent.count (strings_of lent.cells))

-- pairs of rows with other cells are pairs of different rows
pub rows_differ : (left right : TableRows) (l r : LentRows) (ls rs changed : List ℕ) → Lends left l → Lends right r → l.width ≡ r.width → ArePairs left.rows right.rows ls rs
    → ListsRising (HaveOtherCells r.width (strings_of l.cells) (strings_of r.cells) ls rs) (length ls) changed → ListsRising (IsDifferent left.rows right.rows ls rs) (length ls) changed
rows_differ left right l r ls rs changed from_left from_right width pairs h =
    listed_as (HaveOtherCells r.width (strings_of l.cells) (strings_of r.cells) ls rs) (IsDifferent left.rows right.rows ls rs) (length ls) changed same h
  where
    same : (p : ℕ) → p < length ls → HaveOtherCells r.width (strings_of l.cells) (strings_of r.cells) ls rs p ↔ IsDifferent left.rows right.rows ls rs p
    same p within =
        let l_at : get_or left.rows (slice_index ls p) [] ≡ row_cells r.width (strings_of l.cells) (slice_index ls p) =
        rw width at (row_lent left l (slice_index ls p) from_left (pairs.left_within p within)) in
        let r_at : get_or right.rows (slice_index rs p) [] ≡ row_cells r.width (strings_of r.cells) (slice_index rs p) =
        row_lent right r (slice_index rs p) from_right (pairs.right_within p (omega (arith, within, pairs.one_length))) in (
          λ differ equal. differ (sym l_at ∙ (equal ∙ r_at)),
          λ differ equal. differ (l_at ∙ (equal ∙ sym r_at)),
        )

-- rows that are matched by their keys are rows of the tables
pub pairs_within : (columns : List ℕ) (left right : List (List (List ℕ))) (m : Matching) → IsMatching (row_keys columns left) (row_keys columns right) m → ArePairs left right m.left_rows.items m.right_rows.items
pairs_within columns left right m h = record {
  one_length = h.one_length;
  left_within = λ k within. let at = (h.partners k within).left_row in let count : length (row_keys columns left) ≡ length left = length-map left (row_key columns) in omega (arith, at, count);
  right_within = λ k within. let at = (h.partners k (omega (arith, within, h.one_length))).right_row in let count : length (row_keys columns right) ≡ length right = length-map right (row_key columns) in omega (arith, at, count);
}

-- why rows are not matched by their keys is why tables are not compared
pub keys_fault : (lk rk keys : Keys) (error : MatchError) → rk ≡ keys → IsMatchFault lk rk error → IsKeysFault lk keys error
keys_fault lk rk keys Memory e h = tt
keys_fault lk rk keys TooManyRows e h = rw e at h

pub compare_fault : (columns : List ℕ) (left right : List (List (List ℕ))) (lk : Keys) (error : MatchError) → lk ≡ row_keys columns left
    → IsKeysFault lk (row_keys columns right) error → IsCompareFault columns left right error
compare_fault columns left right lk Memory e h = tt
compare_fault columns left right lk TooManyRows e h = rw e at h
