-- Rows of cells, w each, that lie one after another.
--
-- Of the cells a, b, c, d row 1 of two cells has c, d.
use Rattle.std.specs.Prelude.{◌≡◌, ◌*◌, ℕ, List, slice_index}
use Rattle.polars_arrays_flat.specs.Validity.{window}

-- the cells of row i
abbrev pub row_cells : ℕ → List (List ℕ) → ℕ → List (List ℕ)
row_cells w strings i = window (w * i) w strings

-- the two rows of pair p have different cells
abbrev pub HaveOtherCells : ℕ → List (List ℕ) → List (List ℕ) → List ℕ → List ℕ → ℕ → Type 0
HaveOtherCells w left right left_rows right_rows p =
    ¬ (row_cells w left (slice_index left_rows p) ≡ row_cells w right (slice_index right_rows p))
