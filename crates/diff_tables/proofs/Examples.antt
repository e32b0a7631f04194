-- Worked examples of the definitions.
use Rattle.std.specs.Prelude.{◌≡◌, [], ◌∷◌, refl}
use Rattle.diff_keys.specs.Same.{rows_with}
use Rattle.diff_tables.specs.Keys.{escaped, row_key}
use Rattle.diff_tables.specs.Tables.{cut_rows}

-- two rows of two cells
two-rows : cut_rows 2 2 ((97 ∷ []) ∷ (98 ∷ []) ∷ (99 ∷ []) ∷ [] ∷ []) ≡ ((97 ∷ []) ∷ (98 ∷ []) ∷ []) ∷ ((99 ∷ []) ∷ [] ∷ []) ∷ []
unfolding cut_rows
two-rows = refl

-- the key of the cells "a", "bc" in the columns 0 and 1
key-of-two : row_key (0 ∷ 1 ∷ []) ((97 ∷ []) ∷ (98 ∷ 99 ∷ []) ∷ []) ≡ 97 ∷ 0 ∷ 0 ∷ 98 ∷ 99 ∷ 0 ∷ 0 ∷ []
unfolding row_key escaped
key-of-two = refl

-- a zero in a cell is no end
zero-is-marked : row_key (0 ∷ []) ((0 ∷ []) ∷ []) ≡ 0 ∷ 1 ∷ 0 ∷ 0 ∷ []
unfolding row_key escaped
zero-is-marked = refl

-- of the rows a 1, b 2, a 3 the first and the third have the key of a in column 0
two-of-a : rows_with (row_key (0 ∷ [])) (97 ∷ 0 ∷ 0 ∷ []) (((97 ∷ []) ∷ (49 ∷ []) ∷ []) ∷ ((98 ∷ []) ∷ (50 ∷ []) ∷ []) ∷ ((97 ∷ []) ∷ (51 ∷ []) ∷ []) ∷ [])
    ≡ ((97 ∷ []) ∷ (49 ∷ []) ∷ []) ∷ ((97 ∷ []) ∷ (51 ∷ []) ∷ []) ∷ []
unfolding row_key escaped
two-of-a = refl
