-- Rows under bits that are all set.
use Rattle.std.proofs.Common.{◌≡◌, ◌+◌, ◌∙◌, ℕ, Bool, true, false, cond, not, List, [], ◌∷◌, length, map, count_by, refl, sym, ap, arith}
use Rattle.std.proofs.lemmas.List.Recursion.{is_count_by}
use Rattle.polars_arrays_flat.specs.Row.{Row}
use Rattle.polars_arrays_flat.specs.StoredRows.{masked}
use Rattle.polars_tables_rows.proofs.RowLists.{length-mapped}

-- the number of bits that are not set, from the last one on
abbrev unset : List Bool → ℕ
unset [] = 0
unset (b ∷ bits) = cond (not b) (1 + unset bits) (unset bits)

kept_all : (bits : List Bool) (rows : List Row) → length bits ≡ length rows → unset bits ≡ 0 → masked bits rows ≡ rows
kept_all [] [] long none = refl
kept_all [] (r ∷ rows) long none = absurd (omega arith)
kept_all (b ∷ bits) [] long none = absurd (omega arith)
kept_all (true ∷ bits) (r ∷ rows) long none = ap (λ rest. r ∷ rest) (kept_all bits rows (omega arith) none)
kept_all (false ∷ bits) (r ∷ rows) long none = absurd (omega arith)

-- where all bits are set no value is masked
pub none_masked : {A : Type 0} (f : A → Row) (bits : List Bool) (xs : List A) → length bits ≡ length xs → count_by not bits ≡ 0 → map f xs ≡ masked bits (map f xs)
none_masked f bits xs long none =
    sym (kept_all bits (map f xs) (long ∙ sym (length-mapped f xs)) (is_count_by unset not refl (λ x rest. refl) bits ∙ none))
