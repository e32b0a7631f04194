-- Rows compared with all rows of an array.
use Rattle.std.proofs.Common.{◌≡◌, ◌+◌, ◌<◌, ℕ, Bool, false, List, [], ◌∷◌, ◌++◌, length, length-append, get_or, ap, subst, ◌∙◌, arith, add-zero}
use Rattle.std.specs.List.{list_all}
use Rattle.std.proofs.Math.ListN.{get_or-append}
use Rattle.std.proofs.Math.Seq.{get_or-append_seam}
use borrow.Author.Count.{below_more}
use Rattle.polars_arrays_flat.specs.Row.{Row}
use Rattle.polars_arrays_flat.specs.Validity.{window}
use Rattle.polars_arrays_nested.specs.AnyRows.{row, rows_from}
use Rattle.polars_arrays_nested.specs.declared.any_array.AnyArray.{AnyArray}
use Rattle.polars_compare_leaves.specs.Sameness.{same_leaf, same_row, same_rows}
use Rattle.polars_compare_nested.specs.Bits.{SameBits}
use Rattle.polars_compare_nested.specs.Broadcasts.{SameAsAll, all_rows}
use Rattle.polars_compare_nested.proofs.WindowBits.{part_same}

-- bits that are all set say that a window is all rows of an array
pub all_rows_same : (x y : AnyArray) (from n : ℕ) (bits : List Bool) → SameBits same_leaf x from y 0 n bits → list_all (λ b. b) (window 0 n bits) ≡ same_rows same_leaf (rows_from (row x) from n) (rows_from (row y) 0 n)
all_rows_same x y from n bits told =
    part_same same_leaf x y from 0 n bits 0 n told (omega arith)
    ∙ ap (λ (k : ℕ). same_rows same_leaf (rows_from (row x) k n) (rows_from (row y) 0 n)) (add-zero from)

-- one more row's bit
pub same_as_all-push : (f : ℕ → Row) (all : AnyArray) (n : ℕ) (bits : List Bool) (x : Bool) → SameAsAll f all n bits → x ≡ same_row (f n) (all_rows all) → SameAsAll f all (n + 1) (bits ++ x ∷ [])
same_as_all-push f all n bits x h e = record {
  size = omega (arith, length-append {A = Bool}, h.size);
  at_each = below_more (λ i. get_or (bits ++ x ∷ []) i false ≡ same_row (f i) (all_rows all)) n
      (λ i low. let low' : i < length bits = omega (arith, h.size) in rw get_or-append (h.at_each i low))
      (subst (λ k. get_or (bits ++ x ∷ []) k false ≡ x) h.size (get_or-append_seam bits x [] false) ∙ e);
}
