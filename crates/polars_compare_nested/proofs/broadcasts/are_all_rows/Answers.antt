use Rattle.std.proofs.Common.{◌≡◌, ◌∙◌, arith, sym}
use Rattle.polars_arrays_nested.specs.AnyRows.{row}
use Rattle.polars_arrays_nested.specs.Lengths.{len_of}
use Rattle.polars_compare_leaves.specs.Sameness.{same_leaf}
use Rattle.polars_compare_nested.proofs.AllRows.{all_rows_same}
use Rattle.polars_compare_nested.proofs.WindowBits.{other_length}
use Rattle.polars_compare_nested.proofs.broadcasts.are_all_rows.Goals as goal

pub returns-then-count-len : goal.returns-then-count-len
returns-then-count-len c =
    sym (other_length same_leaf (row c.args.items.now) c.args.from c.args.count (row c.args.rows.now) 0 _ (λ e. omega (arith, e, c.len.ensures)))

pub returns : goal.returns
returns c =
    let size : c.args.count ≡ len_of c.args.rows.now = omega (arith, c.len.ensures) in
    let set = rw c.from_bitmap.ensures at c.all_set.ensures in
    rw (← size) (set ∙ all_rows_same _ _ _ _ _ c.in_ok-same.ensures.told)
