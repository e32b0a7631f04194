use Rattle.std.specs.List.{list_all, list_any}
use Rattle.polars_compare_leaves.specs.Order.{row_greater, row_less}
use Rattle.polars_compute_reductions.specs.Bitwise.{is_odd}
use Rattle.polars_tables_operations.proofs.Found.{best-is, reduced-is}
use Rattle.polars_tables_operations.proofs.reducing.reduce.Goals as goal

pub returns-in-And : goal.returns-in-And
returns-in-And g c =
    let law = g.met.A.KernelArray in
    rw c.in-And.is (reduced-is _ _ law.bit_scalar_law (list_all (λ b. b)) _ _ _ _ _ _ law.bit_width_law (law.bit_rows_law c.args.array.now) c.reduce_and.ensures c.unchanged.ensures.bits)

pub returns-in-Or : goal.returns-in-Or
returns-in-Or g c =
    let law = g.met.A.KernelArray in
    rw c.in-Or.is (reduced-is _ _ law.bit_scalar_law (list_any (λ b. b)) _ _ _ _ _ _ law.bit_width_law (law.bit_rows_law c.args.array.now) c.reduce_or.ensures c.unchanged-in-Or.ensures.bits)

pub returns-in-Xor : goal.returns-in-Xor
returns-in-Xor g c =
    let law = g.met.A.KernelArray in
    rw c.in-Xor.is (reduced-is _ _ law.bit_scalar_law is_odd _ _ _ _ _ _ law.bit_width_law (law.bit_rows_law c.args.array.now) c.reduce_xor.ensures c.unchanged-in-Xor.ensures.bits)

pub returns-in-Least : goal.returns-in-Least
returns-in-Least g c =
    let law = g.met.A.KernelArray in
    rw c.in-Least.is (best-is _ _ law.extreme_scalar_law (λ x. x) row_less _ _ _ (law.extreme_rows_law c.args.array.now) c.min_ignore_nan_kernel.ensures)

pub returns-in-Greatest : goal.returns-in-Greatest
returns-in-Greatest g c =
    let law = g.met.A.KernelArray in
    rw c.in-Greatest.is (best-is _ _ law.extreme_scalar_law (λ x. x) row_greater _ _ _ (law.extreme_rows_law c.args.array.now) c.max_ignore_nan_kernel.ensures)
