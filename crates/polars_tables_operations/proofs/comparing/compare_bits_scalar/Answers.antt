use Rattle.std.proofs.Common.{refl}
use Rattle.std.specs.Prelude.{true, false, ⊤}
use Rattle.polars_compare_leaves.specs.Order.{row_less, row_at_most, row_greater, row_at_least}
use Rattle.polars_tables_operations.specs.declared.operation.ComparisonKind.TheVariants.{Equal, Unequal, Less, LessOrEqual, Greater, GreaterOrEqual, EqualMissing, UnequalMissing}
use Rattle.polars_tables_operations.proofs.Comparisons.{scalar_setting, order_result, equality_result, missing_result, from_answers}
use Rattle.polars_tables_operations.proofs.comparing.compare_bits_scalar.Goals as goal

pub returns-in-Equal : goal.returns-in-Equal
returns-in-Equal g c =
    let law = g.met.A.KernelArray in
    let given = scalar_setting g.A.RowArray.value_row _ _ c.args.scalar.now law.values_law c.requires (law.stored_law c.args.rows.now) in
    let told = from_answers _ _ _ law.broadcasts_law (rw (law.eq_scalar_law c.args.scalar.now) at c.tot_eq_kernel_broadcast.ensures) in
    rw c.in-Equal.is (equality_result _ _ _ _ _ given _ Equal true ⊤ tt (λ x y. refl) told)

pub returns-in-Unequal : goal.returns-in-Unequal
returns-in-Unequal g c =
    let law = g.met.A.KernelArray in
    let given = scalar_setting g.A.RowArray.value_row _ _ c.args.scalar.now law.values_law c.requires (law.stored_law c.args.rows.now) in
    let told = from_answers _ _ _ law.broadcasts_law (rw (law.eq_scalar_law c.args.scalar.now) at c.tot_ne_kernel_broadcast.ensures) in
    rw c.in-Unequal.is (equality_result _ _ _ _ _ given _ Unequal false ⊤ tt (λ x y. refl) told)

pub returns-in-Less : goal.returns-in-Less
returns-in-Less g c =
    let law = g.met.A.KernelArray in
    let given = scalar_setting g.A.RowArray.value_row _ _ c.args.scalar.now law.values_law c.requires (law.stored_law c.args.rows.now) in
    let told = rw (law.ord_scalar_law c.args.scalar.now) at c.tot_lt_kernel_broadcast.ensures in
    rw c.in-Less.is (order_result _ _ _ _ _ given _ Less row_less (λ x y. refl) told)

pub returns-in-LessOrEqual : goal.returns-in-LessOrEqual
returns-in-LessOrEqual g c =
    let law = g.met.A.KernelArray in
    let given = scalar_setting g.A.RowArray.value_row _ _ c.args.scalar.now law.values_law c.requires (law.stored_law c.args.rows.now) in
    let told = rw (law.ord_scalar_law c.args.scalar.now) at c.tot_le_kernel_broadcast.ensures in
    rw c.in-LessOrEqual.is (order_result _ _ _ _ _ given _ LessOrEqual row_at_most (λ x y. refl) told)

pub returns-in-Greater : goal.returns-in-Greater
returns-in-Greater g c =
    let law = g.met.A.KernelArray in
    let given = scalar_setting g.A.RowArray.value_row _ _ c.args.scalar.now law.values_law c.requires (law.stored_law c.args.rows.now) in
    let told = rw (law.ord_scalar_law c.args.scalar.now) at c.tot_gt_kernel_broadcast.ensures in
    rw c.in-Greater.is (order_result _ _ _ _ _ given _ Greater row_greater (λ x y. refl) told)

pub returns-in-GreaterOrEqual : goal.returns-in-GreaterOrEqual
returns-in-GreaterOrEqual g c =
    let law = g.met.A.KernelArray in
    let given = scalar_setting g.A.RowArray.value_row _ _ c.args.scalar.now law.values_law c.requires (law.stored_law c.args.rows.now) in
    let told = rw (law.ord_scalar_law c.args.scalar.now) at c.tot_ge_kernel_broadcast.ensures in
    rw c.in-GreaterOrEqual.is (order_result _ _ _ _ _ given _ GreaterOrEqual row_at_least (λ x y. refl) told)

pub returns-in-EqualMissing : goal.returns-in-EqualMissing
returns-in-EqualMissing g c =
    let law = g.met.A.KernelArray in
    let given = scalar_setting g.A.RowArray.value_row _ _ c.args.scalar.now law.values_law c.requires (law.stored_law c.args.rows.now) in
    let told = from_answers _ _ _ law.broadcasts_law (rw (law.eq_scalar_law c.args.scalar.now) at c.tot_eq_missing_kernel_broadcast.ensures) in
    rw c.in-EqualMissing.is (missing_result _ _ _ _ _ given _ EqualMissing true ⊤ tt (λ x y. refl) told)

pub returns-in-UnequalMissing : goal.returns-in-UnequalMissing
returns-in-UnequalMissing g c =
    let law = g.met.A.KernelArray in
    let given = scalar_setting g.A.RowArray.value_row _ _ c.args.scalar.now law.values_law c.requires (law.stored_law c.args.rows.now) in
    let told = from_answers _ _ _ law.broadcasts_law (rw (law.eq_scalar_law c.args.scalar.now) at c.tot_ne_missing_kernel_broadcast.ensures) in
    rw c.in-UnequalMissing.is (missing_result _ _ _ _ _ given _ UnequalMissing false ⊤ tt (λ x y. refl) told)
