use Rattle.std.proofs.Common.{refl}
use Rattle.std.specs.Prelude.{true, false}
use Rattle.polars_compare_leaves.specs.Order.{row_less, row_at_most, row_greater, row_at_least}
use Rattle.polars_tables_operations.specs.declared.operation.ComparisonKind.TheVariants.{Equal, Unequal, Less, LessOrEqual, Greater, GreaterOrEqual, EqualMissing, UnequalMissing}
use Rattle.polars_tables_operations.proofs.Comparisons.{Setting, order_result, equality_result, missing_result}
use Rattle.polars_tables_operations.proofs.comparing.compare_bits.Goals as goal

pub returns-in-Equal : goal.returns-in-Equal
returns-in-Equal g c =
    let law = g.met.A.KernelArray in
    let given : Setting g.A.RowArray.value_row _ _ _ _ = record { values = law.values_law; left_bits = c.requires.left_bits; right_bits = c.requires.right_bits; as_long = c.requires.as_long; left_stored = law.stored_law c.args.left.now; right_stored = law.stored_law c.args.right.now } in
    rw c.in-Equal.is (equality_result _ _ _ _ _ given _ Equal true _ (law.one_type_law c.args.left.now c.args.right.now) (λ x y. refl) c.tot_eq_kernel.ensures)

pub returns-in-Unequal : goal.returns-in-Unequal
returns-in-Unequal g c =
    let law = g.met.A.KernelArray in
    let given : Setting g.A.RowArray.value_row _ _ _ _ = record { values = law.values_law; left_bits = c.requires.left_bits; right_bits = c.requires.right_bits; as_long = c.requires.as_long; left_stored = law.stored_law c.args.left.now; right_stored = law.stored_law c.args.right.now } in
    rw c.in-Unequal.is (equality_result _ _ _ _ _ given _ Unequal false _ (law.one_type_law c.args.left.now c.args.right.now) (λ x y. refl) c.tot_ne_kernel.ensures)

pub returns-in-Less : goal.returns-in-Less
returns-in-Less g c =
    let law = g.met.A.KernelArray in
    let given : Setting g.A.RowArray.value_row _ _ _ _ = record { values = law.values_law; left_bits = c.requires.left_bits; right_bits = c.requires.right_bits; as_long = c.requires.as_long; left_stored = law.stored_law c.args.left.now; right_stored = law.stored_law c.args.right.now } in
    rw c.in-Less.is (order_result _ _ _ _ _ given _ Less row_less (λ x y. refl) c.tot_lt_kernel.ensures)

pub returns-in-LessOrEqual : goal.returns-in-LessOrEqual
returns-in-LessOrEqual g c =
    let law = g.met.A.KernelArray in
    let given : Setting g.A.RowArray.value_row _ _ _ _ = record { values = law.values_law; left_bits = c.requires.left_bits; right_bits = c.requires.right_bits; as_long = c.requires.as_long; left_stored = law.stored_law c.args.left.now; right_stored = law.stored_law c.args.right.now } in
    rw c.in-LessOrEqual.is (order_result _ _ _ _ _ given _ LessOrEqual row_at_most (λ x y. refl) c.tot_le_kernel.ensures)

pub returns-in-Greater : goal.returns-in-Greater
returns-in-Greater g c =
    let law = g.met.A.KernelArray in
    let given : Setting g.A.RowArray.value_row _ _ _ _ = record { values = law.values_law; left_bits = c.requires.left_bits; right_bits = c.requires.right_bits; as_long = c.requires.as_long; left_stored = law.stored_law c.args.left.now; right_stored = law.stored_law c.args.right.now } in
    rw c.in-Greater.is (order_result _ _ _ _ _ given _ Greater row_greater (λ x y. refl) c.tot_gt_kernel.ensures)

pub returns-in-GreaterOrEqual : goal.returns-in-GreaterOrEqual
returns-in-GreaterOrEqual g c =
    let law = g.met.A.KernelArray in
    let given : Setting g.A.RowArray.value_row _ _ _ _ = record { values = law.values_law; left_bits = c.requires.left_bits; right_bits = c.requires.right_bits; as_long = c.requires.as_long; left_stored = law.stored_law c.args.left.now; right_stored = law.stored_law c.args.right.now } in
    rw c.in-GreaterOrEqual.is (order_result _ _ _ _ _ given _ GreaterOrEqual row_at_least (λ x y. refl) c.tot_ge_kernel.ensures)

pub returns-in-EqualMissing : goal.returns-in-EqualMissing
returns-in-EqualMissing g c =
    let law = g.met.A.KernelArray in
    let given : Setting g.A.RowArray.value_row _ _ _ _ = record { values = law.values_law; left_bits = c.requires.left_bits; right_bits = c.requires.right_bits; as_long = c.requires.as_long; left_stored = law.stored_law c.args.left.now; right_stored = law.stored_law c.args.right.now } in
    rw c.in-EqualMissing.is (missing_result _ _ _ _ _ given _ EqualMissing true _ (law.one_type_law c.args.left.now c.args.right.now) (λ x y. refl) c.tot_eq_missing_kernel.ensures)

pub returns-in-UnequalMissing : goal.returns-in-UnequalMissing
returns-in-UnequalMissing g c =
    let law = g.met.A.KernelArray in
    let given : Setting g.A.RowArray.value_row _ _ _ _ = record { values = law.values_law; left_bits = c.requires.left_bits; right_bits = c.requires.right_bits; as_long = c.requires.as_long; left_stored = law.stored_law c.args.left.now; right_stored = law.stored_law c.args.right.now } in
    rw c.in-UnequalMissing.is (missing_result _ _ _ _ _ given _ UnequalMissing false _ (law.one_type_law c.args.left.now c.args.right.now) (λ x y. refl) c.tot_ne_missing_kernel.ensures)
