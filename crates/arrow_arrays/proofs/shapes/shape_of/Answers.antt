use Rattle.std.proofs.Common.{subst, sym}
use Rattle.std.specs.Prelude.{IfErr, IfOk}
use Rattle.arrow_parts.specs.Kinds.{kind_number}
use Rattle.arrow_arrays.proofs.Fitting.{no-kind}
use Rattle.arrow_arrays.specs.Columns.{column_of}
use Rattle.arrow_arrays.specs.Good.{GoodRows}
use Rattle.arrow_arrays.specs.Shapes.{FitsOver, IsHonestOver}
use Rattle.arrow_arrays.proofs.shapes.shape_of.Goals as goal

pub returns-in-Some-clause-made : goal.returns-in-Some-clause-made
returns-in-Some-clause-made c =
    subst (λ n. IfOk c.shape_of_kind.result (FitsOver (column_of n c.args.part.now) (GoodRows n c.args.part.now))) c.in-Some.ensures c.shape_of_kind.ensures.made

pub returns-in-Some-clause-refused : goal.returns-in-Some-clause-refused
returns-in-Some-clause-refused c =
    subst (λ n. IfErr c.shape_of_kind.result (IsHonestOver (GoodRows n c.args.part.now))) c.in-Some.ensures c.shape_of_kind.ensures.refused

pub returns-in-None-clause-refused : goal.returns-in-None-clause-refused
returns-in-None-clause-refused c cs =
    no-kind (kind_number c.args.part.now.kind) c.args.part.now cs (sym c.in-None.ensures)
