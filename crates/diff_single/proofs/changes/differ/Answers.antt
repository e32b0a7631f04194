use Rattle.std.proofs.Common.{◌≡◌, arith, length}
use Rattle.diff_single.proofs.CountLemmas.{same_rows}
use Rattle.diff_single.proofs.changes.differ.Goals as goal

pub returns-clause-same : goal.returns-clause-same
returns-clause-same g c =
    let left = g.L.StringList.strings c.args.left.now in
    let right = g.R.StringList.strings c.args.right.now in
    let all : c.loop-column.column ≡ length left = omega arith in
    λ _. same_rows left right c.requires (λ k within. c.loop-column.invariant k (omega (arith, all, within)))
