use Rattle.std.proofs.Common.{◌<◌, arith, subst}
use Rattle.std.specs.Prelude.{All}
use Rattle.diff_sorted.proofs.report.SortedReport.test_row.Goals as goal

pub returns : goal.returns
returns c = record {
  width = omega (arith, c.count.ensures, c.count-width.ensures);
  counts = omega (arith, c.count-width.ensures);
  keys = subst (λ n. All (λ column. column < n) c.args.self.now.frame.keys.now) c.count-width.ensures (c.are_below-has_keys.ensures c.if-not-has_keys.false);
  few = omega arith;
}
