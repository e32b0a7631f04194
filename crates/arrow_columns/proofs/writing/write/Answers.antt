use Rattle.std.proofs.Common.{arith}
use Rattle.arrow_columns.proofs.Written.{writes-all, writes-one}
use Rattle.arrow_columns.proofs.writing.write.Goals as goal

pub loop-i-preserved : goal.loop-i-preserved
loop-i-preserved g c =
    writes-one g.T.Number.value (g.C.Computed.numbers c.args.computed.now) c.loop-i.i c.loop-i.out c.number.result c.loop-i.invariant (omega (arith, c.loop-i-test.true, c.count-i-end.ensures)) c.number.ensures

pub returns : goal.returns
returns g c =
    writes-all g.T.Number.value (g.C.Computed.numbers c.args.computed.now) c.loop-i.i c.loop-i.out c.loop-i.invariant (omega (arith, c.loop-i-test.false, c.count-i-end.ensures))
