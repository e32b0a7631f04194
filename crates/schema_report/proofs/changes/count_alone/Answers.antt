use Rattle.std.proofs.Common.{sym, ◌∙◌, arith}
use Rattle.schema_report.specs.Changes.{is_alone}
use Rattle.schema_report.proofs.ChangeLemmas.{count_one_more, count_as_before}
use Rattle.schema_report.proofs.changes.count_alone.Goals.{then-is_alone, else-is_alone}
use Rattle.schema_report.proofs.changes.count_alone.Goals as goal

pub loop-i-preserved : goal.loop-i-preserved
loop-i-preserved g c =
    let met = is_alone g.S.SchemaPart.name_of c.args.others.now in
    elim c.if-is_alone.branch [
      | then-is_alone w ↦
          let next = count_one_more met c.args.parts.now c.loop-i.i c.index-parts-i.result c.loop-i-test.true c.index-parts-i.is (sym c.is_alone.ensures ∙ w.if-is_alone.true) in
          (omega (arith, w.count-is, c.loop-i.invariant.0), omega (arith, w.count-is, c.loop-i.invariant.1, next))
      | else-is_alone w ↦
          let next = count_as_before met c.args.parts.now c.loop-i.i c.index-parts-i.result c.loop-i-test.true c.index-parts-i.is (sym c.is_alone.ensures ∙ w.if-is_alone.false) in
          (omega (arith, w.count-is, c.loop-i.invariant.0), omega (arith, w.count-is, c.loop-i.invariant.1, next))
    ]
