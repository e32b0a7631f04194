use Rattle.std.proofs.Common.{sym, ◌∙◌, arith}
use Rattle.schema_report.specs.Changes.{is_changed}
use Rattle.schema_report.proofs.ChangeLemmas.{count_one_more, count_as_before}
use Rattle.schema_report.proofs.changes.count_changed.Goals.{then-is_changed, else-is_changed}
use Rattle.schema_report.proofs.changes.count_changed.Goals as goal

pub loop-i-preserved : goal.loop-i-preserved
loop-i-preserved g c =
    let met = is_changed g.S.SchemaPart.name_of g.S.SchemaPart.same_kinds c.args.others.now in
    elim c.if-is_changed.branch [
      | then-is_changed w ↦
          let next = count_one_more met c.args.parts.now c.loop-i.i c.index-parts-i.result c.loop-i-test.true c.index-parts-i.is (sym c.is_changed.ensures ∙ w.if-is_changed.true) in
          (omega (arith, w.count-is, c.loop-i.invariant.0), omega (arith, w.count-is, c.loop-i.invariant.1, next))
      | else-is_changed w ↦
          let next = count_as_before met c.args.parts.now c.loop-i.i c.index-parts-i.result c.loop-i-test.true c.index-parts-i.is (sym c.is_changed.ensures ∙ w.if-is_changed.false) in
          (omega (arith, w.count-is, c.loop-i.invariant.0), omega (arith, w.count-is, c.loop-i.invariant.1, next))
    ]
