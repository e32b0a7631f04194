use Rattle.std.proofs.Common.{◌≡◌, ◌<◌, arith, length, get_or, true, false}
use Rattle.std.proofs.lemmas.Grind.{common_steps}
use Rattle.dunkelva_options.specs.Lists.{is_end}
use Rattle.dunkelva_options.proofs.Parts.{ends, goes_on}
use Rattle.dunkelva_options.proofs.lists.push_parts.Goals as goal
use Rattle.dunkelva_options.proofs.lists.push_parts.Goals.{then-is_end+in_ok-push, else-is_end}

pub loop-at-preserved : goal.loop-at-preserved
loop-at-preserved c =
    let v = c.as_bytes-bytes.ensures.value in
    let lt : c.loop-at.at < length c.args.list.now = rw v at c.loop-at-test.true in
    rw (c.after-quoting.ensures, v)
    (elim c.if-is_end.branch [
      | then-is_end+in_ok-push w ↦
          let e : is_end c.loop-at.quoting (get_or c.args.list.now c.loop-at.at 0) ≡ true = cc in
          rw (w.start-is, w.parts-is)
          (ends c.args.list.now c.loop-at.quoting c.loop-at.start c.loop-at.at _ _ _ c.utf8.list lt c.loop-at.invariant e (grind (arith, common_steps)))
      | else-is_end w ↦
          let e : is_end c.loop-at.quoting (get_or c.args.list.now c.loop-at.at 0) ≡ false = cc in
          rw (w.start-is, w.parts-is) (goes_on c.args.list.now c.loop-at.quoting c.loop-at.start c.loop-at.at _ _ lt c.loop-at.invariant e)
    ])
