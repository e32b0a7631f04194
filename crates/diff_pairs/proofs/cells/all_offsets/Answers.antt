use Rattle.std.proofs.Common.{◌≡◌, ◌∙◌, ◌++◌, ◌∷◌, [], ap, arith, get_or, rules, sym}
use Rattle.std.proofs.lemmas.List.{take_all, take_more}
use Rattle.std.specs.Prelude.{pos}
use Rattle.diff_pairs.proofs.cells.all_offsets.Goals as goal

pub loop-end-preserved : goal.loop-end-preserved
loop-end-preserved c =
    let end = get_or c.args.near.now c.loop-end.end-index (pos 0) in
    let pushed : c.push.new.self.items ≡ c.loop-end.ends.items ++ get_or c.args.near.now c.loop-end.end-index (pos 0) ∷ [] = search rules in
    pushed ∙ (ap (λ l. l ++ end ∷ []) c.loop-end.invariant ∙ sym (take_more c.args.near.now c.loop-end.end-index (pos 0) (omega arith)))

pub returns : goal.returns
returns c =
    c.in_ok-extend_from_slice.ensures.items ∙ ap (λ l. l ++ c.args.far.now) (c.loop-end.invariant ∙ take_all c.loop-end.end-index c.args.near.now (omega arith))
