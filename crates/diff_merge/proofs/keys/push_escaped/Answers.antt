use Rattle.std.proofs.Common.{arith, ◌≡◌, ◌∙◌, ap, refl, ◌++◌, ◌∷◌, [], ◌+◌, get_or, take}
use Rattle.std.proofs.lemmas.List.{take_all}
use Rattle.diff_tables.specs.Keys.{marked}
use Rattle.diff_tables.proofs.KeyLemmas.{part, part_more, part_all}
use Rattle.diff_merge.proofs.keys.push_escaped.Goals as goal

pub loop-byte-preserved : goal.loop-byte-preserved
loop-byte-preserved c =
    let step : c.push_byte.new.out.items ≡ c.loop-byte.out.items ++ marked (get_or c.args.string.now c.loop-byte.byte-index 0) = c.in_ok-push_byte.ensures in
    step ∙ (ap (λ l. l ++ marked (get_or c.args.string.now c.loop-byte.byte-index 0)) c.loop-byte.invariant
    ∙ part_more c.args.out.now.items c.args.string.now c.loop-byte.byte-index (c.loop-byte.byte-index + 1) (omega arith) refl)

pub returns : goal.returns
returns c =
    let all : take c.loop-byte.byte-index c.args.string.now ≡ c.args.string.now = take_all c.loop-byte.byte-index c.args.string.now (omega arith) in
    c.in_ok-push-2.ensures.items
    ∙ (ap (λ l. l ++ 0 ∷ []) (c.in_ok-push.ensures.items ∙ ap (λ l. l ++ 0 ∷ []) (c.loop-byte.invariant ∙ ap (λ l. c.args.out.now.items ++ part l) all))
    ∙ part_all c.args.out.now.items c.args.string.now)
