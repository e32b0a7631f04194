use Rattle.std.proofs.Common.{◌∷◌, [], arith, append_assoc, get_or, slice_range}
use Rattle.json_decimals.proofs.RangeLemmas.{range_more}
use Rattle.json_decimals.proofs.digits.Digits.push.Goals as goal

pub loop-i-preserved : goal.loop-i-preserved
loop-i-preserved c =
    let ds = c.args.self.now in
    let more = range_more ds c.args.from c.loop-i.i (omega arith) (omega arith) in
    let assoc = append_assoc c.args.out.now.items (slice_range ds c.args.from c.loop-i.i) (get_or ds c.loop-i.i 0 ∷ []) in
    let pushed = c.in_ok-push.ensures.items in
    (omega arith, cc)
