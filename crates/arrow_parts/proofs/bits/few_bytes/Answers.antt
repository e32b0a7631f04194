use Rattle.std.proofs.Common.{◌+◌, ◌<◌, arith, get_or}
use Rattle.arrow_parts.proofs.ByteWordLemmas.{bytes-put}
use Rattle.arrow_parts.proofs.bits.few_bytes.Goals as goal

pub loop-k-preserved : goal.loop-k-preserved
loop-k-preserved c =
    let small : get_or c.args.bytes.now (c.args.at + c.loop-k.k) 0 < 256 = omega (arith, c.type_inv.bytes (c.args.at + c.loop-k.k)) in
    bytes-put c.args.bytes.now c.args.at c.loop-k.k c.from.result c.loop-k.word c.put-word.result (omega arith) c.from.ensures small c.loop-k.invariant c.put-word.ensures.below c.put-word.ensures.above
