use Rattle.std.proofs.Common.{refl, arith}
use Rattle.json_plain.specs.Plain.{plain_json}
use Rattle.json_plain.proofs.PlainLemmas.{all_written, byte_written}
use Rattle.json_plain.proofs.plain.push_plain_json.Goals as goal

pub loop-i-preserved : goal.loop-i-preserved
loop-i-preserved c =
    byte_written _ _ _ c.loop-i.before _ _ c.args.text.now c.loop-i.i (omega arith) c.loop-i.invariant c.in_ok-push_byte.ensures refl c.byte_at.ensures

pub returns : goal.returns
unfolding plain_json
returns c = all_written _ _ c.loop-i.before c.args.text.now c.loop-i.i (omega arith) c.loop-i.invariant
