use Rattle.std.proofs.Common.{refl, arith}
use Rattle.diff_markdown.specs.Escapes.{safe}
use Rattle.diff_markdown.proofs.SafeLemmas.{all_written, byte_written}
use Rattle.diff_markdown.proofs.escapes.push_safe.Goals as goal

pub loop-i-preserved : goal.loop-i-preserved
loop-i-preserved c =
    byte_written _ _ _ c.loop-i.before _ _ c.args.text.now c.loop-i.i (omega arith) c.loop-i.invariant c.in_ok-push_byte.ensures refl c.byte_at.ensures

pub returns : goal.returns
unfolding safe
returns c = all_written _ _ c.loop-i.before c.args.text.now c.loop-i.i (omega arith) c.loop-i.invariant
