use Rattle.std.proofs.Common.{◌∙◌, ◌++◌, ◌∷◌, [], ap, refl, arith}
use Rattle.diff_words.specs.Quoted.{quoted, texts_behind}
use Rattle.diff_words.proofs.QuotedLemmas.{all_written, byte_written, quotes_around}
use Rattle.diff_words.proofs.quoted.push_quoted.Goals as goal

pub loop-i-init : goal.loop-i-init
loop-i-init c = ap (λ l. l ++ texts_behind 0 c.args.bytes.now) c.in_ok-push.ensures.items

pub loop-i-preserved : goal.loop-i-preserved
loop-i-preserved c =
    byte_written _ _ _ c.loop-i.before _ _ c.args.bytes.now c.loop-i.i (omega arith) c.loop-i.invariant c.in_ok-push_byte.ensures refl c.byte_at.ensures

pub returns : goal.returns
unfolding quoted
returns c =
    c.in_ok-push-2.ensures.items
    ∙ (ap (λ l. l ++ 34 ∷ []) (all_written _ _ c.loop-i.before c.args.bytes.now c.loop-i.i (omega arith) c.loop-i.invariant)
    ∙ quotes_around c.args.out.now.items (texts_behind 0 c.args.bytes.now))
