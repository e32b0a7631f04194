use Rattle.std.proofs.Common.{◌+◌, ◌-◌, ◌*◌, ◌∙◌, arith}
use Rattle.polars_arrays_flat.proofs.ByteParts.{word_differs, word_agrees, last_word}
use Rattle.polars_arrays_flat.proofs.byte_order.long_less.Goals as goal

pub returns-then-p-q : goal.returns-then-p-q
returns-then-p-q c =
    word_differs (8 * c.loop-k.k) c.args.left.now c.args.right.now _ _
    (record { left_in = omega arith; right_in = omega arith; left_bytes = c.eight_at-p.ensures.bytes; right_bytes = c.eight_at-q.ensures.bytes; left_is = c.eight_at-p.ensures.value; right_is = c.eight_at-q.ensures.value })
    c.loop-k.invariant c.if-p-q.true

pub loop-k-preserved : goal.loop-k-preserved
loop-k-preserved c =
    word_agrees (8 * c.loop-k.k) c.args.left.now c.args.right.now _ _
    (record { left_in = omega arith; right_in = omega arith; left_bytes = c.eight_at-p.ensures.bytes; right_bytes = c.eight_at-q.ensures.bytes; left_is = c.eight_at-p.ensures.value; right_is = c.eight_at-q.ensures.value })
    (8 * (c.loop-k.k + 1)) (omega arith) c.loop-k.invariant c.if-p-q.false

pub returns : goal.returns
returns c =
    c.pair_less.ensures
    ∙ last_word (c.args.common - 8) c.args.left.now c.args.right.now _ _
    (record { left_in = omega arith; right_in = omega arith; left_bytes = c.eight_at-p-2.ensures.bytes; right_bytes = c.eight_at-q-2.ensures.bytes; left_is = c.eight_at-p-2.ensures.value; right_is = c.eight_at-q-2.ensures.value })
    (8 * c.loop-k.k) c.args.common (omega arith) (omega arith) (omega arith) c.requires.common c.loop-k.invariant
