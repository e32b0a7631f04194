use Rattle.std.proofs.Common.{◌≡◌, ◌+◌, ◌*◌, ap, arith}
use Rattle.polars_arrays_words.specs.Bits.{true_count}
use Rattle.polars_arrays_words.proofs.Counts.{true_count-le}
use Rattle.polars_arrays_words.proofs.source.count_inner_words.Goals as goal

pub overflow_add-counted : goal.overflow_add-counted
overflow_add-counted g c =
    let le = true_count-le (g.S.BitSource.bit c.args.source.now) (64 * (4 * c.loop-four.four + 4)) in
    record { fits = omega (arith, c.loop-four.invariant, c.count_four_words-counted.ensures) }

pub loop-four-preserved : goal.loop-four-preserved
loop-four-preserved g c =
    let next : 4 * (c.loop-four.four + 1) ≡ 4 * c.loop-four.four + 4 = omega arith in
    let same = ap (λ m. true_count (g.S.BitSource.bit c.args.source.now) (64 * m)) next in
    omega (arith, c.loop-four.invariant, c.count_four_words-counted.ensures, same)
