use Rattle.std.proofs.Common.{◌≡◌, ◌<◌, arith, length}
use Rattle.std.proofs.lemmas.List.Elements.{All-from_get_or}
use Rattle.diff_sorted.proofs.report.are_below.Goals as goal

pub returns : goal.returns
returns c = λ yes. All-from_get_or (λ n. n < c.args.bound) c.args.numbers.now 0 (λ i within. c.loop-k.invariant i (let all : c.loop-k.k ≡ length c.args.numbers.now = omega arith in omega (arith, within, all)))
