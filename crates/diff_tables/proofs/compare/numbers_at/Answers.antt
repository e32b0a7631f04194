use Rattle.std.proofs.Common.{arith, sym}
use Rattle.std.proofs.lemmas.List.{map_more}
use Rattle.std.specs.Prelude.{slice_index}
use Rattle.diff_tables.proofs.compare.numbers_at.Goals as goal

pub loop-k-preserved : goal.loop-k-preserved
loop-k-preserved c = rw (c.in_ok-push.ensures.items, c.loop-k.invariant) (sym (map_more (slice_index c.args.numbers.now) c.args.places.now c.loop-k.k 0 (omega arith)))
