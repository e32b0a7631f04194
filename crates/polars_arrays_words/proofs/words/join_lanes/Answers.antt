use Rattle.std.proofs.Common.{◌-◌, arith}
use Rattle.polars_arrays_words.proofs.Joins.{is_bit-join_lanes, join_lanes-fits}
use Rattle.polars_arrays_words.proofs.words.join_lanes.Goals as goal

pub overflow_add-result : goal.overflow_add-result
overflow_add-result c = record { fits = join_lanes-fits (64 - c.args.by) c.args.by c.args.low c.args.high (omega arith) c.ranges.low.fits }

pub returns : goal.returns
returns c = λ i lt. is_bit-join_lanes (64 - c.args.by) c.args.by c.args.low c.args.high i (omega arith) (omega arith) c.ranges.low.fits lt
