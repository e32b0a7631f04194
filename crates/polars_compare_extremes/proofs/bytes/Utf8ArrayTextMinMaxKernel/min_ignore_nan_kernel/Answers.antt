use Rattle.polars_compare_extremes.proofs.Lent.{offset-within}
use Rattle.polars_compare_extremes.proofs.bytes.Utf8ArrayTextMinMaxKernel.min_ignore_nan_kernel.Goals as goal

pub value-requires-after_bounds : goal.value-requires-after_bounds
value-requires-after_bounds g c κs within =
    offset-within g.O.Number.value c.args.self.now c.in-Some.place c.in-Some.ensures.within
