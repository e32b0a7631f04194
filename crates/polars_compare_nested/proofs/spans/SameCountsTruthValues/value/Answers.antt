use Rattle.std.proofs.Common.{◌<◌, arith}
use Rattle.polars_arrays_bytes.specs.OffsetStrings.{places}
use Rattle.polars_compare_nested.proofs.MatchBits.{length-counts, counts_value}
use Rattle.polars_compare_nested.proofs.spans.SameCountsTruthValues.value.Goals as goal

pub overflow_add-self : goal.overflow_add-self
overflow_add-self g c =
    let l = c.args.self.now in
    record { fits = omega (arith, c.requires, l.left_fits, length-counts (places g.L.Number.value l.left.now) l.a (places g.R.Number.value l.right.now) l.b l.rows) }

pub list_at-count-requires-clause-within : goal.list_at-count-requires-clause-within
list_at-count-requires-clause-within g c =
    let l = c.args.self.now in
    omega (arith, c.requires, l.left_in, length-counts (places g.L.Number.value l.left.now) l.a (places g.R.Number.value l.right.now) l.b l.rows)

pub list_at-count-requires-clause-good : goal.list_at-count-requires-clause-good
list_at-count-requires-clause-good g c κs within =
    let l = c.args.self.now in
    l.left_good c.args.i (omega (arith, c.requires, length-counts (places g.L.Number.value l.left.now) l.a (places g.R.Number.value l.right.now) l.b l.rows))

pub overflow_add-self-2 : goal.overflow_add-self-2
overflow_add-self-2 g c =
    let l = c.args.self.now in
    record { fits = omega (arith, c.requires, l.right_fits, length-counts (places g.L.Number.value l.left.now) l.a (places g.R.Number.value l.right.now) l.b l.rows) }

pub list_at-other-requires-clause-within : goal.list_at-other-requires-clause-within
list_at-other-requires-clause-within g c =
    let l = c.args.self.now in
    omega (arith, c.requires, l.right_in, length-counts (places g.L.Number.value l.left.now) l.a (places g.R.Number.value l.right.now) l.b l.rows)

pub list_at-other-requires-clause-good : goal.list_at-other-requires-clause-good
list_at-other-requires-clause-good g c κs within =
    let l = c.args.self.now in
    l.right_good c.args.i (omega (arith, c.requires, length-counts (places g.L.Number.value l.left.now) l.a (places g.R.Number.value l.right.now) l.b l.rows))

pub returns : goal.returns
returns g c =
    let l = c.args.self.now in
    let below : c.args.i < l.rows = omega (arith, c.requires, length-counts (places g.L.Number.value l.left.now) l.a (places g.R.Number.value l.right.now) l.b l.rows) in
    counts_value (places g.L.Number.value l.left.now) l.a (places g.R.Number.value l.right.now) l.b l.rows c.args.i _ _ below c.list_at-count.ensures.count c.list_at-other.ensures.count
