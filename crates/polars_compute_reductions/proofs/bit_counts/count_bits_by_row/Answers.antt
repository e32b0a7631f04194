use Rattle.std.proofs.Common.{◌∙◌, ℕ, Bool, List, ap, map}
use Rattle.std.specs.Prelude.{Option, pos}
use Rattle.num_traits.specs.Laws.{bit_len}
use Rattle.polars_arrays_flat.specs.Numbers.{Numbers}
use Rattle.polars_arrays_flat.specs.StoredRows.{number_slots, rows_under}
use Rattle.polars_compute_reductions.proofs.CountedRows.{counted-rows}
use Rattle.polars_compute_reductions.proofs.bit_counts.count_bits_by_row.Goals as goal

pub returns : goal.returns
returns g c =
    let width = bit_len g.T.FixedWidth.width in
    let counts = c.in_ok-counts.ensures ∙ ap (map _) c.values.ensures in
    c.with_validity.ensures.rows
    ∙ ap (λ (a : Numbers ℕ). rows_under c.in_ok-validity.validity (number_slots (λ n. pos n) a.values)) c.from_vec.ensures.stored
    ∙ ap (λ (v : Option (List Bool)). rows_under v (number_slots (λ n. pos n) c.in_ok-counts.counts.items)) (c.in_ok-validity.ensures ∙ c.validity.ensures.validity)
    ∙ counted-rows g.C.BitCount.amount width g.T.Number.value c.args.array.now.validity c.args.array.now.values c.in_ok-counts.counts.items counts
