use Rattle.std.proofs.Common.{◌∙◌, map, sym, ap}
use Rattle.std.specs.Prelude.{pos}
use Rattle.std.proofs.lemmas.Simd.{map-map}
use Rattle.num_traits.specs.Laws.{bit_len}
use Rattle.polars_arrays_flat.specs.Row.{Int}
use Rattle.polars_arrays_flat.specs.StoredRows.{number_slots, rows_under}
use Rattle.polars_compute_reductions.specs.Bitwise.{counted, number_bits}
use Rattle.polars_compute_reductions.proofs.CountedRows.{under-counted}
use Rattle.arrow_columns.proofs.counting.write_counts.Goals as goal

pub returns : goal.returns
returns g c =
    let width = bit_len g.T.FixedWidth.width in
    let amount = g.C.BitCount.amount in
    let mask = c.args.column.now.validity in
    let xs = c.args.column.now.values in
    ap (rows_under mask)
    (sym (map-map Int (λ n. pos n) c.write.new.out)
    ∙ ap (map Int) (c.write.ensures ∙ ap (map (λ x. pos (amount (number_bits width (g.T.Number.value x))))) c.values-values.ensures)
    ∙ map-map Int (λ x. pos (amount (number_bits width (g.T.Number.value x)))) xs
    ∙ sym (map-map (counted amount width) (λ x. Int (g.T.Number.value x)) xs))
    ∙ under-counted amount width mask (number_slots g.T.Number.value xs)
