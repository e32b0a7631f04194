use Rattle.num_traits.specs.Laws.{bit_len}
use Rattle.polars_arrays_flat.specs.Row.{Bytes, Int, Truth}
use Rattle.polars_compute.proofs.ArithmeticRows.{answers-by_rows, results-by_rows}
use Rattle.polars_compute.proofs.MergedStates.{reads-by_rows, states-by_rows}
use Rattle.polars_compute.proofs.ReducedRows.{any_both-by_rows, any_extremes-by_rows, both-by_rows, counts-by_rows, extremes-by_rows, reductions-by_rows, sums-by_rows}
use Rattle.polars_compute.proofs.laws.law_rows_alone.Goals as goal

pub returns : goal.returns
returns g c =
    let width = bit_len g.T.FixedWidth.width in
    record {
      functions = answers-by_rows g.T.Number.value g.T.Bounded.low width;
      operations = results-by_rows g.T.Number.value g.T.Bounded.low width;
      counts = counts-by_rows width;
      truth_counts = counts-by_rows 1;
      sums = sums-by_rows g.T.Bounded.low width;
      reductions = reductions-by_rows width;
      truth_reductions = reductions-by_rows 1;
      number_extremes = (extremes-by_rows (λ number. Int (g.T.Number.value number)), both-by_rows (λ number. Int (g.T.Number.value number)));
      truth_extremes = (extremes-by_rows Truth, both-by_rows Truth);
      string_extremes = (extremes-by_rows Bytes, both-by_rows Bytes);
      any_extremes = (any_extremes-by_rows, any_both-by_rows);
      states = states-by_rows;
      reads = reads-by_rows;
    }
