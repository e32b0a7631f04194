use Rattle.std.proofs.Common.{◌∙◌, ap, ap₂}
use Rattle.std.specs.Prelude.{option_map}
use Rattle.num_traits.specs.Laws.{bit_len}
use Rattle.arrow_columns.specs.Reductions.{joins_bits}
use Rattle.dunkelva_c.proofs.Lent.{option_map-fused}
use Rattle.dunkelva_c.proofs.column_bits.reduce_numbers.Goals as goal
use Rattle.polars_arrays_flat.specs.StoredRows.{number_slots, rows_under}
use Rattle.polars_compute_reductions.specs.Bitwise.{number_bits, reduced}

pub returns-clause-joined : goal.returns-clause-joined
returns-clause-joined g c =
    let width = bit_len g.T.FixedWidth.width in
    record {
      bits =
          ap (option_map (number_bits width)) c.whole.ensures.number
          ∙ option_map-fused (number_bits width) g.T.Number.value c.reduce_bits.result
          ∙ c.reduce_bits.ensures
          ∙ ap₂ (λ v xs. reduced (joins_bits c.args.operator) width (rows_under v (number_slots g.T.Number.value xs))) c.in_ok-column.ensures.made.validity c.in_ok-column.ensures.made.values;
      in_type = c.whole.ensures.in_type;
    }
