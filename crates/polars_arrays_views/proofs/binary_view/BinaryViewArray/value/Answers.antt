use Rattle.std.proofs.Common.{ℕ, List, sym, ap, ◌∙◌, arith}
use Rattle.polars_arrays_views.specs.Views.{row_bytes}
use Rattle.polars_arrays_views.proofs.GoodViews.{short_row, long_row}
use Rattle.polars_arrays_views.proofs.binary_view.BinaryViewArray.value.Goals as goal

pub returns-then-len-le12 : goal.returns-then-len-le12
returns-then-len-le12 c =
    c.inlined.ensures
    ∙ sym (short_row c.args.self.now.buffers c.view-view.result.now (omega (arith, c.len.ensures.length)))
    ∙ c.view-view.ensures.row

pub returns-else-len-le12 : goal.returns-else-len-le12
returns-else-len-le12 c =
    c.in_buffer.ensures
    ∙ sym (long_row _ c.view-view.result.now (omega (arith, c.len.ensures.length)))
    ∙ ap (λ (buffers : List (List ℕ)). row_bytes buffers c.view-view.result.now) c.buffers.ensures
    ∙ c.view-view.ensures.row
