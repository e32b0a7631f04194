use Rattle.std.proofs.Common.{◌≡◌, ◌≤◌, ap, ◌∙◌, arith}
use Rattle.std.proofs.lemmas.Option.{IfSome_then}
use Rattle.polars_arrays_views.specs.Views.{view_len}
use Rattle.arrow_parts.specs.Lent.{lent_buffers}
use Rattle.arrow_arrays.proofs.ViewRows.{short-row}
use Rattle.arrow_arrays.proofs.views.row_of.Goals as goal

pub returns-then-len-le12-clause-row : goal.returns-then-len-le12-clause-row
returns-then-len-le12-clause-row c =
    let size : c.len-then-len-le12.result ≡ view_len c.args.bytes.now = c.len-then-len-le12.ensures.length ∙ ap view_len c.view_of-view.ensures in
    let short : c.len-then-len-le12.result ≤ 12 = omega (arith, c.if-len-le12.true, c.len.ensures.length, c.len-then-len-le12.ensures.length) in
    IfSome_then c.short_row.result c.short_row.ensures.row
    (λ row same. short-row (lent_buffers c.args.buffers.now) c.args.bytes.now row.now c.len-then-len-le12.result size short same)
