use Rattle.std.proofs.Common.{◌∙◌, sym}
use Rattle.std.proofs.lemmas.Bool.{leb-false}
use Rattle.polars_arrays_views.specs.Parts.{contents}
use Rattle.polars_arrays_views.specs.Views.{view_len}
use Rattle.polars_arrays_views.proofs.WholeTexts.{ascii_row, row_between}
use Rattle.polars_arrays_views.proofs.text_view.shows_text.Goals as goal

pub returns-then-is_short : goal.returns-then-is_short
returns-then-is_short c ascii =
    ascii_row (contents c.args.buffers.now) c.args.view.now (sym c.is_short.ensures ∙ c.if-is_short.true) (c.is_ascii.ensures ascii)

pub returns-then-whole : goal.returns-then-whole
returns-then-whole c lies =
    row_between (contents c.args.buffers.now) c.args.view.now (sym c.is_short.ensures ∙ c.if-is_short.false) (c.requires.good.long (leb-false (view_len c.args.view.now) 12 (sym c.is_short.ensures ∙ c.if-is_short.false))) (c.requires.whole c.if-whole.true) (c.lies_between_characters.ensures lies)
