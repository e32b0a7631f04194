use Rattle.std.proofs.Common.{◌∙◌, subst, sym}
use Rattle.std.specs.Str.{IsUtf8}
use Rattle.std.proofs.lemmas.Bool.{le-leb}
use Rattle.polars_arrays_views.specs.Views.{view_len}
use Rattle.polars_arrays_views.proofs.GoodViews.{short_row}
use Rattle.polars_arrays_views.proofs.WholeTexts.{ascii_row}
use Rattle.arrow_equality.proofs.part_views.is_short_text.Goals as goal

pub returns-then-is_ascii : goal.returns-then-is_ascii
returns-then-is_ascii c ascii buffers =
    ascii_row buffers c.args.view.now (le-leb (view_len c.args.view.now) 12 c.requires) (c.is_ascii.ensures ascii)

pub returns-else-is_ascii : goal.returns-else-is_ascii
returns-else-is_ascii c text buffers =
    subst IsUtf8 (c.inlined.ensures ∙ sym (short_row buffers c.args.view.now c.requires)) (c.is_text.ensures.0 text)
