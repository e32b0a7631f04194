use Rattle.std.proofs.Common.{sym, subst}
use Rattle.std.specs.List.{All}
use Rattle.std.specs.Str.{IsUtf8}
use Rattle.polars_arrays_views.proofs.text_view.is_text_row.Goals as goal

pub shows_text-requires-clause-whole : goal.shows_text-requires-clause-whole
shows_text-requires-clause-whole c whole =
    subst (All IsUtf8) (sym c.buffers.ensures) (c.requires.whole whole)
