use Rattle.std.proofs.Common.{sym, subst}
use Rattle.std.specs.List.{All}
use Rattle.std.specs.Str.{IsUtf8}
use Rattle.polars_arrays_views.specs.Parts.{view_strings}
use Rattle.polars_arrays_views.proofs.Strings.{all-window}
use Rattle.polars_arrays_views.proofs.text_view.Utf8ViewArray.slice.Goals as goal

pub invariant_of-self : goal.invariant_of-self
invariant_of-self c =
    subst (All IsUtf8) (sym c.slice.ensures.strings) (all-window IsUtf8 c.args.at c.args.n (view_strings c.self.inside.binary) c.self.invariant)
