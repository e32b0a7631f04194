use Rattle.std.proofs.Common.{[], sym, subst, ap, ◌∙◌, arith}
use Rattle.std.specs.Prelude.{slice_index_or}
use Rattle.std.specs.Str.{IsUtf8}
use Rattle.std.proofs.lemmas.List.{length-map}
use Rattle.polars_arrays_views.specs.Parts.{ViewParts, view_strings}
use Rattle.polars_arrays_views.specs.Views.{row_bytes}
use Rattle.polars_arrays_views.proofs.text_view.Utf8ViewArray.value.Goals as goal

pub from_utf8_unchecked-requires : goal.from_utf8_unchecked-requires
from_utf8_unchecked-requires c =
    let a = c.args.self.now in
    let count = length-map a.views (row_bytes a.buffers) in
    subst IsUtf8
    (sym (c.value-bytes.ensures ∙ ap (λ (bytes : ViewParts). slice_index_or (view_strings bytes) c.args.i []) c.as_binview.ensures.bytes))
    (c.as_binview.ensures.text c.args.i [] (omega arith))
