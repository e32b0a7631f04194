use Rattle.std.proofs.Common.{ℕ, List, ap, ◌∙◌}
use Rattle.polars_arrays_bits.specs.Buffer.{Elements}
use Rattle.polars_arrays_flat.specs.StoredRows.{rows_under, byte_slots}
use Rattle.polars_arrays_flat.specs.Validity.{window}
use Rattle.polars_arrays_views.specs.Parts.{ViewParts, contents, strings_of, view_rows, view_strings}
use Rattle.polars_arrays_views.proofs.Strings.{strings-window, rows-window}
use Rattle.polars_arrays_views.proofs.binary_view.BinaryViewArray.slice.Goals as goal

pub returns-clause-strings : goal.returns-clause-strings
returns-clause-strings c =
    let buffers = contents c.self.inside.buffers.items in
    ap (λ (views : Elements (List ℕ)). strings_of buffers views.items) c.slice.ensures
    ∙ strings-window buffers c.args.at c.args.n c.self.inside.views.items
    ∙ ap (λ (a : ViewParts). window c.args.at c.args.n (view_strings a)) c.self.view_is

pub returns-clause-rows : goal.returns-clause-rows
returns-clause-rows c =
    let buffers = contents c.self.inside.buffers.items in
    ap (λ (views : Elements (List ℕ)). rows_under c.slice_validity.new.validity (byte_slots (strings_of buffers views.items))) c.slice.ensures
    ∙ rows-window buffers c.args.at c.args.n c.self.inside.views.items _ _ c.slice_validity.ensures.rows
    ∙ ap (λ (a : ViewParts). window c.args.at c.args.n (view_rows a)) c.self.view_is
