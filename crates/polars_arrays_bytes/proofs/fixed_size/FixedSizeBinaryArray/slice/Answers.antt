use Rattle.std.proofs.Common.{◌≤◌, ◌+◌, ℕ, List, ap, sym, subst, ◌∙◌}
use Rattle.polars_arrays_bits.specs.Buffer.{Elements}
use Rattle.polars_arrays_flat.specs.StoredRows.{rows_under, byte_slots}
use Rattle.polars_arrays_flat.specs.Validity.{window}
use Rattle.polars_arrays_bytes.specs.SizedStrings.{SizedStrings, sized_rows, sized_strings}
use Rattle.polars_arrays_bytes.proofs.Windows.{sized-window, byte_slots-window}
use Rattle.polars_arrays_bytes.proofs.fixed_size.FixedSizeBinaryArray.slice.Goals as goal

pub returns-clause-rows : goal.returns-clause-rows
returns-clause-rows c =
    let old = c.self.inside in
    let strings = sized_strings old.size old.count old.values.items in
    let within = subst (λ (a : SizedStrings). c.args.at + c.args.n ≤ a.count) (sym c.self.view_is) c.requires in
    ap (λ (b : Elements ℕ). rows_under c.slice_validity.new.validity (byte_slots (sized_strings old.size c.args.n b.items))) c.keep_strings.ensures
    ∙ ap (λ (xs : List (List ℕ)). rows_under c.slice_validity.new.validity (byte_slots xs)) (sized-window old.size c.args.at c.args.n old.count old.values.items within)
    ∙ ap (rows_under c.slice_validity.new.validity) (byte_slots-window c.args.at c.args.n strings)
    ∙ c.slice_validity.ensures.rows (byte_slots strings)
    ∙ ap (λ (a : SizedStrings). window c.args.at c.args.n (sized_rows a)) c.self.view_is
