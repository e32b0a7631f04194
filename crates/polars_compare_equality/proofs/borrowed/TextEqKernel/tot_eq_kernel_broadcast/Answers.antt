use Rattle.std.proofs.Common.{◌∙◌, sym, ap, map}
use Rattle.std.proofs.lemmas.Result.{MatchResult-weaker}
use Rattle.polars_arrays_flat.specs.Row.{Bytes}
use Rattle.polars_arrays_flat.specs.StoredRows.{byte_slots}
use Rattle.polars_compare_leaves.specs.Sameness.{same_row}
use Rattle.polars_compare_equality.proofs.Raw.{equal-constant}
use Rattle.polars_compare_equality.proofs.borrowed.TextEqKernel.tot_eq_kernel_broadcast.Goals as goal

pub returns : goal.returns
returns g c =
    MatchResult-weaker c.compare_bytes.result c.compare_bytes.ensures
    (λ bits e. equal-constant _ _ _ (Bytes c.args.other.now) bits (e ∙ ap (λ xs. map (λ row. same_row row (Bytes xs)) (byte_slots (g.Self.ByteRows.strings c.args.self.now))) c.as_bytes.ensures.value ∙ ap (map (λ row. same_row row (Bytes c.args.other.now))) (sym (g.met.Self.ByteRows.slots_law c.args.self.now))))
    (λ error m. m)
