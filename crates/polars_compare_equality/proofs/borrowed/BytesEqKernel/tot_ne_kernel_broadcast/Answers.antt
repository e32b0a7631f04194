use Rattle.std.proofs.Common.{◌∙◌, sym, ap, map}
use Rattle.std.proofs.lemmas.Result.{MatchResult-weaker}
use Rattle.polars_arrays_flat.specs.Row.{Bytes}
use Rattle.polars_compare_leaves.specs.Sameness.{other_row}
use Rattle.polars_compare_equality.proofs.Raw.{unequal-constant}
use Rattle.polars_compare_equality.proofs.borrowed.BytesEqKernel.tot_ne_kernel_broadcast.Goals as goal

pub returns : goal.returns
returns g c =
    MatchResult-weaker c.compare_bytes.result c.compare_bytes.ensures
    (λ bits e. unequal-constant _ _ _ (Bytes c.args.other.now) bits (e ∙ ap (map (λ row. other_row row (Bytes c.args.other.now))) (sym (g.met.Self.ByteRows.slots_law c.args.self.now))))
    (λ error m. m)
