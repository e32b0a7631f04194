use Rattle.std.proofs.lemmas.Result.{MatchResult-weaker}
use Rattle.std.proofs.Common.{◌∙◌, sym}
use Rattle.std.proofs.lemmas.List.{length-map}
use Rattle.polars_arrays_bytes.specs.OffsetStrings.{offset_strings}
use Rattle.polars_arrays_flat.specs.Row.{Bytes}
use Rattle.polars_compare_equality.specs.SlotsLaws.{byte_slots-as_long}
use Rattle.polars_compare_equality.proofs.Raw.{unequal-windows}
use Rattle.polars_compare_equality.proofs.bytes.BinaryArrayTotalEqKernel.tot_ne_kernel.Goals as goal

pub returns : goal.returns
returns g c =
    MatchResult-weaker c.compare_byte_windows.result c.compare_byte_windows.ensures
    (λ bits e. unequal-windows _ _ _ _ _ bits (c.count.ensures ∙ sym (length-map (offset_strings g.O.Number.value c.args.self.now) Bytes)) (byte_slots-as_long _ _ c.requires.comparable) (rw (c.lent.ensures, c.lent-2.ensures) at e))
    (λ error m. m)
