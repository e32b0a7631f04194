use Rattle.std.proofs.Common.{◌∙◌, sym}
use Rattle.std.proofs.lemmas.List.{length-map}
use Rattle.std.proofs.lemmas.Result.{MatchResult-weaker}
use Rattle.polars_arrays_bytes.specs.OffsetStrings.{offset_strings}
use Rattle.polars_arrays_flat.specs.Row.{Bytes}
use Rattle.polars_compare_order.proofs.Ordered.{ordered-windows}
use Rattle.polars_compare_order.proofs.bytes.Utf8ArrayTotalOrdKernel.tot_le_kernel.Goals as goal

pub returns : goal.returns
returns g c =
    MatchResult-weaker c.compare_byte_windows.result c.compare_byte_windows.ensures
    (λ bits e. ordered-windows _ _ _ _ _ _ bits (c.count.ensures ∙ sym (length-map (offset_strings g.O.Number.value c.args.self.now) Bytes)) c.requires (rw (c.lent.ensures, c.lent-2.ensures) at e))
    (λ error m. m)
