use Rattle.std.proofs.Common.{◌∙◌, sym, true}
use Rattle.std.proofs.lemmas.List.{length-map}
use Rattle.std.proofs.lemmas.Result.{MatchResult-weaker}
use Rattle.polars_arrays_bytes.specs.SizedStrings.{sized_strings}
use Rattle.polars_arrays_flat.specs.Row.{Bytes}
use Rattle.polars_compare_equality.specs.SlotsLaws.{byte_slots-as_long}
use Rattle.polars_compare_equality.proofs.Raw.{equal-windows}
use Rattle.polars_compare_equality.proofs.Sized.{sized-raw}
use Rattle.polars_compare_equality.proofs.bytes.FixedSizeBinaryArrayTotalEqKernel.tot_eq_kernel.Goals as goal

pub returns : goal.returns
returns c =
    MatchResult-weaker c.compare_sized_windows.result c.compare_sized_windows.ensures
    (λ bits e.
    sized-raw true _ _ c.args.self.now.size c.args.other.now.size c.args.self.now.count c.args.other.now.count c.args.self.now.values c.args.other.now.values bits
    c.read_sizes.ensures.left c.read_sizes.ensures.right c.requires.comparable
    (equal-windows _ _ _ _ _ bits (c.count.ensures ∙ sym (length-map (sized_strings c.args.self.now.size c.args.self.now.count c.args.self.now.values) Bytes)) (byte_slots-as_long _ _ c.requires.comparable) e))
    (λ error m. m)
