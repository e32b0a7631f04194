use Rattle.std.proofs.Common.{◌≡◌, ℕ, sym, subst}
use Rattle.polars_arrays_flat.specs.ArrayRows.{null_total}
use Rattle.polars_arrays_flat.specs.Validity.{HasBits}
use Rattle.polars_arrays_bytes.specs.SizedStrings.{SizedStrings, sized_rows, sized_strings}
use Rattle.polars_arrays_bytes.proofs.Windows.{length-sized}
use Rattle.polars_arrays_bytes.proofs.fixed_size.FixedSizeBinaryArrayArray.null_count.Goals as goal

pub returns-clause-rows : goal.returns-clause-rows
returns-clause-rows c =
    let a = c.self.inside in
    let bits = subst (λ (n : ℕ). HasBits n a.validity) (sym (length-sized a.size a.count a.values.items)) c.self.invariant.bits in
    λ _. subst (λ (b : SizedStrings). c.null_count.result ≡ null_total (sized_rows b)) c.self.view_is (c.null_count.ensures.bytes (sized_strings a.size a.count a.values.items) bits)
