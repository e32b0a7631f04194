use Rattle.std.proofs.lemmas.Result.{MatchResult-weaker}
use Rattle.polars_arrays_flat.specs.Row.{Bytes}
use Rattle.polars_compare_equality.proofs.Raw.{unequal-constant}
use Rattle.polars_compare_equality.proofs.texts.Utf8ArrayTextEqKernel.tot_ne_kernel_broadcast.Goals as goal

pub returns : goal.returns
returns g c =
    MatchResult-weaker c.compare_bytes.result c.compare_bytes.ensures
    (λ bits e. unequal-constant _ _ _ (Bytes c.args.other.now) bits (rw (c.lent.ensures, c.as_bytes.ensures.value) at e))
    (λ error m. m)
