use Rattle.std.proofs.Common.{sym, refl}
use Rattle.std.specs.Bool.{⊤}
use Rattle.std.proofs.lemmas.Result.{MatchResult-weaker}
use Rattle.std.proofs.lemmas.List.{length-replicate}
use Rattle.polars_compare_equality.proofs.Missing.{missing-from-raw, repeated-present}
use Rattle.polars_compare_equality.proofs.joining.join_scalar.Goals as goal

pub returns : goal.returns
returns g c =
    MatchResult-weaker c.join_masks.result c.join_masks.ensures
    (λ bits j scalar some raw.
    let joined = rw (c.bits.ensures, c.in_ok-mask.ensures.mask) at j in
    missing-from-raw _ ⊤ _ _ _ _ _ _ bits c.in_ok-mask.ensures.bits tt
    (sym (length-replicate _ _))
    (λ i within is_null. let law = g.met.A.Array.null_law c.args.rows.now c.args.rows.now i within is_null in (law.0, refl, (tt, tt)))
    (repeated-present _ _ _ _ _ some)
    raw joined)
    (λ error m. m)
