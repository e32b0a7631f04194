use Rattle.std.proofs.Common.{◌∙◌, ap, ℕ, Bool, List, false, replicate}
use Rattle.std.specs.Prelude.{Some}
use Rattle.std.proofs.lemmas.List.{length-map}
use Rattle.polars_arrays_flat.specs.Row.{Int}
use Rattle.polars_compute_arithmetic.proofs.arithmetic.zeros.mask_all.Goals as goal

pub returns-in-Ok-clause-masked : goal.returns-in-Ok-clause-masked
returns-in-Ok-clause-masked g c =
    c.with_validity.ensures.stored
    ∙ ap (λ (bits : List Bool). record c.args.array { validity = Some bits }) (c.in-Ok.ensures ∙ ap (λ (n : ℕ). replicate n false) (c.len.ensures ∙ length-map c.args.array.values (λ (x : _). Int (g.T.Number.value x))))
