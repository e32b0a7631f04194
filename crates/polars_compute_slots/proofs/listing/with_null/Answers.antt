use Rattle.std.proofs.Common.{◌≡◌, ◌∙◌, ◌++◌, arith, ℕ, List, Bool, [], ◌∷◌, ap, ap₂, true, false, length, replicate}
use Rattle.polars_arrays_flat.specs.StoredRows.{masked, number_slots}
use Rattle.polars_compute_slots.proofs.Sets.{masked-last}
use Rattle.polars_compute_slots.proofs.listing.with_null.Goals as goal

pub returns : goal.returns
returns g c =
    let value = g.T.Number.value in
    let len : c.len.result ≡ length c.args.numbers.items = omega (arith, c.len.ensures, c.args.numbers.ok.0) in
    c.with_validity.ensures.rows
    ∙ ap₂ (λ (bits : List Bool) (xs : List g.row.T.Denot). masked bits (number_slots value xs))
    (c.in_ok-validity.ensures ∙ ap (λ (n : ℕ). replicate n true ++ false ∷ []) len) (ap (λ a. a.values) c.from_vec.ensures.stored ∙ c.push_reserved.ensures.items)
    ∙ masked-last value c.args.numbers.items c.zero.result
