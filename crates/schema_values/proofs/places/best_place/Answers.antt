use Rattle.std.proofs.Common.{◌≡◌, length, arith, subst}
use Rattle.polars_arrays_bytes.specs.OffsetStrings.{offset_strings}
use Rattle.schema_values.specs.Numbers.{IsBestPlace, better}
use Rattle.schema_values.proofs.PlaceLemmas.{first_place, next_place, order_of}
use Rattle.schema_values.proofs.places.best_place.Goals as goal

pub loop-i-init : goal.loop-i-init
loop-i-init c = first_place (better c.args.greatest) (order_of c.args.greatest) (offset_strings (λ x. x) c.args.cells.now)

pub loop-i-preserved : goal.loop-i-preserved
loop-i-preserved c =
    next_place (better c.args.greatest) (order_of c.args.greatest) (offset_strings (λ x. x) c.args.cells.now) c.loop-i.i c.loop-i.best c.better_place-best.result c.loop-i.invariant c.better_place-best.ensures

pub returns : goal.returns
returns c =
    let all : c.loop-i.i ≡ length (offset_strings (λ x. x) c.args.cells.now) = omega arith in
    subst (λ n. IsBestPlace (better c.args.greatest) (offset_strings (λ x. x) c.args.cells.now) n c.loop-i.best) all c.loop-i.invariant
