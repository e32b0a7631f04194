use Rattle.std.proofs.Common.{◌≡◌, refl, rules, subst, true}
use Rattle.polars_arrays_bytes.specs.OffsetStrings.{offset_strings}
use Rattle.polars_arrays_nested.specs.declared.any_array.AnyArray.{LargeBinary}
use Rattle.diff_pairs.specs.Held.{HoldsCells}
use Rattle.diff_pairs.proofs.HeldLemmas.{holds_far}
use Rattle.diff_pairs.proofs.cells.widened.Goals as goal

pub returns : goal.returns
returns c =
    let offsets : c.from_vec-offsets.result.items ≡ c.args.array.now.offsets = search rules in
    let values : c.in_ok-values.values.items ≡ c.args.array.now.values = search rules in
    let same : offset_strings (λ x. x) c.in-Ok.wide ≡ offset_strings (λ x. x) c.args.array.now = rw (c.in-Ok.ensures.made.1, offsets, values) refl in
    subst (λ s. HoldsCells true s (LargeBinary c.in-Ok.wide)) same (holds_far c.in-Ok.wide (rw c.in-Ok.ensures.made.1 refl))
