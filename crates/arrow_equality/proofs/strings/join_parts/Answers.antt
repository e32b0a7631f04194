use Rattle.std.proofs.Common.{◌≡◌, rules, Bool, true, List, Option, subst}
use Rattle.std.proofs.lemmas.Result.{err_from_is_err_and}
use Rattle.polars_compare_leaves.specs.Joining.{Joined}
use Rattle.arrow_parts.specs.Lent.{present_in}
use Rattle.arrow_arrays.proofs.Honest.{honest-more}
use Rattle.arrow_arrays.proofs.SlotLemmas.{rows-bits}
use Rattle.arrow_arrays.specs.Good.{HoldRows}
use Rattle.arrow_equality.proofs.strings.join_parts.Goals as goal

pub join_masks-requires-clause-left : goal.join_masks-requires-clause-left
join_masks-requires-clause-left g c =
    let mask : c.bits.result ≡ present_in c.args.left.now = search rules in
    rows-bits c.args.left.now _ _ c.requires.left mask

pub join_masks-requires-clause-right : goal.join_masks-requires-clause-right
join_masks-requires-clause-right g c =
    let mask : c.bits-2.result ≡ present_in c.args.right.now = search rules in
    rows-bits c.args.right.now _ _ c.requires.right mask

pub returns-clause-joined : goal.returns-clause-joined
returns-clause-joined g c =
    let left : c.bits.result ≡ present_in c.args.left.now = search rules in
    let right : c.bits-2.result ≡ present_in c.args.right.now = search rules in
    subst (λ (l : Option (List Bool)). Joined true l (present_in c.args.right.now) (g.R.RawValues.values c.args.equal) c.in_ok-bits.bits) left
    (subst (λ (r : Option (List Bool)). Joined true c.bits.result r (g.R.RawValues.values c.args.equal) c.in_ok-bits.bits) right c.in_ok-bits.ensures)

pub returns-in_err-left_bits-clause-refused : goal.returns-in_err-left_bits-clause-refused
returns-in_err-left_bits-clause-refused g c =
    let p = err_from_is_err_and c.from_residual.result c.from_residual.ensures.1 in
    rw (p.1, p.2) (honest-more (HoldRows c.args.left.now) (HoldRows c.args.left.now × HoldRows c.args.right.now) _ c.in_err-left_bits.ensures.refused (λ both. both.0))

pub returns-in_err-right_bits-clause-refused : goal.returns-in_err-right_bits-clause-refused
returns-in_err-right_bits-clause-refused g c =
    let p = err_from_is_err_and c.from_residual-in_err-right_bits.result c.from_residual-in_err-right_bits.ensures.1 in
    rw (p.1, p.2) (honest-more (HoldRows c.args.right.now) (HoldRows c.args.left.now × HoldRows c.args.right.now) _ c.in_err-right_bits.ensures.refused (λ both. both.1))
