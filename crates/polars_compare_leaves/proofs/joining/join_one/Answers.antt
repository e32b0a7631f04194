use Rattle.std.proofs.Common.{◌&&◌, true, false, ap, ◌∙◌, Bool, List}
use Rattle.std.specs.Simd.Lanes.{zip2}
use Rattle.polars_arrays_bits.specs.Logic.{or_not}
use Rattle.polars_compare_leaves.proofs.JoinedBits.{joined-left, joined-right, and-left, and-right, or_not-left, or_not-right}
use Rattle.polars_compare_leaves.proofs.joining.join_one.Goals as goal
use Rattle.polars_compare_leaves.proofs.joining.join_one.Goals.{in-Equal, in-Unequal}

pub returns-clause-left : goal.returns-clause-left
returns-clause-left g c =
    elim c.match-relation.branch [
      | in-Equal w ↦
          rw w.in-Equal.is
          (joined-left true (g.R.RawValues.values c.args.raw) ◌&&◌ and-left c.args.mask.now c.freeze.result c.requires
          (c.freeze.ensures ∙ w.bits-is ∙ w.and_assign_mask.ensures ∙ ap (λ (xs : List Bool). zip2 ◌&&◌ xs c.args.mask.now) (c.in_ok-bits.ensures ∙ c.in_ok-raw.ensures)))
      | in-Unequal w ↦
          rw w.in-Unequal.is
          (joined-left false (g.R.RawValues.values c.args.raw) or_not or_not-left c.args.mask.now c.freeze.result c.requires
          (c.freeze.ensures ∙ w.bits-is ∙ w.or_not_assign_mask.ensures ∙ ap (λ (xs : List Bool). zip2 or_not xs c.args.mask.now) (c.in_ok-bits.ensures ∙ c.in_ok-raw.ensures)))
    ]

pub returns-clause-right : goal.returns-clause-right
returns-clause-right g c =
    elim c.match-relation.branch [
      | in-Equal w ↦
          rw w.in-Equal.is
          (joined-right true (g.R.RawValues.values c.args.raw) ◌&&◌ and-right c.args.mask.now c.freeze.result c.requires
          (c.freeze.ensures ∙ w.bits-is ∙ w.and_assign_mask.ensures ∙ ap (λ (xs : List Bool). zip2 ◌&&◌ xs c.args.mask.now) (c.in_ok-bits.ensures ∙ c.in_ok-raw.ensures)))
      | in-Unequal w ↦
          rw w.in-Unequal.is
          (joined-right false (g.R.RawValues.values c.args.raw) or_not or_not-right c.args.mask.now c.freeze.result c.requires
          (c.freeze.ensures ∙ w.bits-is ∙ w.or_not_assign_mask.ensures ∙ ap (λ (xs : List Bool). zip2 or_not xs c.args.mask.now) (c.in_ok-bits.ensures ∙ c.in_ok-raw.ensures)))
    ]
