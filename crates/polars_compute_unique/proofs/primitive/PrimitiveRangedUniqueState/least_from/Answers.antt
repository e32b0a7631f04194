use Rattle.std.proofs.Common.{◌≡◌, ◌∙◌, ap, subst, sym}
use Rattle.std.specs.Prelude.{◌<ℤ◌, ℤ, Option, All, MatchOption}
use Rattle.std.specs.Int.{w128}
use Rattle.std.proofs.lemmas.Int.{to_z-of_z}
use Rattle.polars_compute_slots.specs.Slots.{slot_state}
use Rattle.polars_compute_slots.specs.State.{IsLeastFrom, State, set_of}
use Rattle.polars_compute_unique.specs.Seen.{seen_slots}
use Rattle.polars_compute_unique.specs.declared.primitive.Seen.{Seen}
use Rattle.polars_compute_unique.proofs.primitive.PrimitiveRangedUniqueState.least_from.Goals as goal

-- what was found for one bound and state holds of the same ones
found : {X : Type 0} (value : X → ℤ) (result : Option X) (b bound : ℤ) (s state : State) → b ≡ bound → s ≡ state → MatchOption result (All (λ v. v <ℤ b) (set_of s)) (λ x. IsLeastFrom b (set_of s) (value x)) → MatchOption result (All (λ v. v <ℤ bound) (set_of state)) (λ x. IsLeastFrom bound (set_of state) (value x))
found value result b bound s state same kept h =
    subst (λ (t : State). MatchOption result (All (λ v. v <ℤ bound) (set_of t)) (λ x. IsLeastFrom bound (set_of t) (value x))) kept
    (subst (λ (z : ℤ). MatchOption result (All (λ v. v <ℤ z) (set_of s)) (λ x. IsLeastFrom z (set_of s) (value x))) same h)

pub returns-in-Few : goal.returns-in-Few
returns-in-Few g c =
    let value = g.T.Number.value in
    let kept = ap (λ (seen : Seen). slot_state (value c.self.inside.span.least) c.self.inside.span.count (seen_slots seen)) (sym c.in-Few.is) ∙ c.self.view_is in
    found value c.least_from.result _ c.args.bound _ c.args.self.now (to_z-of_z w128 c.args.bound c.ranges.bound) kept c.least_from.ensures

pub returns-in-Many : goal.returns-in-Many
returns-in-Many g c =
    let value = g.T.Number.value in
    let kept = ap (λ (seen : Seen). slot_state (value c.self.inside.span.least) c.self.inside.span.count (seen_slots seen)) (sym c.in-Many.is) ∙ c.self.view_is in
    found value c.least_from-in-Many.result _ c.args.bound _ c.args.self.now (to_z-of_z w128 c.args.bound c.ranges.bound) kept c.least_from-in-Many.ensures
