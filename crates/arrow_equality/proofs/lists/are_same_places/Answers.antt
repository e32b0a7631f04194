use Rattle.std.proofs.Common.{◌≡◌, ◌∙◌, ℕ, Bool, true, false, ap, arith, below_more, refl, sym}
use Rattle.std.specs.Prelude.{◌&&◌, IsTrue, None, Some}
use Rattle.std.proofs.lemmas.Bool.{eqb-true}
use Rattle.std.proofs.lemmas.List.{ext_get_or}
use Rattle.arrow_parts.specs.Lent.{places_from}
use Rattle.arrow_equality.proofs.LentPlaces.{length-lent, place-lent}
use Rattle.arrow_equality.proofs.ListPlaces.{there-lent}
use Rattle.arrow_equality.proofs.lists.are_same_places.Goals as goal

pub place_of-requires-after_bounds : goal.place_of-requires-after_bounds
place_of-requires-after_bounds g c κs within =
    there-lent g.O.Number.value c.args.left_base _ c.args.left.now c.loop-i.i _ c.index-left-i.is (omega arith) c.requires.left.1

pub place_of-requires-in-loop-i-after_bounds : goal.place_of-requires-in-loop-i-after_bounds
place_of-requires-in-loop-i-after_bounds g c κs within =
    there-lent g.O.Number.value c.args.right_base _ c.args.right.now c.loop-i.i _ c.index-right-i.is (omega (arith, c.requires.one_length)) c.requires.right.1

-- two truths that are both so
both_left : (a b : Bool) → IsTrue (a && b) → IsTrue a
both_left true b both = refl
both_left false b both = cc

both_right : (a b : Bool) → IsTrue (a && b) → IsTrue b
both_right true b both = both
both_right false b both = cc

pub loop-i-preserved : goal.loop-i-preserved
loop-i-preserved g c both =
    let same : c.place_of.result ≡ c.place_of-in-loop-i.result = eqb-true c.place_of.result c.place_of-in-loop-i.result (both_right c.loop-i.same _ both) in
    below_more _ _ (c.loop-i.invariant (both_left c.loop-i.same _ both))
    (place-lent g.O.Number.value c.args.right_base c.args.right.now c.loop-i.i _ c.index-right-i.is (omega (arith, c.requires.one_length))
    ∙ c.place_of-in-loop-i.ensures
    ∙ ap (λ (at : ℕ). Some at) (sym same)
    ∙ sym (place-lent g.O.Number.value c.args.left_base c.args.left.now c.loop-i.i _ c.index-left-i.is (omega arith) ∙ c.place_of.ensures))

pub returns : goal.returns
returns g c same =
    let left = places_from c.args.left_base g.O.Number.value c.args.left.now in
    let right = places_from c.args.right_base g.O.Number.value c.args.right.now in
    ext_get_or None right left (omega (arith, c.requires.one_length, length-lent g.O.Number.value c.args.left_base c.args.left.now, length-lent g.O.Number.value c.args.right_base c.args.right.now))
    (λ k low. c.loop-i.invariant same k (omega (arith, low, c.requires.one_length, c.loop-i-test.false, length-lent g.O.Number.value c.args.right_base c.args.right.now)))
