use Rattle.std.proofs.Common.{◌≡◌, ◌∷◌, [], ℕ, arith, length, rules, subst, sym}
use Rattle.arrow_parts.specs.Lent.{places_from}
use Rattle.arrow_arrays.specs.Columns.{rows_of_parts}
use Rattle.arrow_arrays.specs.Good.{AreGoodParts}
use Rattle.arrow_equality.specs.Equal.{IsComparison}
use Rattle.arrow_equality.specs.Lists.{AreAlikeLists}
use Rattle.arrow_equality.proofs.lists.compare_between.Goals as goal

pub returns : goal.returns
returns g c =
    let good : AreGoodParts (c.args.left_items.now ∷ []) × AreGoodParts (c.args.right_items.now ∷ []) = search rules in
    let told : IsComparison (rows_of_parts (c.args.left_items.now ∷ [])) (rows_of_parts (c.args.right_items.now ∷ [])) c.in-Some.items = search rules in
    let places = places_from c.args.left.now.base g.O.Number.value c.args.left_offsets.now in
    let others = places_from c.args.right.now.base g.O.Number.value c.args.right_offsets.now in
    let size : length c.in-Some.items.bits ≡ c.args.left_items.now.rows = omega (arith, c.len.ensures, c.if-len-left_items.false) in
    record {
      items = c.in-Some.items;
      left_holds = c.holds_leaves.ensures c.if-not-holds_leaves.false;
      right_holds = c.holds_leaves-else-not-holds_leaves.ensures c.if-not-holds_leaves-2.false;
      left_good = good.0;
      right_good = good.1;
      compared = told;
      lists = subst (λ (n : ℕ). AreAlikeLists c.args.left.now c.args.right.now places others n) (sym size) (c.are_alike.ensures c.if-not-are_alike.false);
      left_held = c.in_ok-compared.ensures.held.0;
      right_held = c.in_ok-compared.ensures.held.1;
      joined = c.in_ok-compared.ensures.joined;
      count = c.in_ok-compared.ensures.count;
    }
