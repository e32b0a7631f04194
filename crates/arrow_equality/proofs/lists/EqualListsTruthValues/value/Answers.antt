use Rattle.std.proofs.Common.{◌<◌, ◌∙◌, ℕ, ap₂, arith, drop, false, sym, take}
use Rattle.std.specs.List.{list_all}
use Rattle.polars_arrays_words.proofs.Firsts.{get_or-first, length-first}
use Rattle.arrow_parts.specs.Lent.{places_from}
use Rattle.arrow_equality.specs.Lists.{is_equal_list}
use Rattle.arrow_equality.proofs.lists.EqualListsTruthValues.value.Goals as goal

pub list_at-from-requires-clause-row : goal.list_at-from-requires-clause-row
list_at-from-requires-clause-row g c =
    let l = c.args.self.now in
    omega (arith, c.requires, l.count, length-first (is_equal_list l.items.now (places_from l.base g.O.Number.value l.offsets.now)) l.rows)

pub list_at-from-requires-clause-good : goal.list_at-from-requires-clause-good
list_at-from-requires-clause-good g c κs within =
    let l = c.args.self.now in
    l.good c.args.i (omega (arith, c.requires, length-first (is_equal_list l.items.now (places_from l.base g.O.Number.value l.offsets.now)) l.rows))

pub all_set-requires : goal.all_set-requires
all_set-requires g c =
    let l = c.args.self.now in
    let low : c.args.i < l.rows = omega (arith, c.requires, length-first (is_equal_list l.items.now (places_from l.base g.O.Number.value l.offsets.now)) l.rows) in
    omega (arith, c.list_at-from.ensures.start, c.list_at-from.ensures.size, l.within c.args.i low)

pub returns : goal.returns
returns g c =
    let l = c.args.self.now in
    let test = is_equal_list l.items.now (places_from l.base g.O.Number.value l.offsets.now) in
    let low : c.args.i < l.rows = omega (arith, c.requires, length-first test l.rows) in
    c.all_set.ensures
    ∙ ap₂ (λ (at n : ℕ). list_all (λ b. b) (take n (drop at l.items.now))) c.list_at-from.ensures.start c.list_at-from.ensures.size
    ∙ sym (get_or-first test l.rows c.args.i false low)
