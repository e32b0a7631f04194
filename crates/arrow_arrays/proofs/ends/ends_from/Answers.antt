use Rattle.std.proofs.Common.{rules, ◌≡◌, ◌≤◌, ◌++◌, ◌∷◌, [], length, sym, ap, subst, ◌∙◌, None}
use Rattle.polars_arrays_numbers.specs.Naturals.{natural_of}
use Rattle.arrow_parts.specs.Lent.{place_from}
use Rattle.arrow_arrays.proofs.EndLemmas.{ends-more, one-longer, unplaced}
use Rattle.arrow_arrays.proofs.ends.ends_from.Goals as goal

pub loop-i-preserved : goal.loop-i-preserved
loop-i-preserved g c =
    let some : natural_of c.in-Some.end ≡ place_from c.args.base (natural_of c.wide.result) = search rules in
    let more : c.push_reserved.new.self.items ≡ c.loop-i.ends.items ++ c.in-Some.end ∷ [] = search rules in (
      ends-more g.O.Number.value c.args.base c.args.offsets.now c.loop-i.i c.index-offsets-i.result c.loop-i.ends.items c.push_reserved.new.self.items c.in-Some.end c.loop-i-test.true c.loop-i.invariant.0 more (some ∙ ap (λ x. place_from c.args.base (natural_of x)) (c.wide.ensures ∙ ap g.O.Number.value c.index-offsets-i.is)),
      one-longer c.loop-i.ends.items c.push_reserved.new.self.items c.in-Some.end c.loop-i.i more c.loop-i.invariant.1,
      subst (λ n. length c.args.offsets.now ≤ n) (sym c.push_reserved.ensures.capacity) c.loop-i.invariant.2,
    )

pub returns-in-None-clause-refused : goal.returns-in-None-clause-refused
returns-in-None-clause-refused g c =
    let none : place_from c.args.base (natural_of c.wide.result) ≡ None = search rules in
    unplaced g.O.Number.value c.args.base c.args.offsets.now c.loop-i.i c.index-offsets-i.result c.loop-i-test.true (sym (ap (λ x. place_from c.args.base (natural_of x)) (c.wide.ensures ∙ ap g.O.Number.value c.index-offsets-i.is)) ∙ none)
