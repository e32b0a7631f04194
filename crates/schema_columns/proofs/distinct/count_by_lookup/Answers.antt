use mir.Syntax.{w64}
use mir.Val.{SFits, of_z, to_z}
use Rattle.std.proofs.Common.{rules, Some, if◌then◌else◌, ◌≡◌, ◌∙◌, ◌+◌, ◌-◌, List, ℤ, pos, ap, sym, subst, arith, drop, get_or, length}
use Rattle.std.proofs.lemmas.Int.{to_z-of_z}
use Rattle.std.specs.HashMap.{get}
use Rattle.std.specs.Ordering.{int_eq}
use Rattle.schema_columns.proofs.DistinctLemmas.{int_turned}
use Rattle.schema_values.proofs.DistinctLemmas.{AreCounted, added, byte_added, last_more, one_at_most, one_counted}
use Rattle.schema_columns.proofs.distinct.count_by_lookup.Goals as goal

pub loop-k-preserved : goal.loop-k-preserved
loop-k-preserved c =
    let xs : List ℤ = c.args.numbers.now in
    let byte = byte_added c.in_ok-old.old c.is_none.result c.from-count.result c.is_none.ensures c.from-count.ensures in
    let x : ℤ = get_or xs (length xs - 1 - c.loop-k.k) (pos 0) in
    let fits : SFits w64 x = search rules in
    let same : to_z w64 (of_z w64 x) ≡ x = to_z-of_z w64 x fits in
    let more = ap (λ n. c.loop-k.count + n) (byte ∙ ap added (c.in_ok-old.ensures.old ∙ ap (λ y. get int_eq c.loop-k.seen y) same)) in (
      subst (λ l. AreCounted int_eq l (λ q. get int_eq c.insert.new.self q) (c.loop-k.count + c.from-count.result)) (sym (last_more xs c.loop-k.k (pos 0) (omega arith)))
          (one_counted int_eq int_turned (get_or xs (length xs - 1 - c.loop-k.k) (pos 0)) (drop (length xs - c.loop-k.k) xs) (λ q. get int_eq c.loop-k.seen q) (λ q. get int_eq c.insert.new.self q)
          c.loop-k.k c.loop-k.count (c.loop-k.count + c.from-count.result) c.loop-k.invariant.0 (λ q. c.in_ok-old.ensures.updates.0 q ∙ ap (λ y. if int_eq y q then Some c.loop-k.k else get int_eq c.loop-k.seen q) same) more),
      one_at_most c.loop-k.k c.loop-k.count c.from-count.result c.is_none.result c.from-count.ensures c.loop-k.invariant.1,
    )
