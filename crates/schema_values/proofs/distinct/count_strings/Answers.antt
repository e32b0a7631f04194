use Rattle.std.proofs.Common.{◌≡◌, ◌∙◌, ◌+◌, ◌-◌, [], List, ℕ, ap, sym, subst, arith, drop, get_or, length}
use Rattle.std.proofs.lemmas.Map.Text.{hash_map_updates_str}
use Rattle.std.specs.HashMap.{get_by}
use Rattle.std.specs.Str.{bytes_eq}
use Rattle.polars_arrays_bytes.specs.OffsetStrings.{offset_strings}
use Rattle.schema_values.proofs.DistinctLemmas.{AreCounted, added, byte_added, bytes_turned, last_more, one_at_most, one_counted}
use Rattle.schema_values.proofs.distinct.count_strings.Goals as goal

pub loop-k-preserved : goal.loop-k-preserved
loop-k-preserved c =
    let xs : List (List ℕ) = offset_strings (λ x. x) c.args.cells.now in
    let x : List ℕ = get_or xs (length xs - 1 - c.loop-k.k) [] in
    let all : c.count-all.result ≡ length xs = c.count-all.ensures in
    let same : c.bytes.result.now ≡ x = c.bytes.ensures ∙ ap (λ n. get_or xs (n - 1 - c.loop-k.k) []) all in
    let look = λ (q : List ℕ). get_by (λ x. bytes_eq q x.now) c.loop-k.seen in
    let byte = byte_added c.in_ok-old.old c.is_none.result c.from-count.result c.is_none.ensures c.from-count.ensures in
    let before : AreCounted bytes_eq (drop (length xs - c.loop-k.k) xs) look c.loop-k.count =
    subst (λ n. AreCounted bytes_eq (drop (n - c.loop-k.k) xs) look c.loop-k.count) all c.loop-k.invariant.0 in
    let more = ap (λ n. c.loop-k.count + n) (byte ∙ ap added (c.in_ok-old.ensures.old ∙ ap look same)) in
    let updated = λ (q : List ℕ). rw same at (hash_map_updates_str _ c.loop-k.seen c.insert.new.self _ c.in_ok-old.ensures.updates q) in
    let after = one_counted bytes_eq bytes_turned x (drop (length xs - c.loop-k.k) xs) look (λ q. get_by (λ x. bytes_eq q x.now) c.insert.new.self) c.loop-k.k c.loop-k.count (c.loop-k.count + c.from-count.result) before updated more in
    let listed = subst (λ l. AreCounted bytes_eq l (λ q. get_by (λ x. bytes_eq q x.now) c.insert.new.self) (c.loop-k.count + c.from-count.result)) (sym (last_more xs c.loop-k.k [] (omega arith))) after in (
      subst (λ n. AreCounted bytes_eq (drop (n - (c.loop-k.k + 1)) xs) (λ q. get_by (λ x. bytes_eq q x.now) c.insert.new.self) (c.loop-k.count + c.from-count.result)) (sym all) listed,
      one_at_most c.loop-k.k c.loop-k.count c.from-count.result c.is_none.result c.from-count.ensures c.loop-k.invariant.1,
    )
