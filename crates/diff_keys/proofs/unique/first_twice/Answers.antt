use Rattle.std.proofs.Common.{◌∙◌, ◌+◌, sym, arith}
use Rattle.std.proofs.lemmas.Map.Text.{hash_map_updates_str}
use Rattle.std.specs.HashMap.{get_by}
use Rattle.std.specs.Str.{bytes_eq}
use Rattle.diff_keys.proofs.UniqueLemmas.{one_seen, twice_seen}
use Rattle.diff_keys.proofs.unique.first_twice.Goals as goal

pub loop-i-preserved : goal.loop-i-preserved
loop-i-preserved g c =
    one_seen (g.K.ByteRows.strings c.args.keys.now) c.loop-i.i (c.loop-i.i + 1) (λ q. get_by (λ x. bytes_eq q x.now) c.loop-i.seen) (λ q. get_by (λ x. bytes_eq q x.now) c.insert.new.self) c.loop-i.invariant
    (sym (rw c.bytes.ensures at c.in_ok-first.ensures.old) ∙ c.in_default.is) (omega arith)
    (λ q. rw c.bytes.ensures at (hash_map_updates_str _ c.loop-i.seen c.insert.new.self _ c.in_ok-first.ensures.updates q))

pub returns-in-Some : goal.returns-in-Some
returns-in-Some g c =
    twice_seen (g.K.ByteRows.strings c.args.keys.now) c.loop-i.i c.in-Some.first (λ q. get_by (λ x. bytes_eq q x.now) c.loop-i.seen) c.loop-i.invariant
    (omega (arith, c.count-count.ensures)) (sym (rw c.bytes.ensures at c.in_ok-first.ensures.old) ∙ c.in-Some.is)
