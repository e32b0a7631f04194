use Rattle.std.specs.HashMap.{get_by}
use Rattle.std.specs.Str.{bytes_eq}
use Rattle.diff_keys.proofs.UniqueLemmas.{AreSeen}
use Rattle.diff_keys.proofs.unique.first_twice.Given as goal

abbrev pub invariant-loop-i : goal.invariant-loop-i
invariant-loop-i g l = AreSeen (g.K.ByteRows.strings l.keys) l.i (λ q. get_by (λ x. bytes_eq q x.now) l.seen)
