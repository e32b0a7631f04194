use Rattle.std.proofs.Common.{◌≡◌, None, get_or, map, take}
use Rattle.diff_keys.proofs.partners.heads_of.Given as goal

abbrev pub invariant-loop-k : goal.invariant-loop-k
invariant-loop-k l = l.rows.items ≡ map (λ c. get_or l.waiting.heads.items c None) (take l.k l.classes)
