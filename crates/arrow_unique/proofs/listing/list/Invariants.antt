use Rattle.std.proofs.Common.{◌+◌, ◌*◌}
use Rattle.std.specs.Int.{w64, trailing_zeros}
use Rattle.arrow_unique.proofs.Seen.{IsLeft, IsListed}
use Rattle.arrow_unique.proofs.listing.list.Given as goal

abbrev pub invariant-loop-k : goal.invariant-loop-k
invariant-loop-k l = IsListed l.least l.count l.words l.fn.out (64 * l.k) l.n l.out

abbrev pub invariant-loop-rest : goal.invariant-loop-rest
invariant-loop-rest l =
    IsListed l.least l.count l.words l.fn.out (64 * l.k + trailing_zeros w64 l.rest) l.n l.out × IsLeft l.least l.count l.words l.k l.rest

abbrev pub decreases-loop-rest : goal.decreases-loop-rest
decreases-loop-rest l = l.rest
