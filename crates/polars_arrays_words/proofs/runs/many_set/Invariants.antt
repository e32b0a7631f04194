use Rattle.std.proofs.Common.{◌≡◌, ◌+◌, ◌*◌, true}
use Rattle.std.specs.List.{list_all}
use Rattle.polars_arrays_words.specs.Bits.{window}
use Rattle.polars_arrays_words.proofs.runs.many_set.Given as goal

abbrev pub invariant-loop-k : goal.invariant-loop-k
invariant-loop-k l = list_all (λ b. b) (window (l.by + l.at) (64 * l.k) l.words) ≡ true
