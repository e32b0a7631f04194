use Rattle.std.proofs.Common.{◌≡◌, ◌<◌, ◌*◌, ◌%◌, ℕ, true, false, get_or}
use Rattle.polars_arrays_words.specs.Bits.{is_bit}
use Rattle.polars_compute_reductions.proofs.fold.common_bits.Given as goal

abbrev pub invariant-loop-k : goal.invariant-loop-k
invariant-loop-k l = (p : ℕ) → p < 64 * l.k → is_bit l.common (p % 64) ≡ true → get_or l.mask p false ≡ true
