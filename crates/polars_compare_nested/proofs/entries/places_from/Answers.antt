use Rattle.std.proofs.Common.{ℕ, arith}
use Rattle.std.proofs.lemmas.List.{length-replicate}
use Rattle.polars_compare_nested.proofs.entries.places_from.Goals as goal

pub loop-k-init : goal.loop-k-init
loop-k-init g c = record {
  size = length-replicate {A = ℕ} 64 0;
  each = λ k h. absurd (omega arith);
}
