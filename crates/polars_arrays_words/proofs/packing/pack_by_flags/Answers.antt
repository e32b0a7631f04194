use Rattle.std.proofs.Common.{ℕ, ◌<◌, ◌∙◌, arith}
use Rattle.std.proofs.lemmas.List.{length-replicate}
use Rattle.polars_arrays_words.proofs.Packs.{get_or-zeros, flag-marked, flag-other}
use Rattle.polars_arrays_words.proofs.packing.pack_by_flags.Goals as goal

pub loop-sixteen-init : goal.loop-sixteen-init
loop-sixteen-init g c = record {
  long = length-replicate {A = ℕ} 64 0;
  marked = λ k h. absurd (omega arith);
  others = λ k h. get_or-zeros 64 k;
}

pub returns : goal.returns
returns g c = record {
  bits = λ i lt. let below : i < 64 = omega arith in c.pack_flags.ensures i below ∙ flag-marked _ _ (c.mark_next-2.ensures.marked i (omega arith));
  rest = λ i past below. c.pack_flags.ensures i below ∙ flag-other _ (c.mark_next-2.ensures.others i (omega arith));
}
