use Rattle.std.proofs.Common.{◌≡◌, ℕ, true, length}
use Rattle.polars_arrays_flat.specs.StoredRows.{masked, number_slots}
use Rattle.polars_arrays_words.specs.Bits.{first_of, is_bit}
use Rattle.arrow_unique.proofs.Present.{is_done}
use Rattle.arrow_unique.specs.Memory.{AreMarked}
use Rattle.arrow_unique.proofs.marking.mark_some.Given as goal

abbrev pub invariant-loop-rest : goal.invariant-loop-rest
invariant-loop-rest g l =
    ((i : ℕ) → is_bit l.rest i ≡ true → is_bit l.present i ≡ true) × AreMarked (g.T.Number.value l.span.least) l.span.count (masked (first_of (is_done l.present l.rest) (length l.numbers)) (number_slots g.T.Number.value l.numbers)) l.fn.words l.words

abbrev pub decreases-loop-rest : goal.decreases-loop-rest
decreases-loop-rest g l = l.rest
