use Rattle.std.proofs.Common.{◌≡◌, ◌+◌, ◌≤◌}
use Rattle.polars_arrays_flat.specs.Validity.{window}
use Rattle.polars_arrays_nested.specs.Masks.{named_bits, presence_of}
use Rattle.polars_arrays_nested.specs.Parts.{dictionary_keys, dictionary_values}
use Rattle.polars_arrays_nested.proofs.masks.followed_window.Given as goal

abbrev pub invariant-loop-i : goal.invariant-loop-i
invariant-loop-i l =
    (l.bits.bits ≡ window l.at l.i (named_bits (dictionary_keys l.array) (presence_of (dictionary_values l.array))))
    × (l.n ≤ l.i + l.bits.room)
