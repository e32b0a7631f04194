use Rattle.std.proofs.Common.{◌/◌, ◌%◌, ◌^◌, ◌∙◌, ◌++◌, ℕ, List, not, eqb, get_or, ap, bit_and}
use Rattle.polars_arrays_words.specs.Bits.{first_of}
use Rattle.polars_compute_reductions.proofs.WordFlags.{flags}
use Rattle.polars_compute_reductions.proofs.flags.flags_of_8.Goals as goal

pub returns : goal.returns
returns c =
    ap (λ (bytes : List ℕ). first_of (λ j. not (eqb (bit_and (get_or (bytes ++ bytes) (j / 8) 0) (2 ^ (j % 8))) 0)) 64) c.to_le_bytes.ensures
    ∙ flags c.args.word
