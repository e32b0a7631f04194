use Rattle.std.proofs.Common.{List, ℕ, Bool, [], ◌∷◌, refl, arith}
use Rattle.polars_arrays_words.specs.Bits.{bit_of, first_of}
use Rattle.polars_arrays_words.specs.Blocks.{block_true}
use Rattle.polars_arrays_words.proofs.Puts.{packed-put}
use Rattle.polars_arrays_words.proofs.Spreads.{all-packed}
use Rattle.polars_arrays_words.proofs.TwoFolds.{half}
use Rattle.polars_arrays_words.proofs.folds.fold_two_words.Goals as goal

pub returns : goal.returns
returns c =
    let words : List ℕ = c.args.first ∷ c.args.second ∷ [] in
    let values : List Bool = first_of (block_true 2 (bit_of words)) 64 in
    let first = half words 0 c.args.first c.fold_pairs.result (omega arith) refl c.fold_pairs.ensures in
    let second = half words 1 c.args.second c.fold_pairs-2.result (omega arith) refl c.fold_pairs-2.ensures in
    let both =
    packed-put c.fold_pairs.result c.fold_pairs-2.result c.put.result values 0 32 32 (omega arith) (omega arith)
    c.put.ensures.below c.put.ensures.above first second in
    λ i lt. all-packed 2 words c.put.result i lt both
