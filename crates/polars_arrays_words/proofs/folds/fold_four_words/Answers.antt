use Rattle.std.proofs.Common.{List, ℕ, Bool, [], ◌∷◌, refl, arith}
use Rattle.polars_arrays_words.specs.Bits.{bit_of, first_of}
use Rattle.polars_arrays_words.specs.Blocks.{block_true}
use Rattle.polars_arrays_words.proofs.FourFolds.{quarter}
use Rattle.polars_arrays_words.proofs.Puts.{packed-put}
use Rattle.polars_arrays_words.proofs.Spreads.{all-packed}
use Rattle.polars_arrays_words.proofs.folds.fold_four_words.Goals as goal

pub returns : goal.returns
returns c =
    let words : List ℕ = c.args.first ∷ c.args.second ∷ c.args.third ∷ c.args.fourth ∷ [] in
    let values : List Bool = first_of (block_true 4 (bit_of words)) 64 in
    let first = quarter words 0 c.args.first c.fold_fours.result (omega arith) refl c.fold_fours.ensures in
    let second = quarter words 1 c.args.second c.fold_fours-2.result (omega arith) refl c.fold_fours-2.ensures in
    let third = quarter words 2 c.args.third c.fold_fours-3.result (omega arith) refl c.fold_fours-3.ensures in
    let fourth = quarter words 3 c.args.fourth c.fold_fours-4.result (omega arith) refl c.fold_fours-4.ensures in
    let two =
    packed-put c.fold_fours.result c.fold_fours-2.result c.put-two.result values 0 16 16 (omega arith) (omega arith)
    c.put-two.ensures.below c.put-two.ensures.above first second in
    let three =
    packed-put c.put-two.result c.fold_fours-3.result c.put-three.result values 0 32 16 (omega arith) (omega arith)
    c.put-three.ensures.below c.put-three.ensures.above two third in
    let four =
    packed-put c.put-three.result c.fold_fours-4.result c.put.result values 0 48 16 (omega arith) (omega arith)
    c.put.ensures.below c.put.ensures.above three fourth in
    λ i lt. all-packed 4 words c.put.result i lt four
