use Rattle.std.proofs.Common.{◌+◌, sym}
use Rattle.polars_arrays_words.specs.Bits.{bit_of}
use Rattle.polars_arrays_words.specs.Blocks.{block_true}
use Rattle.polars_arrays_words.proofs.Firsts.{length-first}
use Rattle.polars_arrays_words.proofs.folds.BlocksTruthValues.len.Goals as goal

pub returns : goal.returns
returns c =
    let blocks = c.args.self.now in
    sym (length-first (block_true blocks.width (λ p. bit_of blocks.words.now (blocks.by + p))) blocks.count)
