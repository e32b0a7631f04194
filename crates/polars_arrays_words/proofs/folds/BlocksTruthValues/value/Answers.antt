use Rattle.std.proofs.Common.{◌+◌, ◌<◌, false, sym, ◌∙◌, arith}
use Rattle.polars_arrays_words.specs.Bits.{bit_of}
use Rattle.polars_arrays_words.specs.Blocks.{block_true}
use Rattle.polars_arrays_words.proofs.BlockPlaces.{block_end, block_run}
use Rattle.polars_arrays_words.proofs.Firsts.{length-first, get_or-first}
use Rattle.polars_arrays_words.proofs.folds.BlocksTruthValues.value.Goals as goal

pub overflow_mul-self : goal.overflow_mul-self
overflow_mul-self c =
    let blocks = c.args.self.now in
    let within : c.args.i < blocks.count = omega (arith, c.requires, length-first (block_true blocks.width (λ p. bit_of blocks.words.now (blocks.by + p))) blocks.count) in
    record { fits = omega (arith, block_end blocks.width c.args.i blocks.count within, blocks.fits) }

pub all_set-requires-clause-fits : goal.all_set-requires-clause-fits
all_set-requires-clause-fits c =
    let blocks = c.args.self.now in
    let within : c.args.i < blocks.count = omega (arith, c.requires, length-first (block_true blocks.width (λ p. bit_of blocks.words.now (blocks.by + p))) blocks.count) in
    omega (arith, block_end blocks.width c.args.i blocks.count within, blocks.fits)

pub returns : goal.returns
returns c =
    let blocks = c.args.self.now in
    let f = block_true blocks.width (λ p. bit_of blocks.words.now (blocks.by + p)) in
    let within : c.args.i < blocks.count = omega (arith, c.requires, length-first f blocks.count) in
    c.all_set.ensures
    ∙ block_run blocks.words.now blocks.by blocks.width c.args.i
    ∙ sym (get_or-first f blocks.count c.args.i false within)
