use Rattle.std.proofs.Common.{◌+◌, ap, ◌∙◌}
use Rattle.std.proofs.Math.Dec.{leb}
use Rattle.polars_arrays_words.specs.Bits.{bit_of}
use Rattle.polars_arrays_words.proofs.TrueRuns.{trailing-tells}
use Rattle.polars_arrays_words.proofs.runs.few_set.Goals as goal

pub returns : goal.returns
returns c =
    ap (leb c.args.n) c.trailing_ones.ensures
    ∙ trailing-tells c.word_from.result c.args.n (λ i. bit_of c.args.words.now (c.args.by + c.args.at + i)) c.word_from.type_inv c.requires.few c.word_from.ensures
