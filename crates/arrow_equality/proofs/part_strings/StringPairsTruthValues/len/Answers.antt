use Rattle.std.proofs.Common.{[], sym}
use Rattle.std.specs.Prelude.{slice_index_or}
use Rattle.std.specs.Str.{bytes_eq}
use Rattle.polars_arrays_words.proofs.Firsts.{length-first}
use Rattle.arrow_equality.proofs.part_strings.StringPairsTruthValues.len.Goals as goal

pub returns : goal.returns
returns g c =
    sym (length-first (λ i. bytes_eq (slice_index_or c.args.self.now.left i []) (slice_index_or c.args.self.now.right i [])) c.args.self.now.n)
