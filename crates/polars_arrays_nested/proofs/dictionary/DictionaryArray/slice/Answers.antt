use Rattle.std.proofs.Common.{refl}
use Rattle.polars_arrays_nested.proofs.Cuts.{cut-dictionary}
use Rattle.polars_arrays_nested.proofs.dictionary.DictionaryArray.slice.Goals as goal

pub returns : goal.returns
returns c =
    cut-dictionary _ c.args.self.now c.args.at c.args.n c.requires.good c.requires.within c.slice.ensures.places c.slice.ensures.validity c.slice.ensures.name refl
