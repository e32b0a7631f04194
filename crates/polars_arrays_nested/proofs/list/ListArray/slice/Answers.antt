use Rattle.std.proofs.Common.{refl}
use Rattle.polars_arrays_nested.proofs.Cuts.{cut-list}
use Rattle.polars_arrays_nested.proofs.list.ListArray.slice.Goals as goal

pub returns : goal.returns
returns c =
    cut-list _ c.args.self.now c.args.at c.args.n c.requires.good c.requires.within c.slice.ensures.places c.slice.ensures.width refl c.slice_validity.ensures.bits
