use Rattle.std.proofs.Common.{◌||◌, refl, sym, ap, ◌∙◌}
use Rattle.std.specs.Simd.Lanes.{zip2}
use Rattle.polars_arrays_bits.proofs.Windows.{aligned, first-as_long}
use Rattle.polars_arrays_bits.proofs.mutable_bitmap.MutableBitmap.or_assign.Goals as goal

pub returns : goal.returns
returns c =
    let n = c.other.inside.len in
    c.assign.ensures
    ∙ ap (zip2 ◌||◌ c.args.self.now)
    (first-as_long _ n _ c.args.other.now (aligned 0 n c.other.inside.words.items c.as_slice-words.result.now c.args.other.now refl c.as_slice-words.ensures.value c.other.view_is) (sym c.requires))
