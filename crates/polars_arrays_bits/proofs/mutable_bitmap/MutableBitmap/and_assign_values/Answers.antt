use Rattle.std.proofs.Common.{◌&&◌, List, Bool, false, length, get_or, sym, ap, ◌∙◌}
use Rattle.std.specs.Simd.Lanes.{zip2}
use Rattle.polars_arrays_bits.proofs.Windows.{first-as_long}
use Rattle.polars_arrays_bits.proofs.WordValues.{first-elements}
use Rattle.polars_arrays_bits.proofs.mutable_bitmap.MutableBitmap.and_assign_values.Goals as goal

pub returns : goal.returns
returns g c =
    let values : List Bool = g.V.TruthValues.values c.args.values.now in
    let bits = first-as_long (λ i. get_or values i false) (length values) (length c.args.self.now) values (first-elements values) (sym c.requires) in
    c.assign.ensures ∙ ap (zip2 ◌&&◌ c.args.self.now) bits
