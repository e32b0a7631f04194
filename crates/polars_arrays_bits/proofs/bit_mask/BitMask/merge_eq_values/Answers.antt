use Rattle.std.proofs.Common.{◌≡◌, List, Bool, false, length, get_or, MatchResult, ap, subst}
use Rattle.polars_arrays_words.specs.Bits.{zip3}
use Rattle.polars_arrays_words.specs.Logic.{merged_eq}
use Rattle.polars_arrays_bits.specs.Errors.{IsMemory}
use Rattle.polars_arrays_bits.proofs.Windows.{first-as_long}
use Rattle.polars_arrays_bits.proofs.WordValues.{first-elements}
use Rattle.polars_arrays_bits.proofs.bit_mask.BitMask.merge_eq_values.Goals as goal

pub returns : goal.returns
returns g c =
    let values : List Bool = g.V.TruthValues.values c.args.q.now in
    let bits = first-as_long (λ i. get_or values i false) (length values) (length c.args.l.now) values (first-elements values) c.requires.left in
    subst (λ (xs : List Bool). MatchResult c.merge_placed.result (λ bits. bits ≡ xs) IsMemory)
    (ap (λ (xs : List Bool). zip3 merged_eq xs c.args.l.now c.args.r.now) bits)
    c.merge_placed.ensures
