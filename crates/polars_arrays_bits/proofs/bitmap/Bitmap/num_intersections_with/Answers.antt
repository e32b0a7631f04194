use Rattle.std.proofs.Common.{List, Bool, ◌&&◌, count_by, ap, ◌∙◌}
use Rattle.std.specs.Simd.Lanes.{zip2}
use Rattle.polars_arrays_bits.proofs.Windows.{aligned, shifted, first-as_long}
use Rattle.polars_arrays_bits.proofs.bitmap.Bitmap.num_intersections_with.Goals as goal

pub returns-then-self-eq0 : goal.returns-then-self-eq0
returns-then-self-eq0 c = c.count_both.ensures ∙ ap (λ (xs : List Bool). count_by (λ (b : Bool). b) (zip2 ◌&&◌ xs c.args.other.now)) (first-as_long _ _ _ c.args.self.now (aligned c.self.inside.at c.self.inside.len c.self.inside.words.items c.as_slice-words.result.now c.args.self.now c.if-self-eq0.true c.as_slice-words.ensures c.self.view_is) c.requires)

pub returns : goal.returns
returns c = c.count_both-2.ensures ∙ ap (λ (xs : List Bool). count_by (λ (b : Bool). b) (zip2 ◌&&◌ xs c.args.other.now)) (first-as_long _ _ _ c.args.self.now (shifted c.self.inside.at c.self.inside.len c.self.inside.words.items c.as_slice-words.result.now c.args.self.now c.as_slice-words.ensures c.self.view_is) c.requires)
