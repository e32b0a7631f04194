use Rattle.std.proofs.Common.{Bool, ◌&&◌, count_by, ap, ◌∙◌}
use Rattle.polars_arrays_bits.proofs.Windows.{aligned, shifted, zip2-last}
use Rattle.polars_arrays_bits.proofs.bitmap.Bitmap.count_both.Goals as goal

pub returns-then-self-eq0 : goal.returns-then-self-eq0
returns-then-self-eq0 g c = c.count_bits.ensures ∙ ap (count_by (λ (b : Bool). b)) (zip2-last ◌&&◌ (g.A.BitSource.bit c.args.left) _ c.self.inside.len c.args.self.now (aligned c.self.inside.at c.self.inside.len c.self.inside.words.items c.as_slice-words.result.now c.args.self.now c.if-self-eq0.true c.as_slice-words.ensures c.self.view_is))

pub returns : goal.returns
returns g c = c.count_bits-2.ensures ∙ ap (count_by (λ (b : Bool). b)) (zip2-last ◌&&◌ (g.A.BitSource.bit c.args.left) _ c.self.inside.len c.args.self.now (shifted c.self.inside.at c.self.inside.len c.self.inside.words.items c.as_slice-words.result.now c.args.self.now c.as_slice-words.ensures c.self.view_is))
