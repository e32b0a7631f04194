use Rattle.std.proofs.Common.{◌<◌, ◌≤◌, ◌∙◌, length, arith, sym, false}
use Rattle.std.proofs.lemmas.List.{get_or-map, length-map}
use Rattle.std.proofs.Math.Nat.{mul-le-mul_right}
use denote.Param.{layout}
use prog.Memory.{size}
use Rattle.polars_arrays_bits.proofs.slices.AgainstTruthValues.value.Goals as goal

pub returns : goal.returns
returns g c =
    let self = c.args.self.now in
    let holds = λ (l : g.row.L.Denot). g.E.Comparison.holds self.comparison.now l self.right in
    let below : c.args.i < length self.left.now = omega (arith, c.requires, length-map self.left.now holds) in
    c.compare.ensures ∙ sym (get_or-map holds self.left.now c.args.i c.index-self-i.result false below)

pub bounds-self-i : goal.bounds-self-i
bounds-self-i g c = omega (arith, c.requires, length-map c.args.self.now.left.now (λ (l : g.row.L.Denot). g.E.Comparison.holds c.args.self.now.comparison.now l c.args.self.now.right))

pub offset_bounds-self-i : goal.offset_bounds-self-i
offset_bounds-self-i g c =
    let self = c.args.self.now in
    let below : c.args.i ≤ length self.left.now = omega (arith, c.requires, length-map self.left.now (λ (l : g.row.L.Denot). g.E.Comparison.holds self.comparison.now l self.right)) in
    omega (arith, mul-le-mul_right (size (layout g.row.L)) below)
