use Rattle.std.proofs.Common.{◌∙◌, ◌-◌, ap, arith, drop, length, refl, rules, take, true}
use Rattle.std.proofs.lemmas.List.{length-drop, length-replicate}
use Rattle.std.specs.Prelude.{slice_index_or}
use Rattle.arrow_equality.specs.Structs.{AddsField}
use Rattle.arrow_equality.proofs.StructColumns.{fields-on, no-fields}
use Rattle.arrow_equality.proofs.structs.compare_fields.Goals as goal

pub loop-k-init : goal.loop-k-init
loop-k-init g c =
    let n = length c.args.left.now in
    record {
      within = omega arith;
      size = ap length c.in_ok-bits.ensures ∙ length-replicate c.args.rows true;
      fields = no-fields (drop n c.args.left.now) (drop n c.args.right.now) _ c.args.rows (omega (arith, length-drop n c.args.left.now)) (omega (arith, c.requires, length-drop n c.args.right.now)) c.in_ok-bits.ensures refl;
    }

pub loop-k-preserved : goal.loop-k-preserved
loop-k-preserved g c =
    let start = slice_index_or c.args.starts.now (length c.args.starts.now - 1 - c.loop-k.k) 0 in
    let end = c.loop-k.end in
    let adds : AddsField (take (end - start) (drop start c.args.left.now)) (take (end - start) (drop start c.args.right.now)) c.loop-k.compared c.in-Some.more = search rules in
    record {
      within = omega (arith, c.if-start-end.false, c.loop-k.invariant.within);
      size = adds.one_length ∙ c.loop-k.invariant.size;
      fields = fields-on c.args.left.now c.args.right.now start end c.loop-k.k c.loop-k.compared c.in-Some.more c.if-start-end.false adds c.loop-k.invariant.fields;
    }
