use Rattle.std.proofs.Common.{rules, ◌≡◌, ◌≤◌, length, sym, arith, take_all}
use Rattle.std.specs.List.{zip}
use Rattle.polars_compute_arithmetic.proofs.Zips.{all_zip_pair, length_zip}
use Rattle.polars_compute_arithmetic.proofs.arity.map_pairs.Goals as goal

pub loop-i-preserved : goal.loop-i-preserved
loop-i-preserved g c = record {
  mapped = rw c.push_reserved.ensures.items (all_zip_pair _ _ _ _ _ _ _ _ (sym c.requires.same_length) c.loop-i-test.true c.index-left-i.is c.index-right-i.is c.loop-i.invariant.mapped c.op.ensures);
  so_far = search rules;
  room = search rules;
}

pub returns : goal.returns
returns g c =
    let h : length (zip c.args.left.now c.args.right.now) ≡ length c.args.left.now = length_zip _ _ (sym c.requires.same_length) in
    let k : length (zip c.args.left.now c.args.right.now) ≤ c.loop-i.i = omega arith in
    rw (take_all _ _ k) at c.loop-i.invariant.mapped
