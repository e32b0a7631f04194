use Rattle.std.proofs.Common.{ap, refl}
use Rattle.polars_arrays_bytes.specs.OffsetStrings.{offset_strings}
use Rattle.diff_single.proofs.SideLemmas.{both_fit, same_naming}
use Rattle.diff_single.proofs.sides.sides_of.Goals as goal

pub returns-clause-rows : goal.returns-clause-rows
returns-clause-rows g c = record {
  naming = same_naming _ _ _ _ _ _ c.args.frame.now.colored (ap (offset_strings (λ x. x)) c.in_ok-names.ensures) c.in_ok-keys.ensures.items c.in_ok-null.ensures;
  comparables = refl;
  left = c.in_ok-left.ensures;
  right = c.in_ok-right.ensures;
}

pub returns-clause-sides : goal.returns-clause-sides
returns-clause-sides g c =
    let f = c.args.frame.now in
    let left = g.L.StringList.strings c.args.left.now.cells.now in
    let right = g.R.StringList.strings c.args.right.now.cells.now in
    both_fit f left c.args.left.now.number c.args.left.now.line right c.args.right.now.number c.args.right.now.line _ c.requires.keys c.requires.left c.requires.right (returns-clause-rows g c)
