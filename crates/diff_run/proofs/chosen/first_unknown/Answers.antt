use Rattle.std.proofs.Common.{◌≡◌, true, List, ℕ, [], arith, sym, subst, below_more, rules}
use Rattle.std.proofs.lemmas.List.{get_or-map, length-map}
use Rattle.polars_arrays_bytes.specs.OffsetStrings.{offset_strings}
use Rattle.diff_columns.specs.Names.{IsKnown, name_at}
use Rattle.diff_columns.proofs.NameLemmas.{all_meet}
use Rattle.diff_tolerances.specs.declared.cells.Tolerance.{Tolerance}
use Rattle.diff_run.specs.Chosen.{columns_of}
use Rattle.diff_run.proofs.chosen.first_unknown.Goals as goal

pub loop-k-preserved : goal.loop-k-preserved
loop-k-preserved c =
    let left = offset_strings (λ x. x) c.args.left.now in
    let right = offset_strings (λ x. x) c.args.right.now in
    let known : c.is_known.result ≡ true = search rules in
    below_more (λ k. IsKnown left right (name_at (columns_of c.args.tolerances.now) k)) c.loop-k.k c.loop-k.invariant
    (subst (λ name. IsKnown left right name) (sym (get_or-map (λ (t : Tolerance). t.column.now) c.args.tolerances.now c.loop-k.k c.index-tolerances-k.result [] (omega arith))) (c.is_known.ensures.0 known))

pub returns : goal.returns
returns c =
    all_meet (IsKnown (offset_strings (λ x. x) c.args.left.now) (offset_strings (λ x. x) c.args.right.now)) (columns_of c.args.tolerances.now) c.loop-k.k
    (omega (arith, length-map c.args.tolerances.now (λ (t : Tolerance). t.column.now))) c.loop-k.invariant
