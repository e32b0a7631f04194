use Rattle.std.proofs.Common.{◌≡◌, ◌<◌, ◌+◌, arith, length, rules, subst}
use Rattle.std.proofs.lemmas.List.Elements.{All-get_or}
use Rattle.diff_tolerances.specs.Partners.{AreBeside}
use Rattle.diff_tolerances.proofs.PartnerLemmas.{one_found}
use Rattle.diff_tolerances.proofs.partners.rows_beside.Goals as goal

pub loop-k-preserved : goal.loop-k-preserved
loop-k-preserved c =
    one_found c.args.left_rows.now c.args.right_rows.now c.args.count c.loop-k.k (c.loop-k.k + 1) c.loop-k.found.items c.loop-k.invariant
    (All-get_or (λ j. j < c.args.count) c.args.right_rows.now c.loop-k.k 0 (search rules) c.requires.within) (omega arith)

pub returns : goal.returns
returns c =
    let end : c.loop-k.k ≡ length c.args.right_rows.now = omega arith in
    subst (λ k. AreBeside c.args.left_rows.now c.args.right_rows.now c.args.count k c.loop-k.found.items) end c.loop-k.invariant
