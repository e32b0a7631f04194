use Rattle.std.proofs.Common.{◌∙◌, sym}
use Rattle.std.proofs.lemmas.List.{length-map}
use Rattle.diff_tables.specs.Keys.{row_key, row_keys}
use Rattle.diff_tolerances.proofs.PartnerLemmas.{partners_found, right_within}
use Rattle.diff_tolerances.proofs.partners.partners_of.Goals as goal

pub rows_beside-requires-clause-within : goal.rows_beside-requires-clause-within
rows_beside-requires-clause-within c =
    right_within (row_keys c.args.columns.now c.args.left.now.rows) (row_keys c.args.columns.now c.args.right.now.rows) c.in_ok-matching.matching c.count.result c.deref-2.result.now c.deref-2.ensures.value
    (length-map c.args.right.now.rows (row_key c.args.columns.now) ∙ sym c.count.ensures) c.in_ok-matching.ensures

pub returns-in-Ok : goal.returns-in-Ok
returns-in-Ok c =
    partners_found (row_keys c.args.columns.now c.args.left.now.rows) (row_keys c.args.columns.now c.args.right.now.rows) c.in_ok-matching.matching c.count.result c.deref.result.now c.deref-2.result.now c.in-Ok.partners.items
    c.deref.ensures.value c.deref-2.ensures.value c.in-Ok.ensures (length-map c.args.right.now.rows (row_key c.args.columns.now) ∙ sym c.count.ensures) c.in_ok-matching.ensures
