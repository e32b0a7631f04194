use Rattle.std.proofs.Common.{◌≡◌, suc, arith}
use Rattle.document_report.proofs.DocumentLemmas.{document_in}
use Rattle.document_report.proofs.documents.changes_at.Goals as goal

pub changes_between-requires-clause-left : goal.changes_between-requires-clause-left
changes_between-requires-clause-left c =
    let t = c.args.sides.now.left.table in
    let width : t.width ≡ suc c.len-place.result = omega (arith, c.requires.sides.left.width) in
    document_in t c.args.i c.len-place.result _ c.requires.documents.left c.requires.left width c.cell-left.ensures

pub changes_between-requires-clause-right : goal.changes_between-requires-clause-right
changes_between-requires-clause-right c =
    let t = c.args.sides.now.right.table in
    let width : t.width ≡ suc c.len-place.result = omega (arith, c.requires.sides.right.width) in
    document_in t c.args.j c.len-place.result _ c.requires.documents.right c.requires.right width c.cell-right.ensures
