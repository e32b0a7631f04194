use Rattle.std.proofs.Common.{refl}
use Rattle.document_rows.proofs.DocumentLemmas.{row_of}
use Rattle.document_rows.proofs.KnownLemmas.{copy_kept}
use Rattle.document_rows.proofs.cells.Rows.push_copy.Goals as goal

pub push_cells-requires-clause-width : goal.push_cells-requires-clause-width
push_cells-requires-clause-width c = (row_of c.args.table.now c.requires.documents c.args.row c.requires.row).width

pub returns : goal.returns
returns c = λ reading keys lines docs number_is h.
    copy_kept reading keys lines c.args.table.now c.args.row c.args.number c.args.self.now (record { cells = c.push_cells.new.cells; lines = c.push.new.self; skipped = c.args.self.now.skipped }) docs c.requires.row number_is h
    (λ strings held. c.in_ok-push_cells.ensures strings held) c.in_ok-push.ensures.items refl
