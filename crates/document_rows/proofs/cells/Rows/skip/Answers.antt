use Rattle.std.proofs.Common.{refl}
use Rattle.document_rows.proofs.RowLemmas.{row_skipped}
use Rattle.document_rows.proofs.cells.Rows.skip.Goals as goal

pub returns : goal.returns
returns c = λ reading keys lines line passes other number_is h.
    row_skipped reading keys lines line c.args.number c.args.self.now (record { cells = c.args.self.now.cells; lines = c.args.self.now.lines; skipped = c.push.new.self }) passes other number_is h
    refl refl c.in_ok-push.ensures.items
