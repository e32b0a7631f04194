use Rattle.std.proofs.Common.{sym}
use Rattle.diff_tables.proofs.TableLemmas.{length_cut}
use Rattle.diff_tables.proofs.table.Table.count.Goals as goal

pub returns : goal.returns
returns c = rw (← c.self.view_is) (sym (length_cut c.self.inside.width c.self.inside.count c.self.inside.cells.strings))
