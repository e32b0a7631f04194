use Rattle.std.proofs.Common.{◌≡◌, arith}
use Rattle.std.proofs.lemmas.Result.{IfOk-weaker}
use Rattle.diff_tables.proofs.AlikeLemmas.{but_as, rows_named, same_rows}
use Rattle.diff_tables.proofs.table.Table.unlike_pairs.Goals as goal

pub unlike_pairs-requires : goal.unlike_pairs-requires
unlike_pairs-requires c =
    let width : c.self.inside.width ≡ c.other.inside.width = rw (← c.self.view_is, ← c.other.view_is) at c.requires.width in
    record {
      one_length = c.requires.pairs.one_length;
      rows = rows_named c.self.inside.width c.self.inside.count c.self.inside.cells.strings c.args.rows.now c.self.invariant (rw (← c.self.view_is) at c.requires.pairs.left_within);
      other_rows = rw width (rows_named c.other.inside.width c.other.inside.count c.other.inside.cells.strings c.args.other_rows.now c.other.invariant (rw (← c.other.view_is) at c.requires.pairs.right_within));
    }

pub returns : goal.returns
returns c =
    let width : c.self.inside.width ≡ c.other.inside.width = rw (← c.self.view_is, ← c.other.view_is) at c.requires.width in
    let left_within = rw (← c.self.view_is) at c.requires.pairs.left_within in
    let right_within = rw (← c.other.view_is) at c.requires.pairs.right_within in
    rw (← c.self.view_is, ← c.other.view_is) (IfOk-weaker c.unlike_pairs.result _ _
    (λ places h. but_as _ _ _ places.items
    (λ p within same. same_rows c.self.inside.width c.other.inside.width c.self.inside.count c.other.inside.count c.self.inside.cells.strings c.other.inside.cells.strings
    c.args.rows.now c.args.other_rows.now p width (left_within p within) (right_within p (omega (arith, within, c.requires.pairs.one_length))) same) h)
    c.unlike_pairs.ensures)
