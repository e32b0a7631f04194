use Rattle.std.proofs.Common.{◌<◌, ◌+◌, ◌*◌, ◌∙◌, length, arith}
use Rattle.diff_tables.proofs.TableLemmas.{cell_cut, length_cut, place_within}
use Rattle.diff_tables.proofs.table.Table.cell.Goals as goal

pub overflow_mul-self-inside : goal.overflow_mul-self-inside
overflow_mul-self-inside c =
    let place : c.self.inside.width * c.args.i + c.args.c < length c.self.inside.cells.strings =
    place_within c.self.inside.width c.self.inside.count c.args.i c.args.c c.self.inside.cells.strings c.self.invariant (rw (← c.self.view_is) at c.requires.row) (rw (← c.self.view_is) at c.requires.column) in
    omega (arith, place, c.count-cells.ensures)

pub overflow_add-self-inside : goal.overflow_add-self-inside
overflow_add-self-inside c =
    let place : c.self.inside.width * c.args.i + c.args.c < length c.self.inside.cells.strings =
    place_within c.self.inside.width c.self.inside.count c.args.i c.args.c c.self.inside.cells.strings c.self.invariant (rw (← c.self.view_is) at c.requires.row) (rw (← c.self.view_is) at c.requires.column) in
    omega (arith, place, c.count-cells.ensures)

pub value-requires : goal.value-requires
value-requires c =
    place_within c.self.inside.width c.self.inside.count c.args.i c.args.c c.self.inside.cells.strings c.self.invariant (rw (← c.self.view_is) at c.requires.row) (rw (← c.self.view_is) at c.requires.column)

pub returns : goal.returns
returns c =
    let row : c.args.i < c.self.inside.count = omega (arith, length_cut c.self.inside.width c.self.inside.count c.self.inside.cells.strings, rw (← c.self.view_is) at c.requires.row) in
    rw (← c.self.view_is) (c.value.ensures ∙ cell_cut c.self.inside.width c.self.inside.count c.args.i c.args.c c.self.inside.cells.strings row (rw (← c.self.view_is) at c.requires.column))
