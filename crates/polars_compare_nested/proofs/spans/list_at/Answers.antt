use Rattle.std.proofs.Common.{◌+◌, ◌-◌, ◌∙◌, ℕ, sym, ap₂, arith}
use Rattle.polars_compare_nested.proofs.OffsetPlaces.{read_place, read_start}
use Rattle.polars_compare_nested.proofs.spans.list_at.Goals as goal

pub place-from-requires : goal.place-from-requires
place-from-requires g c =
    let read = c.index-offsets-i in
    (c.type_bounds.static-O, λ none. c.requires.good.0 (sym (read_place g.O.Number.value c.args.offsets.now c.args.i read.result (omega arith) read.is) ∙ none))

pub place-to-requires : goal.place-to-requires
place-to-requires g c =
    let read = c.index-offsets-i-2 in
    (c.type_bounds.static-O, λ none. c.requires.good.1 (sym (read_place g.O.Number.value c.args.offsets.now (c.args.i + 1) read.result (omega arith) read.is) ∙ none))

pub overflow_sub-result : goal.overflow_sub-result
overflow_sub-result g c =
    let from = read_start g.O.Number.value c.args.offsets.now c.args.i c.index-offsets-i.result c.place-from.result (omega arith) c.index-offsets-i.is c.place-from.ensures in
    let to = read_start g.O.Number.value c.args.offsets.now (c.args.i + 1) c.index-offsets-i-2.result c.place-to.result (omega arith) c.index-offsets-i-2.is c.place-to.ensures in
    omega (arith, from, to, c.requires.good.2)

pub returns-clause-start : goal.returns-clause-start
returns-clause-start g c =
    sym (read_start g.O.Number.value c.args.offsets.now c.args.i c.index-offsets-i.result c.place-from.result (omega arith) c.index-offsets-i.is c.place-from.ensures)

pub returns-clause-count : goal.returns-clause-count
returns-clause-count g c =
    let from = read_start g.O.Number.value c.args.offsets.now c.args.i c.index-offsets-i.result c.place-from.result (omega arith) c.index-offsets-i.is c.place-from.ensures in
    let to = read_start g.O.Number.value c.args.offsets.now (c.args.i + 1) c.index-offsets-i-2.result c.place-to.result (omega arith) c.index-offsets-i-2.is c.place-to.ensures in
    ap₂ (λ (x y : ℕ). x - y) (sym to) (sym from)
