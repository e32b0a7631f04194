use Rattle.std.proofs.Common.{map, inr, refl, sym, arith, ◌∙◌}
use Rattle.polars_arrays_flat.specs.StoredRows.{rows_under}
use Rattle.polars_tables_rows.specs.Word.{words_of}
use Rattle.polars_tables_rows.proofs.RowLists.{length-mapped, too-many}
use Rattle.polars_tables_rows.proofs.words.parse_lists.Goals as goal

pub returns-then-are_rows-clause-fault : goal.returns-then-are_rows-clause-fault
returns-then-are_rows-clause-fault g c =
    let rows = λ (a : g.row.A.Denot). rows_under (g.A.Array.mask a) (g.A.Array.slots a) in
    inr (too-many _ _ g.A.RowArray.kind (words_of c.loop.rest.now) _ (map rows c.loop.lists.items) c.args.most c.loop.invariant.lists (sym c.are_rows.ensures ∙ c.if-are_rows.true) (omega (arith, length-mapped rows c.loop.lists.items, c.loop.invariant.count, c.loop.auto.counter-end, c.loop-test.false)) refl)
