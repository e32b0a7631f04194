use Rattle.std.proofs.Common.{◌<◌, ◌∙◌, length, ap, refl, arith}
use Rattle.std.proofs.lemmas.List.{take_all}
use Rattle.std.specs.String.{string_bytes}
use Rattle.polars_arrays_flat.specs.StoredRows.{rows_under}
use Rattle.polars_tables_rows.specs.Written.{row_words}
use Rattle.polars_tables_rows.proofs.Joins.{words_first, words_more}
use Rattle.polars_tables_rows.proofs.written.write_rows.Goals as goal
use Rattle.polars_tables_rows.proofs.written.write_rows.Goals.{then-i-gt0+in_ok-push_str, else-i-gt0}

pub loop-i-preserved : goal.loop-i-preserved
loop-i-preserved g c =
    let all = rows_under (g.A.Array.mask c.args.array.now) (g.A.Array.slots c.args.array.now) in
    let within : c.loop-i.i < length all = omega (arith, c.count-i-end.ensures.rows, c.loop-i-test.true) in
    elim c.if-i-gt0.branch [
      | then-i-gt0+in_ok-push_str w ↦
          words_more all c.loop-i.i _ _ _ _ within w.if-i-gt0.true c.loop-i.invariant (ap string_bytes w.text-is ∙ w.in_ok-push_str.ensures.bytes) refl c.in_ok-push_row.ensures
      | else-i-gt0 w ↦
          words_first all c.loop-i.i _ _ _ within (omega (arith, w.if-i-gt0.false)) (ap string_bytes w.text-is ∙ c.loop-i.invariant) refl c.in_ok-push_row.ensures
    ]

pub returns : goal.returns
returns g c =
    let all = rows_under (g.A.Array.mask c.args.array.now) (g.A.Array.slots c.args.array.now) in
    c.loop-i.invariant ∙ ap row_words (take_all c.loop-i.i all (omega (arith, c.count-i-end.ensures.rows, c.loop-i-test.false)))
