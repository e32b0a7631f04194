use Rattle.std.proofs.Common.{◌∙◌, map, sym, ap, rules, arith}
use Rattle.std.specs.Prelude.{option_map}
use Rattle.polars_arrays_flat.specs.StoredRows.{masked}
use Rattle.polars_arrays_bits.specs.Draft.{Draft}
use Rattle.polars_tables_rows.specs.Word.{row_from, words_of}
use Rattle.polars_tables_rows.proofs.RowLists.{long-pushed, read-row, rows-pushed}
use Rattle.polars_tables_rows.proofs.words.parse_list.Goals as goal

pub words-preserved : goal.words-preserved
words-preserved g c =
    let is_row = sym c.parse_row.ensures ∙ ap (option_map (row_from g.A.RowArray.value_row)) c.in-Some-parse_row.is in
    let flagged = ap (λ (d : Draft). d.bits) c.push_reserved.ensures in
    let left = ap (λ (d : Draft). d.room) c.push_reserved.ensures in
    let pushed = rows-pushed g.A.RowArray.value_row c.words.present.bits c.push_reserved.new.self.bits c.words.values.items c.push.new.self.items c.in-Some-parse_row.row c.is_some.result c.stored_value.result c.words.invariant.as_long flagged c.is_some.ensures c.in_ok-push.ensures.items c.stored_value.ensures in
    record {
      utf8 = search rules;
      rows = read-row g.A.RowArray.kind c.in-Some.word.now _ (masked c.words.present.bits (map g.A.RowArray.value_row c.words.values.items)) (words_of c.words.rest.now) (words_of c.in-Some.more.now) c.words.invariant.rows c.in-Some.ensures.word
          (row_from g.A.RowArray.value_row c.in-Some-parse_row.row) (masked c.push_reserved.new.self.bits (map g.A.RowArray.value_row c.push.new.self.items)) (sym c.is_bar.ensures ∙ c.if-is_bar.false) is_row pushed;
      as_long = long-pushed c.words.present.bits c.push_reserved.new.self.bits c.words.values.items c.push.new.self.items c.is_some.result c.stored_value.result c.words.invariant.as_long flagged c.in_ok-push.ensures.items;
      room = omega (arith, left, c.in-Some.ensures.shorter, c.words.invariant.room);
    }
