use Rattle.std.proofs.Common.{◌≡◌, ◌≤◌, length, map}
use denote.Text.{Utf8}
use denote.Shadow.{shadow}
use Rattle.polars_arrays_flat.specs.StoredRows.{masked}
use Rattle.polars_tables_rows.specs.Word.{words_of, lists_of}
use Rattle.polars_tables_rows.proofs.RowLists.{in_front}
use Rattle.polars_tables_rows.proofs.words.parse_list.Given as goal

abbrev pub invariant-words : goal.invariant-words
invariant-words g l = record {
  utf8 : shadow (Utf8 l.rest);
  rows : lists_of g.A.RowArray.kind (words_of l.text) ≡ in_front (masked l.present.bits (map g.A.RowArray.value_row l.values.items)) (lists_of g.A.RowArray.kind (words_of l.rest));
  as_long : length l.present.bits ≡ length l.values.items;
  room : length l.rest ≤ l.present.room;
}

abbrev pub decreases-words : goal.decreases-words
decreases-words g l = length l.rest
