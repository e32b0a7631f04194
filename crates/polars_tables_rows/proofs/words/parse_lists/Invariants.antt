use Rattle.std.proofs.Common.{◌≡◌, ◌++◌, length, map}
use Rattle.std.specs.Prelude.{option_map}
use denote.Text.{Utf8}
use denote.Shadow.{shadow}
use Rattle.polars_arrays_flat.specs.StoredRows.{rows_under}
use Rattle.polars_tables_rows.specs.Word.{words_of, lists_of}
use Rattle.polars_tables_rows.proofs.words.parse_lists.Given as goal

abbrev pub invariant-loop : goal.invariant-loop
invariant-loop g l = record {
  utf8 : shadow (Utf8 l.rest);
  lists : lists_of g.A.RowArray.kind (words_of l.text) ≡ option_map (λ more. map (λ a. rows_under (g.A.Array.mask a) (g.A.Array.slots a)) l.lists.items ++ more) (lists_of g.A.RowArray.kind (words_of l.rest));
  count : length l.lists.items ≡ l.counter;
}
