use Rattle.std.proofs.Common.{◌≡◌, length}
use Rattle.std.specs.Prelude.{is_some}
use denote.Text.{Utf8}
use denote.Shadow.{shadow}
use Rattle.polars_tables_rows.specs.Word.{words_of, lists_of}
use Rattle.polars_tables_rows.proofs.words.are_rows.Given as goal

abbrev pub invariant-words : goal.invariant-words
invariant-words g l = record {
  utf8 : shadow (Utf8 l.rest);
  rows : is_some (lists_of g.A.RowArray.kind (words_of l.text)) ≡ is_some (lists_of g.A.RowArray.kind (words_of l.rest));
}

abbrev pub decreases-words : goal.decreases-words
decreases-words g l = length l.rest
