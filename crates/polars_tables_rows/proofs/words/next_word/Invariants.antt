use Rattle.std.proofs.Common.{◌≡◌, ◌≤◌, length}
use denote.Text.{Utf8}
use denote.Shadow.{shadow}
use Rattle.polars_tables_rows.specs.Word.{words_of}
use Rattle.polars_tables_rows.proofs.words.next_word.Given as goal

abbrev pub invariant-parts : goal.invariant-parts
invariant-parts l = record {
  utf8 : shadow (Utf8 l.rest);
  words : words_of l.text ≡ words_of l.rest;
  within : length l.rest ≤ length l.text;
}

abbrev pub decreases-parts : goal.decreases-parts
decreases-parts l = length l.rest
