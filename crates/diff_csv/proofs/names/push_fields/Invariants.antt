use Rattle.std.proofs.Common.{◌≡◌, ◌++◌, ℕ, List, take}
use Rattle.csv.specs.Records.{fields_of}
use Rattle.diff_tables.specs.Strings.{AreStrings}
use Rattle.diff_csv.proofs.names.push_fields.Given as goal

abbrev pub invariant-loop-field : goal.invariant-loop-field
invariant-loop-field l = record {
  row : l.field-iterator.row.now ≡ l.fn.row;
  pushed : (all : List (List ℕ)) → AreStrings l.fn.strings all → AreStrings l.strings (all ++ take l.field-iterator.at (fields_of l.fn.row));
}
