use Rattle.std.proofs.Common.{map, take}
use Rattle.std.specs.List.{All}
use Rattle.json_decimals.specs.Texts.{normal_number}
use Rattle.polars_arrays_bytes.specs.OffsetStrings.{offset_strings}
use Rattle.diff_tables.specs.Strings.{AreStrings}
use Rattle.schema_values.specs.Numbers.{IsNarrow}
use Rattle.schema_values.proofs.normal.normal_texts.Given as goal

abbrev pub invariant-loop-i : goal.invariant-loop-i
invariant-loop-i l = AreStrings l.texts (map normal_number (take l.i (offset_strings (λ x. x) l.cells))) × All IsNarrow (take l.i (offset_strings (λ x. x) l.cells))
