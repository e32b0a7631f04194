use Rattle.std.proofs.Common.{map}
use Rattle.std.specs.Fmt.{decimal}
use Rattle.std.specs.List.{range_with_len}
use Rattle.diff_tables.specs.Strings.{AreStrings}
use Rattle.diff_csv.proofs.names.number_names.Given as goal

abbrev pub invariant-loop-i : goal.invariant-loop-i
invariant-loop-i l = AreStrings l.names (map decimal (range_with_len 1 l.i))
