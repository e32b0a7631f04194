-- Each call goes on with less depth, or with the same depth at a later one of five steps.
use Rattle.std.proofs.Common.{◌+◌, ◌*◌}
use Rattle.std.specs.List.{All}
use Rattle.polars_arrays_nested.specs.GoodParts.{IsGood}
use Rattle.recorded_text.proofs.nested.+read.Given as goal

abbrev pub decreases-read_array : goal.decreases-read_array
decreases-read_array l = 5 * l.depth + 1

abbrev pub decreases-read_columns : goal.decreases-read_columns
decreases-read_columns l = 5 * l.depth + 2

abbrev pub decreases-read_dictionary : goal.decreases-read_dictionary
decreases-read_dictionary l = 5 * l.depth + 2

abbrev pub decreases-read_fixed_list : goal.decreases-read_fixed_list
decreases-read_fixed_list l = 5 * l.depth + 2

abbrev pub decreases-read_holder : goal.decreases-read_holder
decreases-read_holder l = 5 * l.depth + 4

abbrev pub decreases-read_list : goal.decreases-read_list
decreases-read_list l = 5 * l.depth + 2

abbrev pub decreases-read_struct : goal.decreases-read_struct
decreases-read_struct l = 5 * l.depth + 3

abbrev pub decreases-read_whole : goal.decreases-read_whole
decreases-read_whole l = 5 * l.depth

abbrev pub invariant-read_columns-loop : goal.invariant-read_columns-loop
invariant-read_columns-loop l = All IsGood l.values.items
