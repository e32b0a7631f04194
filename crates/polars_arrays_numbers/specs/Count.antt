-- The count of a counter.
use Rattle.std.specs.Prelude.{ℕ, ◌+◌}
use Rattle.polars_arrays_numbers.specs.declared.steps.Past.{Past, Start, After'}

-- the sum of the numbers added
abbrev pub count : Past → ℕ
count Start = 0
count (After' n _ before) = count before + n.value
