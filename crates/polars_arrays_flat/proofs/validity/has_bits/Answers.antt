use Rattle.std.proofs.Common.{rules}
use Rattle.polars_arrays_flat.proofs.validity.has_bits.Goals as goal

pub returns-in-Some : goal.returns-in-Some
returns-in-Some c = search rules
