-- Masks as contracts see them.
use Rattle.std.specs.Prelude.{Bool, List, Option, Some, None}
use Rattle.polars_arrays_flat.specs.declared.mask.Kept.{Kept}
use Rattle.polars_arrays_flat.specs.declared.mask.Kept.TheVariants.{All, Lent, Owned}

-- a bit for each row, 1 if it is present; None masks no row
abbrev pub kept_bits : Kept → Option (List Bool)
kept_bits All = None
kept_bits (Lent bits) = Some bits
kept_bits (Owned bits) = Some bits
