-- Lists have no extremes, whichever offsets they have.
use Rattle.std.proofs.Common.{◌≡◌, false, refl}
use Rattle.polars_arrays_flat.specs.Kind.{Kind}
use Rattle.polars_arrays_nested.specs.Types.{kind_of_lists}
use Rattle.polars_arrays_nested.specs.declared.list_offsets.ListOffsets.{ListOffsets}
use Rattle.polars_arrays_nested.specs.declared.list_offsets.ListOffsets.TheVariants.{Small, Large}
use Rattle.polars_compare_extremes.specs.Scalars.{has_extremes}

pub lists_have_none : (offsets : ListOffsets) (item : Kind) → has_extremes (kind_of_lists offsets item) ≡ false
lists_have_none (Small offsets) item = refl
lists_have_none (Large offsets) item = refl

pub ruleset no_extremes = (lists_have_none)
