-- The frame that the differences of two tables share.
--
-- The frame of the columns id and city with the key id names a row 77, Oslo by id=77.
use Rattle.std.specs.Option.{option_map}
use Rattle.std.specs.Prelude.{◌≡◌, ◌<◌, None, length}
use Rattle.polars_arrays_bytes.specs.OffsetStrings.{offset_strings}
use Rattle.diff_report.specs.Naming.{Naming}
use Rattle.diff_report.specs.Sides.{naming_of}
use Rattle.diff_report.specs.declared.sides.Sides.{Sides}
use Rattle.diff_single.specs.declared.frame.Frame.{Frame}

-- the names by which a frame names rows and cells
abbrev pub naming_by : Frame → Naming
naming_by f =
    record {
      names = offset_strings (λ x. x) f.names.now;
      keys = f.keys.now;
      null = option_map
          (λ v. v.now) f.null;
      colored = f.colored;
    }

-- two tables have this frame: their rows are named by keys, and compared as they are
pub record IsFrameOf (f : Frame) (s : Sides) : Type 0 where
  pub naming : naming_of s ≡ naming_by f
  pub left : s.left.name.items ≡ f.left.now
  pub right : s.right.name.items ≡ f.right.now
  pub keyed : 0 < length f.keys.now
  pub comparables : s.comparables ≡ None
