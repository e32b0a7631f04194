-- Two windows of arrays.
use Rattle.std.specs.Prelude.{◌+◌, ◌≤◌}
use Rattle.polars_arrays_nested.specs.GoodParts.{IsGood}
use Rattle.polars_arrays_nested.specs.Lengths.{len_of}
use Rattle.recorded_kernels.specs.declared.windows.Windows.{Windows}

-- both arrays are made of good parts, and the windows lie within them
pub record AreWindows (windows : Windows) : Type 0 where
  pub good_left : IsGood windows.left.now
  pub good_right : IsGood windows.right.now
  pub left_in : windows.a + windows.n ≤ len_of windows.left.now
  pub right_in : windows.b + windows.n ≤ len_of windows.right.now
