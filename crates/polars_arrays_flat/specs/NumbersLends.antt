-- The value of an array of numbers after a mutable borrow of its stored values.
use Rattle.std.specs.Prelude.{List, length, Option}
use Rattle.std.specs.Borrow.{Fml, RattleType, MutBor, Array, Lends, LendsIf}
use Rattle.std.specs.List.{refill}
use Rattle.polars_arrays_flat.specs.Numbers.{Numbers}
use Rattle.polars_arrays_flat.specs.contracts.primitive.PrimitiveArray.{the_row}

-- a with ws as its stored values, padded or cut to a's length
abbrev pub with_values : {A : Type 0} → Numbers A → List A → Numbers A
with_values a ws = record a { values = refill (length a.values) a.values ws }

module _ (T : RattleType) (a : MutBor (Numbers T.Denot)) where
  -- the stored values are those last written through r
  abbrev pub lends_values : MutBor (List T.Denot) → Fml
  lends_values r = Lends (the_row T) (Array T 0) a r (with_values a.now)

  -- the stored values are those last written through r; with r None the array is unchanged
  abbrev pub lends_values_if : Option (MutBor (List T.Denot)) → Fml
  lends_values_if r = LendsIf (the_row T) (Array T 0) a r (with_values a.now) a.now
