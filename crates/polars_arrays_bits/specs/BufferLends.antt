-- The value of a buffer after its elements were mutably borrowed.
use Rattle.std.specs.Prelude.{List, length, Option}
use Rattle.std.specs.Borrow.{Fml, RattleType, MutBor, Array, Lends, LendsIf}
use Rattle.std.specs.List.{refill}
use Rattle.polars_arrays_bits.specs.Buffer.{Elements}
use Rattle.polars_arrays_bits.specs.contracts.buffer.Buffer.{the_row}

-- the buffer b with ws as its elements: cut to b's length, or followed by the last elements of b
abbrev pub with_elements : {A : Type 0} → Elements A → List A → Elements A
with_elements b ws = record { items = refill (length b.items) b.items ws; owned = b.owned }

module _ (T : RattleType) (b : MutBor (Elements T.Denot)) where
  -- once the mutable borrow r ends, the elements of b are those last written through r
  abbrev pub lends_elements : MutBor (List T.Denot) → Fml
  lends_elements r = Lends (the_row T) (Array T 0) b r (with_elements b.now)

  -- once r ends, the elements of b are those last written through r; if r is None, b is unchanged
  abbrev pub lends_elements_if : Option (MutBor (List T.Denot)) → Fml
  lends_elements_if r = LendsIf (the_row T) (Array T 0) b r (with_elements b.now) b.now
