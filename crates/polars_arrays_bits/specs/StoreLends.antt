-- The value of a store after a window of its elements was mutably borrowed.
use Rattle.std.specs.Prelude.{ℕ, List}
use Rattle.std.specs.Borrow.{Fml, RattleType, MutBor, Array, Lends}
use Rattle.std.specs.Vec.{with_items_from}
use Rattle.polars_arrays_bits.specs.declared.buffer.Store.{Store}
use Rattle.polars_arrays_bits.specs.declared.buffer.Store.TheVariants.{Owned, Shared}
use Rattle.polars_arrays_bits.specs.contracts.buffer.Store.{the_row}

-- a vector with ws written over its elements from `start` on; a shared slice is unchanged
abbrev pub written_from : {A : Type 0} → Store A → ℕ → List A → Store A
written_from (Owned elements) start ws = Owned (with_items_from elements start ws)
written_from (Shared elements) start ws = Shared elements

module _ (T : RattleType) (s : MutBor (Store T.Denot)) where
  -- once the borrow r ends, the elements of s from `start` on are those last written through r
  abbrev pub lends_window : ℕ → MutBor (List T.Denot) → Fml
  lends_window start r = Lends (the_row T) (Array T 0) s r (written_from s.now start)
