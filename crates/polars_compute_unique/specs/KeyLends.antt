-- The value of a state of dictionary keys after the state of its keys was borrowed mutably.
use Rattle.std.specs.Borrow.{Fml, MutBor, Lends, u32}
use Rattle.std.specs.contracts.prelude.U32Add.TheImpl.{ghosts as add}
use Rattle.std.specs.contracts.prelude.U32Ord.TheImpl.{ghosts as ord}
use Rattle.std.specs.contracts.prelude.U32PartialEq.TheImpl.{ghosts as eq}
use Rattle.std.specs.contracts.prelude.U32PartialOrd.TheImpl.{ghosts as partial_ord}
use Rattle.num_traits.specs.contracts.impls.u32.U32Bounded.TheImpl.{ghosts as bounded}
use Rattle.num_traits.specs.contracts.impls.u32.U32FixedWidth.TheImpl.{ghosts as fixed_width}
use Rattle.num_traits.specs.contracts.impls.u32.U32Number.TheImpl.{ghosts as number}
use Rattle.num_traits.specs.contracts.impls.u32.U32Zero.TheImpl.{ghosts as zero}
use Rattle.polars_compute_slots.specs.State.{State}
use Rattle.polars_compute_unique.specs.KeyState.{KeyState}
use Rattle.polars_compute_unique.specs.contracts.dictionary.DictionaryRangedUniqueState.{the_row}
use Rattle.polars_compute_unique.specs.contracts.primitive.PrimitiveRangedUniqueState.{
  the_row as keys_row,
}

-- the state of the keys is the one last written through the reference that `key_state` returns
abbrev pub lends_keys : MutBor KeyState → MutBor State → Fml
lends_keys s r =
    Lends the_row (keys_row u32 ord eq partial_ord bounded number fixed_width zero add) s r
    (λ keys. record s.now { keys = keys })
