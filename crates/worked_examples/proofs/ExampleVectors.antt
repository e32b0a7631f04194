-- Vectors and loans of the worked examples. They lie nowhere: no definition looks at an address.
use Rattle.std.proofs.Common.{◌<◌, ◌^◌, List, length, arith, refl, Global}
use Rattle.std.specs.Borrow.{Bor}
use Rattle.std.specs.Prelude.{Vec}
use denote.RawPtr.{null_ptr}

-- a vector of these elements
abbrev pub vector : {X : Type 0} → (xs : List X) → length xs < 2 ^ 63 → Vec X Global
vector xs small = record {
  ptr = null_ptr;
  len = length xs;
  cap = length xs;
  alloc = record { memory = record { seal = tt } };
  items = xs;
  ok = (refl, omega arith);
  small = small;
}

-- what is lent
abbrev pub lent : {A : Type 0} → A → Bor A
lent x = record { ref_ptr = (0, 0); now = x }
