-- Bits of a comparison of n rows from row a of the left array with those from row b of the right
-- one.
use Rattle.std.specs.Prelude.{◌≡◌, ◌+◌, ◌<◌, ◌&&◌, ℕ, Bool, false, IsTrue, List, Option, length}
use Rattle.std.specs.Prelude.{slice_index_or}
use Rattle.std.specs.Simd.Lanes.{zip2}
use Rattle.polars_arrays_words.specs.Bits.{first_of, is_bit}
use Rattle.polars_arrays_flat.specs.Row.{Row}
use Rattle.polars_arrays_flat.specs.Validity.{is_present}
use Rattle.polars_arrays_nested.specs.AnyRows.{row}
use Rattle.polars_arrays_nested.specs.Masks.{mask_of}
use Rattle.polars_arrays_nested.specs.declared.any_array.AnyArray.{AnyArray}
use Rattle.polars_compare_leaves.specs.Sameness.{same}

-- row a + i of the left array and row b + i of the right one are both present
abbrev pub BothPresent : AnyArray → ℕ → AnyArray → ℕ → ℕ → Type 0
BothPresent left a right b i =
    IsTrue (is_present (mask_of left) (a + i)) × IsTrue (is_present (mask_of right) (b + i))

-- each bit says whether two rows are the same; leaf rows are if they `agree`
pub record SameBits (agree : Row → Row → Bool) (left : AnyArray) (a : ℕ) (right : AnyArray)
    (b n : ℕ) (bits : List Bool) : Type 0 where
  pub size : length bits ≡ n
  pub at_each : (i : ℕ) → i < n → slice_index_or bits i false
      ≡ same agree (row left (a + i)) (row right (b + i))

-- each bit of two present rows says whether they are the same; other bits are arbitrary
pub record RawBits (agree : Row → Row → Bool) (left : AnyArray) (a : ℕ) (right : AnyArray) (b n : ℕ)
    (bits : List Bool) : Type 0 where
  pub size : length bits ≡ n
  pub at_present : (i : ℕ) → i < n → BothPresent left a right b i
      → slice_index_or bits i false ≡ same agree (row left (a + i)) (row right (b + i))

-- each bit of two present rows says whether they agree; `left` and `right` give rows by place
pub record PresentBits (agree : Row → Row → Bool) (left : ℕ → Row) (left_mask : Option (List Bool))
    (a : ℕ) (right : ℕ → Row) (right_mask : Option (List Bool)) (b n : ℕ) (bits : List Bool) :
    Type 0 where
  pub size : length bits ≡ n
  pub at_present : (i : ℕ) → i < n → IsTrue (is_present left_mask (a + i))
      × IsTrue (is_present right_mask (b + i))
      → slice_index_or bits i false ≡ agree (left (a + i)) (right (b + i))

-- each bit of two present leaf rows says whether they agree
abbrev pub LeafBits : (Row → Row → Bool) → AnyArray → ℕ → AnyArray → ℕ → ℕ → List Bool → Type 0
LeafBits agree left a right b n =
    PresentBits agree (row left) (mask_of left) a (row right) (mask_of right) b n

-- the n lowest bits of a word are `LeafBits`
abbrev pub LeafWord : (Row → Row → Bool) → AnyArray → ℕ → AnyArray → ℕ → ℕ → ℕ → Type 0
LeafWord agree left a right b n word = LeafBits agree left a right b n (first_of (is_bit word) n)

-- `new` is `old` AND some bits `same` for which `Bits` holds
pub record JoinsBits (Bits : List Bool → Type 0) (old new : List Bool) : Type 0 where
  pub same : List Bool
  pub told : Bits same
  pub joined : new ≡ zip2 ◌&&◌ old same

-- each bit is cleared if the two leaf rows at its place do not agree; if a row is masked, the bit
-- may be cleared or not
abbrev pub JoinsLeafBits : (Row → Row → Bool) → AnyArray → ℕ → AnyArray → ℕ → List Bool → List Bool
    → Type 0
JoinsLeafBits agree left a right b old = JoinsBits (LeafBits agree left a right b (length old)) old

-- if both rows are present, the bit says whether they agree; `left` and `right` give rows by place
pub record PresentBit (agree : Row → Row → Bool) (left : ℕ → Row) (left_mask : Option (List Bool))
    (a : ℕ) (right : ℕ → Row) (right_mask : Option (List Bool)) (b : ℕ) (bit : Bool) : Type 0 where
  pub at_present : IsTrue (is_present left_mask a) × IsTrue (is_present right_mask b) → bit
      ≡ agree (left a) (right b)

-- if two leaf rows are both present, the bit says whether they agree
abbrev pub LeafBit : (Row → Row → Bool) → AnyArray → ℕ → AnyArray → ℕ → Bool → Type 0
LeafBit agree left a right b =
    PresentBit agree (row left) (mask_of left) a (row right) (mask_of right) b

-- bits for n rows are appended; those of present rows say whether they are the same
pub record AddsRawBits (agree : Row → Row → Bool) (left : AnyArray) (a : ℕ) (right : AnyArray)
    (b n : ℕ) (old new : List Bool) : Type 0 where
  pub size : length new ≡ length old + n
  pub kept : (i : ℕ) → i < length old → slice_index_or new i false ≡ slice_index_or old i false
  pub at_present : (i : ℕ) → i < n → BothPresent left a right b i
      → slice_index_or new (length old + i) false
      ≡ same agree (row left (a + i)) (row right (b + i))

-- if two rows are both present, the bit says whether they are the same
abbrev pub SamePresent : (Row → Row → Bool) → AnyArray → ℕ → AnyArray → ℕ → Bool → Type 0
SamePresent agree left i right j bit =
    BothPresent left i right j 0 → bit ≡ same agree (row left i) (row right j)
