-- Worked examples of what a kernel asks of its arrays, and of its error.
use Rattle.std.specs.Prelude.{◌≡◌, ◌<◌, ◌≤◌, ℕ, zero, suc, pos, negsuc, true, false, [], ◌∷◌, Some}
use Rattle.std.specs.Prelude.{None, refl}
use Rattle.std.proofs.Common.{arith}
use Rattle.polars_arrays_bits.specs.Errors.{IsMemory}
use Rattle.polars_arrays_bits.specs.declared.error.ComputeError.TheVariants.{Memory, Unsupported}
use Rattle.polars_arrays_bytes.specs.OffsetStrings.{IsGoodRow}
use Rattle.polars_arrays_flat.specs.Kind.{Int32Kind, ListKind, UInt8Kind, DictionaryKind}
use Rattle.polars_arrays_flat.specs.Row.{Null, Int}
use Rattle.polars_arrays_flat.specs.StoredRows.{masked}
use Rattle.polars_arrays_nested.specs.DictKeys.{IsGoodKey, key_count, key_places, key_validity}
use Rattle.polars_arrays_nested.specs.DictKeys.{kind_of_keys}
use Rattle.polars_arrays_nested.specs.GoodParts.{IsGood}
use Rattle.polars_arrays_nested.specs.Types.{type_of}
use Rattle.polars_arrays_nested.specs.declared.any_array.AnyArray.{AnyArray, List'}
use Rattle.polars_arrays_nested.specs.declared.any_array.AnyArray.{FixedSizeList', Dictionary'}
use Rattle.polars_arrays_nested.specs.declared.dict_keys.DictKeys.{DictKeys}
use Rattle.polars_arrays_nested.specs.declared.list_offsets.ListOffsets.TheVariants.{Large}
use Rattle.worked_examples.proofs.ExampleArrays.{keys, numbers, offsets}

-- a null hides what is stored: the stored rows 7, 8 under the bits 1, 0 are 7 and null
masked-second : masked (true ∷ false ∷ []) (Int (pos 7) ∷ Int (pos 8) ∷ [])
    ≡ Int (pos 7) ∷ Null ∷ []
masked-second = refl

-- the numbers 7, 8 and 9
abbrev three : AnyArray
three = numbers (pos 7 ∷ pos 8 ∷ pos 9 ∷ []) None

-- the items 8 and 9, and none: the offsets 1, 3, 3 of lists of three items rise, and are at most 3
lists-good : (p : _) → IsGood (List' (offsets (pos 1 ∷ pos 3 ∷ pos 3 ∷ [])) p three None)
lists-good p =
    (record { bits = tt; good = record { first = omega arith; rows = λ i low. at i low } }, tt)
  where
    at : (i : ℕ) → i < 2 → IsGoodRow 3 (Some 1 ∷ Some 3 ∷ Some 3 ∷ []) i
    at zero low = (omega arith, omega arith)
    at (suc zero) low = (omega arith, omega arith)
    at (suc (suc i)) low = absurd (omega (arith, low))

-- an offset is past the three items
lists-past_end : (p : _) → ¬ (IsGood (List' (offsets (pos 0 ∷ pos 4 ∷ [])) p three None))
lists-past_end p good =
    let row : (0 ≤ 4) × (4 ≤ 3) = good.0.good.rows 0 (omega arith) in
    omega (arith, row.1)

-- the offsets fall
lists-falling : (p : _) → ¬ (IsGood (List' (offsets (pos 2 ∷ pos 1 ∷ [])) p three None))
lists-falling p good =
    let row : (2 ≤ 1) × (1 ≤ 3) = good.0.good.rows 0 (omega arith) in
    omega (arith, row.0)

-- the first offset is negative
lists-negative : (p : _) → ¬ (IsGood (List' (offsets (negsuc 0 ∷ pos 1 ∷ [])) p three None))
lists-negative p good = good.0.good.first

-- the validity has a bit for one list of two
lists-short_validity : (p : _)
    → ¬ (IsGood (List' (offsets (pos 0 ∷ pos 1 ∷ pos 2 ∷ [])) p three (Some (true ∷ []))))
lists-short_validity p good = let one : 1 ≡ 2 = good.0.bits in omega (arith, one)

-- one list of three items has all items, and one of two items does not
fixed_lists-good : (p : _) → IsGood (FixedSizeList' 3 1 p three None)
fixed_lists-good p =
    (record { bits = tt; items = refl }, tt)

fixed_lists-too_many : (p : _) → ¬ (IsGood (FixedSizeList' 2 1 p three None))
fixed_lists-too_many p good = let items : 3 ≡ 2 = good.0.items in omega (arith, items)

-- the keys 2 and 99, of which the second one is masked
abbrev masked_key : DictKeys
masked_key = keys (2 ∷ 99 ∷ []) (Some (true ∷ false ∷ []))

-- the same keys, both of them present
abbrev present_key : DictKeys
present_key = keys (2 ∷ 99 ∷ []) None

keys-two : key_count masked_key ≡ 2
keys-two = refl

keys-validity : key_validity masked_key ≡ Some (true ∷ false ∷ [])
keys-validity = refl

keys-kind : kind_of_keys masked_key ≡ UInt8Kind
keys-kind = refl

-- of three entries the key 2 names the last one; a masked key may be anything
dictionary-good : (p : _) → IsGood (Dictionary' masked_key p three)
dictionary-good p = (record { named = λ i low. at i low }, tt)
  where
    at : (i : ℕ) → i < 2 → IsGoodKey 3 (key_validity masked_key) (key_places masked_key) i
    at zero low present = omega arith
    at (suc zero) low present = absurd (cc)
    at (suc (suc i)) low present = absurd (omega (arith, low))

-- a present key may not: the key 99 names no entry
dictionary-key_past_end : (p : _) → ¬ (IsGood (Dictionary' present_key p three))
dictionary-key_past_end p good =
    let named : 99 < 3 = good.0.named 1 (omega arith) refl in
    omega (arith, named)

-- nor are lists good whose items are such a dictionary
lists-of_bad_dictionary : (p q : _)
    → ¬ (IsGood (List' (offsets (pos 0 ∷ pos 1 ∷ [])) p (Dictionary' present_key q three) None))
lists-of_bad_dictionary p q good =
    let named : 99 < 3 = good.1.0.named 1 (omega arith) refl in
    omega (arith, named)

-- the type of lists of numbers, and of a dictionary of numbers
type_of-lists : (p : _)
    → type_of (List' (offsets (pos 0 ∷ pos 1 ∷ [])) p three None) ≡ ListKind Int32Kind
type_of-lists p = refl

type_of-dictionary : (p : _)
    → type_of (Dictionary' masked_key p three) ≡ DictionaryKind UInt8Kind Int32Kind
type_of-dictionary p = refl

-- lists with offsets of 32 and of 64 bits are of two types
type_of-large_lists : (p q : _)
    → ¬ (type_of (List' (offsets (pos 0 ∷ pos 1 ∷ [])) p three None)
    ≡ type_of (List' (Large (record { items = pos 0 ∷ pos 1 ∷ []; owned = true })) q three None))
type_of-large_lists p q same = cc

-- the one error of a kernel is a failed allocation
IsMemory-failed : (e : _) → IsMemory (Memory e)
IsMemory-failed e = tt

IsMemory-other : ¬ (IsMemory Unsupported)
IsMemory-other other = other
