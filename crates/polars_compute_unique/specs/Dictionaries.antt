-- States of the keys of a dictionary.
use Rattle.std.specs.Prelude.{◌≡◌, ◌<ℤ◌, ◌≤◌, ◌&&◌, ℕ, ℤ, ltb, pos, negsuc, Bool, true, false, List}
use Rattle.std.specs.Prelude.{[], Option, Some, None, All, Contains, ⊤}
use Rattle.polars_arrays_bits.specs.declared.error.ComputeError.{ComputeError}
use Rattle.polars_arrays_bits.specs.declared.error.ComputeError.TheVariants.{Memory, KeyOutOfRange}
use Rattle.polars_arrays_flat.specs.ArrayRows.{is_null, number_rows}
use Rattle.polars_arrays_flat.specs.Row.{Row}
use Rattle.polars_arrays_nested.specs.AnyRows.{row}
use Rattle.polars_arrays_nested.specs.Lengths.{len_of}
use Rattle.polars_arrays_nested.specs.declared.any_array.AnyArray.{AnyArray}
use Rattle.polars_arrays_nested.specs.declared.dict_keys.DictKeys.{DictKeys}
use Rattle.polars_arrays_nested.specs.declared.dict_keys.DictKeys.TheVariants.{UInt32}
use Rattle.polars_compute_slots.specs.State.{State, set_of}

-- keys of type u32 as rows; no state accepts keys of another type
abbrev pub key_rows : DictKeys → List Row
key_rows (UInt32 keys) = number_rows (λ x. pos x) keys
key_rows keys = []

-- true if the keys are of type u32
abbrev pub are_u32 : DictKeys → Bool
are_u32 (UInt32 keys) = true
are_u32 keys = false

-- true if a key names a null entry; false for a key without an entry
abbrev pub names_null : AnyArray → ℤ → Bool
names_null entries (pos key) = ltb key (len_of entries) && is_null (row entries key)
names_null entries (negsuc n) = false

-- each key seen names one of n entries
abbrev pub NamesEntries : ℕ → State → Type 0
NamesEntries n s = All (λ key. key <ℤ pos n) (set_of s)

-- the least key that was seen and names none of n entries
pub record IsLeastMissing (n : ℕ) (s : State) (key : ℕ) : Type 0 where
  pub seen : Contains (set_of s) (pos key)
  pub missing : n ≤ key
  pub least : All (λ other. other <ℤ pos key → other <ℤ pos n) (set_of s)

-- there is no dictionary, or each key seen names an entry of it
abbrev pub HasEntries : Option AnyArray → State → Type 0
HasEntries None s = ⊤
HasEntries (Some entries) s = NamesEntries (len_of entries) s

-- the error has n and the least key that was seen and names none of n entries
abbrev pub IsMissingKey : ℕ → State → ComputeError → Type 0
IsMissingKey n s (KeyOutOfRange key len) = (len ≡ n) × IsLeastMissing n s key
IsMissingKey n s e = ⊥

-- the error of a state: the least key without an entry if there is one, else a failed allocation
abbrev pub IsFinalFault : Option AnyArray → State → ComputeError → Type 0
IsFinalFault dictionary s (Memory e) = HasEntries dictionary s
IsFinalFault (Some entries) s e = IsMissingKey (len_of entries) s e
IsFinalFault None s e = ⊥
