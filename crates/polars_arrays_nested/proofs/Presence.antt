-- Bits of keys, of those of their entries.
use Rattle.std.proofs.Common.{◌≡◌, ◌≤◌, ◌<◌, ◌+◌, ◌&&◌, ℕ, zero, suc, Bool, true, false, not, List, [], ◌∷◌, ◌++◌, length, drop, get_or, replicate, refl, ap, sym, ◌∙◌, arith}
use Rattle.std.specs.Prelude.{Option, Some, None}
use Rattle.std.proofs.Math.Seq.{take-length}
use Rattle.std.proofs.lemmas.List.{get_or-drop, length-drop, length-replicate, take_more}
use Rattle.std.proofs.lemmas.List.FromFn.{length-map-range_with_len, get_or-map-range_with_len}
use Rattle.polars_arrays_flat.specs.ArrayRows.{is_null}
use Rattle.polars_arrays_flat.specs.Validity.{HasBits, is_present, validity_window, window}
use Rattle.polars_arrays_nested.specs.AnyRows.{row}
use Rattle.polars_arrays_nested.specs.DictKeys.{key_at, key_count, key_validity}
use Rattle.polars_arrays_nested.specs.GoodParts.{IsGood}
use Rattle.polars_arrays_nested.specs.Lengths.{len_of, validity_of}
use Rattle.polars_arrays_nested.specs.MaskLaws.{presence-told}
use Rattle.polars_arrays_nested.specs.Masks.{entry_mask, has_bits, mask_of, named_bits, names_present, presence_of}
use Rattle.polars_arrays_nested.specs.declared.any_array.AnyArray.{AnyArray, Null, Dictionary, Dictionary'}
use Rattle.polars_arrays_nested.specs.declared.dictionary.DictionaryArray.{DictionaryArray}
use Rattle.polars_arrays_nested.specs.declared.dict_keys.DictKeys.{DictKeys}
use Rattle.polars_arrays_nested.proofs.Windows.{bits-window, get_or-window, length-window, reaches}

and_true : (x : Bool) → x && true ≡ x
and_true true = refl
and_true false = refl

pub length-named : (keys : DictKeys) (entries : Option (List Bool)) → length (named_bits keys entries) ≡ key_count keys
length-named keys entries = length-map-range_with_len (names_present keys entries) 0 (key_count keys)

pub get_or-named : (keys : DictKeys) (entries : Option (List Bool)) (i : ℕ) → i < key_count keys → get_or (named_bits keys entries) i false ≡ names_present keys entries i
get_or-named keys entries i low =
    get_or-map-range_with_len (names_present keys entries) 0 (key_count keys) i i false low (omega arith)

-- a key names a present entry where it is present and the entry is
pub present-entry : (keys : DictKeys) (entries : Option (List Bool)) (i : ℕ) → i < key_count keys → is_present (entry_mask keys entries) i ≡ (is_present (key_validity keys) i && is_present entries (key_at keys i))
present-entry keys None i low = sym (and_true (is_present (key_validity keys) i))
present-entry keys (Some entries) i low = get_or-named keys (Some entries) i low

-- where there are bits of the entries, there are bits of the keys
pub mask-entries : (keys : DictKeys) (entries : Option (List Bool)) → (entries ≡ None → ⊥) → entry_mask keys entries ≡ Some (named_bits keys entries)
mask-entries keys None other = absurd (other refl)
mask-entries keys (Some entries) other = refl

pub bits-entries : (keys : DictKeys) (entries : Option (List Bool)) → HasBits (key_count keys) (key_validity keys) → HasBits (key_count keys) (entry_mask keys entries)
bits-entries keys None bits = bits
bits-entries keys (Some entries) bits = length-named keys (Some entries)

-- only of nulls and of a dictionary the bits of presence are more than the validity
pub presence-flat : (x : AnyArray) → ((n : ℕ) → x ≡ Null n → ⊥) → ((a : _) → x ≡ Dictionary a → ⊥) → presence_of x ≡ validity_of x
presence-flat (Null n) one other = absurd (one n refl)
presence-flat (Dictionary' keys p values) one other = absurd (other (record { keys = keys; values = record { ptr = p.ptr; alloc = p.alloc; value = values } }) refl)
presence-flat _ one other = refl

pub mask-flat : (x : AnyArray) → ((a : _) → x ≡ Dictionary a → ⊥) → mask_of x ≡ validity_of x
mask-flat (Dictionary' keys p values) other = absurd (other (record { keys = keys; values = record { ptr = p.ptr; alloc = p.alloc; value = values } }) refl)
mask-flat _ other = refl

-- no row of nulls is there
pub present-none : (n i : ℕ) → get_or (replicate n false) i false ≡ false
present-none zero i = refl
present-none (suc n) zero = refl
present-none (suc n) (suc i) = present-none n i

twice : (b : Bool) → not (not b) ≡ b
twice true = refl
twice false = refl

-- bits one further
pub window-next : (at i : ℕ) (xs : List Bool) → at + i < length xs → window at (i + 1) xs ≡ window at i xs ++ (get_or xs (at + i) false ∷ [])
window-next at i xs low =
    take_more (drop at xs) i false (omega (arith, low, length-drop at xs))
    ∙ ap (λ (b : Bool). window at i xs ++ (b ∷ [])) (get_or-drop at xs i false)

-- the bits of a window of keys
pub named-at : (keys : DictKeys) (entries : Option (List Bool)) (at n i : ℕ) → at + n ≤ key_count keys → i < n → get_or (window at n (named_bits keys entries)) i false ≡ names_present keys entries (at + i)
named-at keys entries at n i within low =
    get_or-window at n (named_bits keys entries) i false low ∙ get_or-named keys entries (at + i) (omega (arith, within, low))

-- a window of all rows is the whole
pub validity-whole : (n : ℕ) (validity : Option (List Bool)) → HasBits n validity → validity_window 0 n validity ≡ validity
validity-whole n None bits = refl
validity-whole n (Some all) bits = ap Some (ap (λ (k : ℕ). window 0 k all) (sym bits) ∙ take-length all)

-- where the entries have bits, the keys' are those of each; else they are the validity
pub mask-kept : (keys : DictKeys) (entries : Option (List Bool)) → has_bits entries ≡ true → entry_mask keys entries ≡ Some (named_bits keys entries)
mask-kept keys None kept = cc
mask-kept keys (Some entries) kept = refl

pub mask-lent : (keys : DictKeys) (entries : Option (List Bool)) → has_bits entries ≡ false → entry_mask keys entries ≡ key_validity keys
mask-lent keys None none = refl
mask-lent keys (Some entries) none = cc

pub not-there : (x : AnyArray) (i : ℕ) → IsGood x → i < len_of x → not (is_present (presence_of x) i) ≡ is_null (row x i)
not-there x i good low = ap not (presence-told x i good low) ∙ twice (is_null (row x i))

-- a key that names no present entry makes a null row
pub not-named : (a : DictionaryArray) (i : ℕ) → IsGood (Dictionary a) → i < key_count a.keys → not (names_present a.keys (presence_of a.values.value) i) ≡ is_null (row (Dictionary a) i)
not-named a i good low =
    ap not (sym (present-entry a.keys (presence_of a.values.value) i low)) ∙ not-there (Dictionary a) i good low

told-all : (p : Option (List Bool)) (i : ℕ) → has_bits p ≡ false → is_present p i ≡ true
told-all None i none = refl
told-all (Some bits) i none = cc

not-true : (b : Bool) → true ≡ not b → b ≡ false
not-true true e = cc
not-true false e = refl

-- without bits of presence no row is null
pub none-null : (x : AnyArray) → IsGood x → has_bits (presence_of x) ≡ false → (i : ℕ) → i < len_of x → is_null (row x i) ≡ false
none-null x good none i low =
    not-true (is_null (row x i)) (sym (told-all (presence_of x) i none) ∙ presence-told x i good low)

pub ruleset entries = (length-named, get_or-named, present-entry, mask-entries, bits-entries, presence-flat, mask-flat, length-replicate, present-none)

pub ruleset windows = (length-window, bits-window, reaches, mask-flat, length-named, get_or-named, window-next, named-at, validity-whole, bits-entries, mask-kept, mask-lent)

pub ruleset rows_told = (not-there, not-named, none-null)
