-- Worked examples of the definitions: the check computes both sides of each.
use Rattle.std.specs.Prelude.{◌≡◌, pos, negsuc, true, false, [], ◌∷◌, Some, length, refl}
use Rattle.polars_arrays_flat.specs.Row.{Int, Null, Truth}
use Rattle.polars_arrays_nested.specs.declared.any_array.AnyArray.{Boolean}
use Rattle.polars_compute_slots.specs.Slots.{slot_of}
use Rattle.polars_compute_slots.specs.State.{appended, new_state, truth_numbers}
use Rattle.polars_compute_unique.specs.Dictionaries.{names_null}
use Rattle.polars_compute_unique.specs.Seen.{IsKept, in_word, seen_slots}
use Rattle.polars_compute_unique.specs.Truths.{seen_bits}
use Rattle.polars_compute_unique.specs.declared.primitive.Seen.{Seen}

bits-seen : seen_bits (appended (Truth true ∷ Null ∷ []) (new_state truth_numbers)) ≡ true ∷ false ∷ []
bits-seen = refl

-- entry 0 is null, entry 1 is not, and there is no entry 2
null-named : names_null (Boolean (record { values = true ∷ true ∷ []; validity = Some (false ∷ true ∷ []) })) (pos 0) ≡ true
null-named = refl

present-named : names_null (Boolean (record { values = true ∷ true ∷ []; validity = Some (false ∷ true ∷ []) })) (pos 1) ≡ false
present-named = refl

none-named : names_null (Boolean (record { values = true ∷ true ∷ []; validity = Some (false ∷ true ∷ []) })) (pos 2) ≡ false
none-named = refl

-- the numbers 0 to 126 of `u8` and null have 128 slots, which stand in one word; null has the last
slots-128 : (seen : Seen) → IsKept (pos 0) (pos 255) (pos 0) 127 seen → (length (seen_slots seen) ≡ 128) × (in_word seen ≡ true)
slots-128 seen kept = (kept.size, kept.word)

last-number : slot_of (pos 0) 127 (Int (pos 126)) ≡ 126
last-number = refl

null-last : slot_of (pos 0) 127 Null ≡ 127
null-last = refl

-- one number more, and all of `i8`, do not stand in a word
slots-129 : (seen : Seen) → IsKept (pos 0) (pos 255) (pos 0) 128 seen → (length (seen_slots seen) ≡ 129) × (in_word seen ≡ false)
slots-129 seen kept = (kept.size, kept.word)

slots-257 : (seen : Seen) → IsKept (negsuc 127) (pos 127) (negsuc 127) 256 seen → (length (seen_slots seen) ≡ 257) × (in_word seen ≡ false)
slots-257 seen kept = (kept.size, kept.word)
