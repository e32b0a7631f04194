-- What the slices of a part hold (the Arrow layout).
use Rattle.std.specs.Prelude.{◌+◌, ◌-◌, ◌*◌, ◌^◌, ◌-ℤ◌, ℕ, ℤ, pos, Bool, List, [], ◌∷◌, Option}
use Rattle.std.specs.Prelude.{Some, None, map, nat_le, nat_lt, if◌then◌else◌}
use Rattle.polars_arrays_bytes.specs.OffsetStrings.{places}
use Rattle.arrow_parts.specs.ByteBits.{presence}
use Rattle.arrow_parts.specs.declared.part.Bytes.{Bytes}
use Rattle.arrow_parts.specs.declared.part.Part.{Part}

-- which rows are present
abbrev pub present_in : Part → Option (List Bool)
present_in p = presence p.first_bit p.rows p.present.now

-- a place less the base, or None if it lies before the base
abbrev pub place_from : ℕ → Option ℕ → Option ℕ
place_from base None = None
place_from base (Some at) = if nat_le base at then Some (at - base) else None

-- each offset as a place among the lent bytes or items; `value` gives its whole number
abbrev pub places_from : {A : Type 0} → ℕ → (A → ℤ) → List A → List (Option ℕ)
places_from base value offsets = map (place_from base) (places value offsets)

-- numbers of two words each, the low word first
abbrev pub wide_numbers : List ℕ → List ℕ
wide_numbers [] = []
wide_numbers (low ∷ []) = []
wide_numbers (low ∷ high ∷ words) = (low + 2 ^ 64 * high) ∷ wide_numbers words

-- the signed number of 128 bits (two's complement)
abbrev pub signed_wide : ℕ → ℤ
signed_wide x = if nat_lt x (2 ^ 127) then pos x else pos x -ℤ pos (2 ^ 128)

-- the bytes of lent buffers
abbrev pub lent_buffers : List Bytes → List (List ℕ)
lent_buffers buffers = map (λ b. b.bytes.now) buffers

-- the buffers of views
abbrev pub buffers_in : Part → List (List ℕ)
buffers_in p = lent_buffers p.buffers.now
