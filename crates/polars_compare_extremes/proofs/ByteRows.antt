-- From stored byte strings and a mask to rows.
use Rattle.std.proofs.Common.{◌≡◌, ◌<◌, ℕ, Bool, false, List, [], length, sym, subst, arith}
use Rattle.std.specs.Prelude.{◌≢◌, Option}
use Rattle.std.proofs.lemmas.List.{length-map, get_or-map}
use Rattle.polars_arrays_flat.specs.Row.{Row, Null, Bytes}
use Rattle.polars_arrays_flat.specs.StoredRows.{row, rows_under, byte_slots}
use Rattle.polars_arrays_flat.specs.Validity.{HasBits, is_present}
use Rattle.polars_compare_extremes.specs.Extremes.{FindsBest, IsBest, NonePresent}
use Rattle.polars_compare_extremes.specs.Places.{IsBestSlot, string_row}
use Rattle.polars_compare_extremes.proofs.SlotRows.{best-found, best-row, none-present}

module _ (mask : Option (List Bool)) (strings : List (List ℕ)) (bits : HasBits (length strings) mask) where
  many : length (byte_slots strings) ≡ length strings
  many = length-map strings Bytes

  has_bits : HasBits (length (byte_slots strings)) mask
  has_bits = subst (λ (n : ℕ). HasBits n mask) (sym many) bits

  is_string : (k : ℕ) → k < length (byte_slots strings) → row (byte_slots strings) k ≡ string_row strings k
  is_string k h = get_or-map Bytes strings k [] Null (omega (arith, h, many))

  filled : (k : ℕ) → k < length (byte_slots strings) → string_row strings k ≢ Null
  filled k h = λ e. cc

  all : {better : Row → Row → Bool} {place : ℕ} → IsBestSlot better (string_row strings) mask (length strings) place → IsBestSlot better (string_row strings) mask (length (byte_slots strings)) place
  all {better} {place} b = subst (λ (n : ℕ). IsBestSlot better (string_row strings) mask n place) (sym many) b

  pub no_string : ((k : ℕ) → k < length strings → is_present mask k ≡ false) → NonePresent (rows_under mask (byte_slots strings))
  no_string absent = none-present mask (byte_slots strings) (string_row strings) is_string filled has_bits (λ k h. absent k (omega (arith, h, many)))

  pub best-string : (better : Row → Row → Bool) (place : ℕ) → IsBestSlot better (string_row strings) mask (length strings) place → IsBest better (rows_under mask (byte_slots strings)) place
  best-string better place b = best-row mask (byte_slots strings) (string_row strings) is_string filled has_bits better place (all b)

  pub string-found : (better : Row → Row → Bool) (place : ℕ) → IsBestSlot better (string_row strings) mask (length strings) place → FindsBest better (rows_under mask (byte_slots strings)) (string_row strings place)
  string-found better place b = best-found mask (byte_slots strings) (string_row strings) is_string filled has_bits better place (all b)
