-- Byte strings of one size, stored one after the other.
use Rattle.std.specs.Prelude.{◌≡◌, ◌*◌, ℕ, Bool, List, Option, length, map, refl}
use Rattle.std.specs.Coded.{Coded, code_by, coded×, coded_bool, coded_list, coded_ℕ, coded_option}
use Rattle.std.specs.List.{range_with_len}
use Rattle.polars_arrays_flat.specs.Row.{Row}
use Rattle.polars_arrays_flat.specs.StoredRows.{rows_under, byte_slots}
use Rattle.polars_arrays_flat.specs.Validity.{HasBits, window}

-- the number of bytes of a string, the number of strings, their bytes, and the validity
pub record SizedStrings : Type 0 where
  pub size : ℕ
  pub count : ℕ
  pub values : List ℕ
  pub validity : Option (List Bool)

-- the code of `SizedStrings`: the tuple of its four fields
abbrev pub sized_code : Coded SizedStrings
sized_code =
    code_by (ℕ × (ℕ × (List ℕ × Option (List Bool))))
    (coded× coded_ℕ
    (coded× coded_ℕ (coded× (coded_list coded_ℕ) (coded_option (coded_list coded_bool)))))
    (λ a. (a.size, (a.count, (a.values, a.validity))))
    (λ p. record { size = p.0; count = p.1.0; values = p.1.1.0; validity = p.1.1.1 })
    (λ _. refl)

-- string i is the `size` bytes from place size * i on (the Arrow layout)
abbrev pub sized_string : ℕ → List ℕ → ℕ → List ℕ
sized_string size values i = window (size * i) size values

-- the first `count` strings of that size
abbrev pub sized_strings : ℕ → ℕ → List ℕ → List (List ℕ)
sized_strings size count values = map (sized_string size values) (range_with_len 0 count)

-- the rows of an array of strings of one size
abbrev pub sized_rows : SizedStrings → List Row
sized_rows a = rows_under a.validity (byte_slots (sized_strings a.size a.count a.values))

-- a validity has a bit for each string, and the bytes are exactly those of the strings
pub record IsSized (size count : ℕ) (values : List ℕ) (validity : Option (List Bool)) : Type 0 where
  pub bits : HasBits count validity
  pub bytes : length values ≡ size * count
