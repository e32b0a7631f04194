-- Byte strings of a part, in the part's own memory.
--
-- A part with two rows, the offsets 5, 7, 7, the base 5 and the bytes 97, 98 has two strings, `ab`
-- and an empty one, between the places 0, 2, 2 (`ArePartStrings`). With the offset 8 in place of
-- the last 7 it has none, since there is no third byte.
use Rattle.std.specs.Prelude.{◌≡◌, ℕ, Bool, List, [], Option, IsTrue, length, slice_index_or}
use Rattle.std.specs.Str.{IsUtf8, bytes_eq}
use Rattle.polars_arrays_bytes.specs.OffsetStrings.{AreGood, row_count, strings_between}
use Rattle.polars_arrays_bytes.specs.Texts.{AreTexts}
use Rattle.polars_arrays_words.specs.Bits.{first_of}
use Rattle.arrow_parts.specs.declared.part.Part.{Part}

-- the strings between places are all strings of a part, which has a name in UTF-8 and no part
-- inside it; they are texts if `texts` is true
pub record ArePartStrings (p : Part) (all : List (Option ℕ)) (texts : Bool) : Type 0 where
  pub name : IsUtf8 p.name.now
  pub children : p.children ≡ 0
  pub count : row_count all ≡ p.rows
  pub good : AreGood (length p.u8s.now) all
  pub utf8 : IsTrue texts → AreTexts (strings_between all p.u8s.now)

-- for each of the first n pairs of strings, whether the two are equal
abbrev pub same_strings : List (List ℕ) → List (List ℕ) → ℕ → List Bool
same_strings left right n =
    first_of (λ i. bytes_eq (slice_index_or left i []) (slice_index_or right i [])) n
