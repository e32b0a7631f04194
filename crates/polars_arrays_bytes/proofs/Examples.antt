-- Worked examples of the definitions: the check computes both sides of each.
use Rattle.std.specs.Prelude.{◌≡◌, ◌^◌, ℕ, ℤ, pos, negsuc, true, false, [], ◌∷◌, Option, Some, None, slice_index_or, refl}
use Rattle.std.proofs.Common.{◌<◌, zero, suc, ap, subst, arith}
use Rattle.std.proofs.lemmas.List.Elements.{All-from_get_or}
use Rattle.std.proofs.lemmas.Str.{is_utf8-from_IsUtf8}
use Rattle.std.specs.Str.{IsUtf8, chars, is_utf8}
use lib.Utf8.{encode}
use Rattle.polars_arrays_bits.specs.declared.error.ArrayError.TheVariants.{Offsets, NotUtf8}
use Rattle.polars_arrays_flat.specs.Row.{Null, Bytes}
use Rattle.polars_arrays_bytes.specs.Faults.{IsBadRow, IsFirstBad, IsFirstFault}
use Rattle.polars_arrays_bytes.specs.OffsetStrings.{places, place_at, row_count, between, string_between, strings_between, offset_strings, offset_rows, IsWithin, Bounds, IsGoodRow, AreGood, AreBounded, AreRising}
use Rattle.polars_arrays_bytes.specs.SizedStrings.{IsSized, sized_string, sized_strings, sized_rows}
use Rattle.polars_arrays_bytes.specs.Texts.{AreBegun, AreTexts, IsBegun, IsFirstOther, AreTextParts, IsFirstTextFault}

places-negative : places (λ x. x) (negsuc 0 ∷ pos 4 ∷ []) ≡ None ∷ Some 4 ∷ []
places-negative = refl

place_at-past_end : place_at (Some 4 ∷ []) 1 ≡ None
place_at-past_end = refl

row_count-some : row_count (pos 0 ∷ pos 1 ∷ pos 2 ∷ []) ≡ 2
row_count-some = refl

-- no row without an offset, nor with one
row_count-none : row_count {A = ℤ} [] ≡ 0
row_count-none = refl

row_count-one : row_count (pos 3 ∷ []) ≡ 0
row_count-one = refl

between-inside : between (5 ∷ 6 ∷ 7 ∷ 8 ∷ []) (Some 1) (Some 3) ≡ 6 ∷ 7 ∷ []
between-inside = refl

between-no_place : between (5 ∷ 6 ∷ []) None (Some 1) ≡ []
between-no_place = refl

string_between-second : string_between (Some 2 ∷ Some 2 ∷ Some 5 ∷ []) (120 ∷ 120 ∷ 97 ∷ 98 ∷ 99 ∷ []) 1 ≡ 97 ∷ 98 ∷ 99 ∷ []
string_between-second = refl

strings_between-one : strings_between (Some 3 ∷ []) (97 ∷ 98 ∷ 99 ∷ []) ≡ []
strings_between-one = refl

-- the offsets 2, 2, 5 over `xxabc` bound the strings that 0, 0, 3 bound over `abc`
offset_strings-later : offset_strings (λ x. x) (record { offsets = pos 2 ∷ pos 2 ∷ pos 5 ∷ []; values = 120 ∷ 120 ∷ 97 ∷ 98 ∷ 99 ∷ []; validity = None }) ≡ [] ∷ (97 ∷ 98 ∷ 99 ∷ []) ∷ []
offset_strings-later = refl

offset_strings-zero : offset_strings (λ x. x) (record { offsets = pos 0 ∷ pos 0 ∷ pos 3 ∷ []; values = 97 ∷ 98 ∷ 99 ∷ []; validity = None }) ≡ [] ∷ (97 ∷ 98 ∷ 99 ∷ []) ∷ []
offset_strings-zero = refl

offset_rows-masked : offset_rows (λ x. x) (record { offsets = pos 0 ∷ pos 1 ∷ pos 3 ∷ []; values = 97 ∷ 98 ∷ 99 ∷ []; validity = Some (false ∷ true ∷ []) }) ≡ Null ∷ Bytes (98 ∷ 99 ∷ []) ∷ []
offset_rows-masked = refl

-- a place may be at the end of the bytes
IsWithin-end : IsWithin 3 (Some 3)
IsWithin-end = omega arith

Bounds-empty : Bounds 3 (Some 3) (Some 3)
Bounds-empty = (omega arith, omega arith)

Bounds-falling : ¬ (Bounds 3 (Some 2) (Some 1))
Bounds-falling bounds = absurd (omega (arith, bounds.0))

IsGoodRow-second : IsGoodRow 5 (Some 2 ∷ Some 2 ∷ Some 5 ∷ []) 1
IsGoodRow-second = (omega arith, omega arith)

-- the one offset 3 over three bytes is good, and 5 is not
AreGood-one : AreGood 3 (Some 3 ∷ [])
AreGood-one = record { first = omega arith; rows = λ i below. absurd (omega (arith, below)) }

AreBounded-one : AreBounded (λ x. x) (record { offsets = pos 3 ∷ []; values = 97 ∷ 98 ∷ 99 ∷ []; validity = Some [] })
AreBounded-one = record { bits = refl; good = AreGood-one }

IsBadRow-one : IsBadRow 3 (Some 5 ∷ []) 0
IsBadRow-one = (refl, λ within. absurd (omega (arith, within)))

IsFirstBad-falling : IsFirstBad 3 (Some 0 ∷ Some 2 ∷ Some 1 ∷ []) 1
IsFirstBad-falling = record {
  bad = (omega arith, λ good. absurd (omega (arith, good.0)));
  before = first;
}
  where
    first : (k : ℕ) → k < 1 → IsGoodRow 3 (Some 0 ∷ Some 2 ∷ Some 1 ∷ []) k
    first zero below = (omega arith, omega arith)
    first (suc k) below = absurd (omega (arith, below))

-- the offsets -1, 0 over three bytes, no offset, and the one offset 5: row 0 is the first bad one
IsFirstFault-negative : IsFirstFault (λ x. x) (record { offsets = negsuc 0 ∷ pos 0 ∷ []; values = 97 ∷ 98 ∷ 99 ∷ []; validity = None }) (Offsets 0)
IsFirstFault-negative =
    (tt, record { bad = (omega arith, λ good. good); before = λ k below. absurd (omega (arith, below)) })

IsFirstFault-no_offset : IsFirstFault {A = ℤ} (λ x. x) (record { offsets = []; values = 97 ∷ 98 ∷ 99 ∷ []; validity = None }) (Offsets 0)
IsFirstFault-no_offset = (tt, record { bad = refl; before = λ k below. absurd (omega (arith, below)) })

IsFirstFault-one : IsFirstFault (λ x. x) (record { offsets = pos 5 ∷ []; values = 97 ∷ 98 ∷ 99 ∷ []; validity = None }) (Offsets 0)
IsFirstFault-one = (tt, record { bad = IsBadRow-one; before = λ k below. absurd (omega (arith, below)) })

-- the two bytes of one letter, cut into two rows: neither is UTF-8, though the joined bytes are
first_byte : ¬ (IsUtf8 (195 ∷ []))
unfolding is_utf8 chars encode
first_byte text = let told : is_utf8 (195 ∷ []) ≡ true = is_utf8-from_IsUtf8 (195 ∷ []) text in cc

AreTexts-joined : AreTexts ((195 ∷ 169 ∷ []) ∷ [])
unfolding encode
AreTexts-joined = All-from_get_or IsUtf8 ((195 ∷ 169 ∷ []) ∷ []) [] letter
  where
    letter : (k : ℕ) → k < 1 → IsUtf8 (slice_index_or ((195 ∷ 169 ∷ []) ∷ []) k [])
    letter zero below = (233 ∷ [], (refl, refl))
    letter (suc k) below = absurd (omega (arith, below))

IsFirstOther-split : IsFirstOther ((195 ∷ []) ∷ (169 ∷ []) ∷ []) 0
IsFirstOther-split = record { within = omega arith; other = first_byte; before = λ k below. absurd (omega (arith, below)) }

AreTextParts-joined : AreTextParts (λ x. x) (record { offsets = pos 0 ∷ pos 2 ∷ []; values = 195 ∷ 169 ∷ []; validity = None })
AreTextParts-joined = record {
  bounded = record { bits = tt; good = record { first = omega arith; rows = rows } };
  texts = AreTexts-joined;
}
  where
    rows : (i : ℕ) → i < 1 → IsGoodRow 2 (Some 0 ∷ Some 2 ∷ []) i
    rows zero below = (omega arith, omega arith)
    rows (suc i) below = absurd (omega (arith, below))

-- also where row 0 is null
IsFirstTextFault-split : IsFirstTextFault (λ x. x) (record { offsets = pos 0 ∷ pos 1 ∷ pos 2 ∷ []; values = 195 ∷ 169 ∷ []; validity = Some (false ∷ true ∷ []) }) (NotUtf8 0)
IsFirstTextFault-split =
    (record { bits = refl; good = record { first = omega arith; rows = rows } }, IsFirstOther-split)
  where
    rows : (i : ℕ) → i < 2 → IsGoodRow 2 (Some 0 ∷ Some 1 ∷ Some 2 ∷ []) i
    rows zero below = (omega arith, omega arith)
    rows (suc zero) below = (omega arith, omega arith)
    rows (suc (suc i)) below = absurd (omega (arith, below))

-- offsets may stay and may be negative
AreRising-three : AreRising (λ x. x) (negsuc 0 ∷ pos 2 ∷ pos 2 ∷ [])
AreRising-three zero below d = refl
AreRising-three (suc zero) below d = refl
AreRising-three (suc (suc i)) below d = absurd (omega (arith, below))

AreRising-falling : ¬ (AreRising (λ x. x) (pos 1 ∷ pos 0 ∷ []))
AreRising-falling rising = let told = rising 0 (omega arith) (pos 0) in cc

-- `é` begins at its first byte alone
IsBegun-first : IsBegun (195 ∷ 169 ∷ []) 2 0
IsBegun-first below wide = omega arith

IsBegun-second : ¬ (IsBegun (195 ∷ 169 ∷ []) 2 1)
IsBegun-second begun = absurd (omega (arith, begun (omega arith) (omega arith)))

-- a row may begin where the bytes end
IsBegun-end : IsBegun (195 ∷ 169 ∷ []) 2 2
IsBegun-end below wide = absurd (omega (arith, below))

AreBegun-joined : AreBegun (Some 0 ∷ Some 2 ∷ []) (195 ∷ 169 ∷ []) 2
AreBegun-joined zero below at is = subst (IsBegun (195 ∷ 169 ∷ []) 2) (ap held is) IsBegun-first
  where
    held : Option ℕ → ℕ
    held (Some at) = at
    held None = 0
AreBegun-joined (suc i) below at is = absurd (omega (arith, below))

sized_string-second : sized_string 2 (5 ∷ 6 ∷ 7 ∷ 8 ∷ []) 1 ≡ 7 ∷ 8 ∷ []
sized_string-second = refl

-- two strings of no bytes
sized_strings-empty : sized_strings 0 2 [] ≡ [] ∷ [] ∷ []
sized_strings-empty = refl

sized_rows-masked : sized_rows (record { size = 2; count = 2; values = 5 ∷ 6 ∷ 7 ∷ 8 ∷ []; validity = Some (true ∷ false ∷ []) }) ≡ Bytes (5 ∷ 6 ∷ []) ∷ Null ∷ []
sized_rows-masked = refl

IsSized-empty : IsSized 0 2 [] None
IsSized-empty = record { bits = tt; bytes = refl }

-- 2 ^ 32 strings of 2 ^ 32 bytes are more than no bytes, though the product leaves 64 bits
IsSized-large : ¬ (IsSized (2 ^ 32) (2 ^ 32) [] None)
IsSized-large sized = absurd (omega (arith, sized.bytes))
