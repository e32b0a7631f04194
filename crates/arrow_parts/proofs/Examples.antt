-- Worked examples of the definitions.
use Rattle.std.specs.Prelude.{◌≡◌, ◌^◌, ◌*◌, ◌+◌, ◌-◌, ◌-ℤ◌, pos, negsuc, true, false, [], ◌∷◌, Some, None, refl}
use Rattle.arrow_parts.specs.ByteBits.{byte_window, presence}
use Rattle.arrow_parts.specs.Kinds.{kind_number}
use Rattle.arrow_parts.specs.Lent.{places_from, signed_wide, wide_numbers}
use Rattle.arrow_parts.specs.declared.part.PartKind.TheVariants as kind

-- 6 is 110 in binary: bits 1 and 2 are set
three-bits : byte_window 0 3 (6 ∷ []) ≡ false ∷ true ∷ true ∷ []
three-bits = refl

-- bit 8 is the lowest of the second byte
across-bytes : byte_window 7 2 (0 ∷ 1 ∷ []) ≡ false ∷ true ∷ []
across-bytes = refl

-- from bit 1 on: the first of two rows is present
first-present : presence 1 2 (2 ∷ []) ≡ Some (true ∷ false ∷ [])
first-present = refl

-- with no bytes all rows are present
all-present : presence 0 2 [] ≡ None
all-present = refl

kind-one : kind_number 1 ≡ Some kind.Null
kind-one = refl

kind-last : kind_number 31 ≡ Some kind.Utf8View
kind-last = refl

no-kind : kind_number 0 ≡ None
no-kind = refl

-- offsets 5, 5, 8 over what begins at offset 5; 4 and -1 lie before it
from-five : places_from 5 (λ x. x) (pos 5 ∷ pos 5 ∷ pos 8 ∷ pos 4 ∷ negsuc 0 ∷ []) ≡ Some 0 ∷ Some 0 ∷ Some 3 ∷ None ∷ None ∷ []
from-five = refl

-- two numbers of two words; a single word is none
low-first : wide_numbers (7 ∷ 0 ∷ 1 ∷ 2 ∷ 9 ∷ []) ≡ 7 ∷ (1 + 2 ^ 64 * 2) ∷ []
low-first = refl

-- the highest bit is the sign
least-number : signed_wide (2 ^ 127) ≡ pos (2 ^ 127) -ℤ pos (2 ^ 128)
least-number = refl

minus-one : signed_wide (2 ^ 128 - 1) ≡ negsuc 0
minus-one = refl
