-- Worked examples of the definitions: the check computes both sides of each.
use Rattle.std.specs.Prelude.{◌≡◌, pos, negsuc, true, false, None, refl}
use Rattle.polars_arrays_numbers.specs.Naturals.{natural_of}
use Rattle.polars_arrays_numbers.specs.Ranges.{least_of, greatest_of}
use Rattle.polars_arrays_numbers.specs.Wrapping.{Congruent, IsWrapped, wrapped, HasAllOf}
use Rattle.polars_arrays_numbers.specs.WrappingLaws.{wrapped-is}

natural-negative : natural_of (negsuc 4) ≡ None
natural-negative = refl

least-signed : least_of true 8 ≡ negsuc 127
least-signed = refl

greatest-unsigned : greatest_of false 16 ≡ pos 65535
greatest-unsigned = refl

-- one above the greatest i8 is the least one, and one below the least the greatest
wrapped-above : wrapped (least_of true 8) 8 (pos 128) ≡ negsuc 127
wrapped-above = refl

wrapped-below : wrapped (least_of true 8) 8 (negsuc 128) ≡ pos 127
wrapped-below = refl

wrapped-least : wrapped (least_of true 64) 64 (least_of true 64) ≡ least_of true 64
wrapped-least = refl

wrapped-greatest : wrapped (least_of true 64) 64 (greatest_of true 64) ≡ greatest_of true 64
wrapped-greatest = refl

-- below 0 an unsigned type goes on with its greatest number
wrapped-negative : wrapped (least_of false 64) 64 (negsuc 0) ≡ greatest_of false 64
wrapped-negative = refl

wrapped-many_times : wrapped (least_of false 8) 8 (pos 1000) ≡ pos 232
wrapped-many_times = refl

congruent-below_zero : Congruent 8 (negsuc 2) (pos 13)
congruent-below_zero = refl

all-signed : HasAllOf (least_of true 16) (greatest_of true 16) 16
all-signed = refl

is_wrapped-above : IsWrapped (least_of true 8) (greatest_of true 8) 8 (pos 128) (negsuc 127)
is_wrapped-above = wrapped-is (least_of true 8) (greatest_of true 8) 8 refl (pos 128)
