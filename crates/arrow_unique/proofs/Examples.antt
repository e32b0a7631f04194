-- Worked examples of the definitions: the check computes both sides of each.
use Rattle.std.specs.Prelude.{◌≡◌, ◌-◌, ◌^◌, pos, negsuc, true, [], ◌∷◌, refl}
use Rattle.polars_compute_slots.specs.State.{State, set_of}
use Rattle.arrow_unique.specs.Memory.{low_word, state_in}

-- of -1, 0 and 1, whose bits are 1, 0 and 1, two were seen, and a null was; the bit past them means
-- nothing
three : State
three = state_in (negsuc 0) 3 (13 ∷ []) 1

three-set : set_of three ≡ negsuc 0 ∷ pos 1 ∷ []
unfolding three
three-set = refl

three-null : three.has_null ≡ true
unfolding three
three-null = refl

-- words that are missing hold no number
no-words : set_of (state_in (pos 5) 2 [] 0) ≡ []
no-words = refl

low_word-below_zero : low_word (negsuc 0) ≡ 2 ^ 64 - 1
low_word-below_zero = refl

low_word-small : low_word (pos 7) ≡ 7
low_word-small = refl
