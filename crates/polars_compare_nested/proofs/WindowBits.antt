-- Bits of windows, and of their parts.
use Rattle.std.proofs.Common.{◌≡◌, ◌≢◌, ◌≤◌, ◌<◌, ◌+◌, ◌&&◌, ℕ, zero, suc, Bool, true, false, List, [], ◌∷◌, length, get_or, drop, refl, ap, ◌∙◌, arith, add-zero, add_assoc}
use Rattle.std.specs.List.{list_all}
use Rattle.std.proofs.lemmas.List.{length-take, length-drop, get_or-take, get_or-drop}
use Rattle.polars_arrays_flat.specs.Row.{Row}
use Rattle.polars_arrays_flat.specs.Validity.{window}
use Rattle.polars_arrays_nested.specs.AnyRows.{row, rows_from}
use Rattle.polars_arrays_nested.specs.declared.any_array.AnyArray.{AnyArray}
use Rattle.polars_compare_leaves.specs.Sameness.{same, same_rows}
use Rattle.polars_compare_nested.specs.Bits.{SameBits}

and_false : (x : Bool) → x && false ≡ false
and_false true = refl
and_false false = refl

pub length-window : {A : Type 0} (at n : ℕ) (xs : List A) → at + n ≤ length xs → length (window at n xs) ≡ n
length-window at n xs within = omega (arith, within, length-take n (drop at xs), length-drop at xs)

pub get_or-window : {A : Type 0} (at n : ℕ) (xs : List A) (i : ℕ) (d : A) → i < n → get_or (window at n xs) i d ≡ get_or xs (at + i) d
get_or-window at n xs i d below = get_or-take n (drop at xs) i d below ∙ get_or-drop at xs i d

-- each bit says whether f and g give the same row there
record Agreeing (agree : Row → Row → Bool) (f : ℕ → Row) (a : ℕ) (g : ℕ → Row) (b n : ℕ) (bits : List Bool) : Type 0 where
  size : length bits ≡ n
  at_each : (i : ℕ) → i < n → get_or bits i false ≡ same agree (f (a + i)) (g (b + i))

agreeing-tail : (agree : Row → Row → Bool) (x : Bool) (bits : List Bool) (f : ℕ → Row) (a : ℕ) (g : ℕ → Row) (b n : ℕ) → Agreeing agree f a g b (suc n) (x ∷ bits) → Agreeing agree f (a + 1) g (b + 1) n bits
agreeing-tail agree x bits f a g b n h = record {
  size = omega (arith, h.size);
  at_each = λ i low.
      let at : get_or bits i false ≡ same agree (f (a + suc i)) (g (b + suc i)) = h.at_each (suc i) (omega arith) in
      let i' : a + 1 + i ≡ a + suc i = omega arith in
      let j' : b + 1 + i ≡ b + suc i = omega arith in
      rw (i', j') at;
}

all_agree : (agree : Row → Row → Bool) (bits : List Bool) (f : ℕ → Row) (a : ℕ) (g : ℕ → Row) (b n : ℕ) → Agreeing agree f a g b n bits → list_all (λ b. b) bits ≡ same_rows agree (rows_from f a n) (rows_from g b n)
all_agree agree [] f a g b zero h = refl
all_agree agree [] f a g b (suc n) h = absurd (omega (arith, h.size))
all_agree agree (x ∷ bits) f a g b zero h = absurd (omega (arith, h.size))
all_agree agree (x ∷ bits) f a g b (suc n) h =
    let first : x ≡ same agree (f a) (g b) =
    (let at : x ≡ same agree (f (a + 0)) (g (b + 0)) = h.at_each 0 (omega arith) in rw (add-zero, add-zero) at at) in
    let rest = all_agree agree bits f (a + 1) g (b + 1) n (agreeing-tail agree x bits f a g b n h) in
    cc

-- bits that are all set say that two windows are the same rows
pub all_same : (agree : Row → Row → Bool) (x y : AnyArray) (a b n : ℕ) (bits : List Bool) → SameBits agree x a y b n bits → list_all (λ b. b) bits ≡ same_rows agree (rows_from (row x) a n) (rows_from (row y) b n)
all_same agree x y a b n bits h =
    all_agree agree bits (row x) a (row y) b n (record { size = h.size; at_each = h.at_each })

-- the bits of a part of two windows
pub same_bits-part : (agree : Row → Row → Bool) (x y : AnyArray) (a b n : ℕ) (bits : List Bool) (at m : ℕ) → SameBits agree x a y b n bits → at + m ≤ n → SameBits agree x (a + at) y (b + at) m (window at m bits)
same_bits-part agree x y a b n bits at m h within = record {
  size = length-window at m bits (omega (arith, within, h.size));
  at_each = λ i low.
      let there : get_or bits (at + i) false ≡ same agree (row x (a + (at + i))) (row y (b + (at + i))) = h.at_each (at + i) (omega arith) in
      rw (get_or-window at m bits i false low, add_assoc, add_assoc) there;
}

-- and whether that part is the same rows
pub part_same : (agree : Row → Row → Bool) (x y : AnyArray) (a b n : ℕ) (bits : List Bool) (at m : ℕ) → SameBits agree x a y b n bits → at + m ≤ n → list_all (λ b. b) (window at m bits) ≡ same_rows agree (rows_from (row x) (a + at) m) (rows_from (row y) (b + at) m)
part_same agree x y a b n bits at m h within =
    all_same agree x y (a + at) (b + at) m (window at m bits) (same_bits-part agree x y a b n bits at m h within)

-- rows of two lengths are not the same
pub other_length : (agree : Row → Row → Bool) (f : ℕ → Row) (a n : ℕ) (g : ℕ → Row) (b m : ℕ) → n ≢ m → same_rows agree (rows_from f a n) (rows_from g b m) ≡ false
other_length agree f a zero g b zero h = absurd (h refl)
other_length agree f a zero g b (suc m) h = refl
other_length agree f a (suc n) g b zero h = refl
other_length agree f a (suc n) g b (suc m) h =
    rw (other_length agree f (a + 1) n g (b + 1) m (λ e. h (ap suc e))) (and_false _)

pub ruleset window_bits = (length-window)
