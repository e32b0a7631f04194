-- Byte strings of up to sixteen bytes, which are the same where both of their ends are.
use Rattle.std.proofs.Common.{◌≡◌, ◌<◌, ◌≤◌, ◌+◌, ◌-◌, ◌&&◌, ℕ, Bool, nat_eq, min, List, length, take, drop, get_or, sym, ap, ◌∙◌, arith, inl, inr}
use Rattle.std.specs.Bool.{Decides}
use Rattle.std.specs.Str.{bytes_eq}
use Rattle.std.proofs.lemmas.Bool.{cases_lt, and_parts, and_from}
use Rattle.std.proofs.lemmas.Bool.Decides.{Decides-eqb, same_from_decides}
use Rattle.std.proofs.lemmas.List.{same_lists, length-take, get_or-take, get_or-drop, take_all, take-take, drop-take}
use Rattle.std.proofs.lemmas.Slice.Eq.{bytes_eq-Decides}
use Rattle.polars_arrays_flat.specs.Validity.{window}

-- byte i of a window that holds it
in_window : (at w : ℕ) (xs : List ℕ) (i j d : ℕ) → at + j ≡ i → j < w → get_or xs i d ≡ get_or (window at w xs) j d
in_window at w xs i j d place inside =
    sym (get_or-take w (drop at xs) j d inside ∙ get_or-drop at xs j d ∙ ap (λ (k : ℕ). get_or xs k d) place)

-- two windows that overlap or meet, one at the start and one at the end of n bytes, tell all of these
pub ends_tell : (w n : ℕ) (xs ys : List ℕ) → w ≤ n → n ≤ w + w → n ≤ length xs → n ≤ length ys → window 0 w xs ≡ window 0 w ys → window (n - w) w xs ≡ window (n - w) w ys → take n xs ≡ take n ys
ends_tell w n xs ys some few left_in right_in start end =
    same_lists (take n xs) (take n ys) (omega (arith, length-take n xs, length-take n ys, left_in, right_in))
    (λ i d lt.
    let below : i < n = omega (arith, lt, length-take n xs) in
    get_or-take n xs i d below ∙ at_place i d below ∙ sym (get_or-take n ys i d below))
  where
    at_place : (i d : ℕ) → i < n → get_or xs i d ≡ get_or ys i d
    at_place i d below = elim (cases_lt i w) [
      | inl h ↦ in_window 0 w xs i i d (omega arith) h ∙ ap (λ (zs : List ℕ). get_or zs i d) start ∙ sym (in_window 0 w ys i i d (omega arith) h)
      | inr h ↦ in_window (n - w) w xs i (i - (n - w)) d (omega arith) (omega arith) ∙ ap (λ (zs : List ℕ). get_or zs (i - (n - w)) d) end ∙ sym (in_window (n - w) w ys i (i - (n - w)) d (omega arith) (omega arith))
    ]

-- the ends of the same bytes are the same
start_of : (w n : ℕ) (xs : List ℕ) → w ≤ n → window 0 w xs ≡ take w (take n xs)
start_of w n xs some = sym (take-take w n xs some)

end_of : (w n : ℕ) (xs : List ℕ) → w ≤ n → window (n - w) w xs ≡ drop (n - w) (take n xs)
end_of w n xs some =
    sym (ap (λ (k : ℕ). drop (n - w) (take k xs)) (omega (arith, some)) ∙ drop-take (n - w) w xs)

-- two numbers that spell bytes are one where the bytes are
pub one_number : (from : List ℕ → ℕ) (to : ℕ → List ℕ) (m n : ℕ) (xs ys : List ℕ) → m ≡ from xs → n ≡ from ys → to m ≡ xs → to n ≡ ys → Decides (nat_eq m n) (xs ≡ ys)
one_number from to m n xs ys read read' written written' = (
  λ t. sym written ∙ ap to ((Decides-eqb m n).0 t) ∙ written',
  λ e. (Decides-eqb m n).1 (read ∙ ap from e ∙ sym read'),
)

-- tests of both ends are a test of all n bytes
pub both_ends : (w n : ℕ) (xs ys : List ℕ) (start end : Bool) → w ≤ n → n ≤ w + w → n ≤ length xs → n ≤ length ys → Decides start (window 0 w xs ≡ window 0 w ys) → Decides end (window (n - w) w xs ≡ window (n - w) w ys) → Decides (start && end) (take n xs ≡ take n ys)
both_ends w n xs ys start end some few left_in right_in starts ends = (
  λ t. let both = and_parts start end t in ends_tell w n xs ys some few left_in right_in (starts.0 both.0) (ends.0 both.1),
  λ e. and_from start end (starts.1 (start_of w n xs some ∙ ap (take w) e ∙ sym (start_of w n ys some))) (ends.1 (end_of w n xs some ∙ ap (drop (n - w)) e ∙ sym (end_of w n ys some))),
)

-- a test of as many bytes as both have, with one of their lengths
pub equal_as_far : (xs ys : List ℕ) (n : ℕ) (same : Bool) → n ≡ min (length xs) (length ys) → Decides same (take n xs ≡ take n ys) → (nat_eq (length xs) (length ys) && same) ≡ bytes_eq xs ys
equal_as_far xs ys n same least test =
    same_from_decides (nat_eq (length xs) (length ys) && same) (bytes_eq xs ys) (
      λ t. let both = and_parts (nat_eq (length xs) (length ys)) same t in whole ((Decides-eqb (length xs) (length ys)).0 both.0) (test.0 both.1),
      λ e. and_from (nat_eq (length xs) (length ys)) same ((Decides-eqb (length xs) (length ys)).1 (ap (λ (zs : List ℕ). length zs) e)) (test.1 (ap (take n) e)),
    )
    (bytes_eq-Decides xs ys)
  where
    whole : length xs ≡ length ys → take n xs ≡ take n ys → xs ≡ ys
    whole long e = sym (take_all n xs (omega (arith, least, long))) ∙ e ∙ take_all n ys (omega (arith, least, long))
