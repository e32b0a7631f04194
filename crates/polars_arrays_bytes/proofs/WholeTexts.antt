-- Texts that the bytes as a whole show.
use Rattle.std.proofs.Common.{◌≡◌, ◌<◌, ◌≤◌, ◌+◌, ◌-◌, ℕ, ℤ, zero, suc, List, [], length, get_or, drop, refl, ap, sym, subst, ◌∙◌, arith}
use Rattle.std.specs.Prelude.{Option, Some, None}
use Rattle.std.specs.Str.{IsUtf8, IsAscii, IsCharBoundary}
use Rattle.std.proofs.Math.Nat.{eq-or-lt_of_le}
use Rattle.std.proofs.lemmas.List.Elements.{All-from_get_or}
use Rattle.std.proofs.lemmas.Str.{IsUtf8-between, IsUtf8-from_ascii, IsAscii-take, IsAscii-drop}
use mathlib.Core.Logic.{⊎_elim}
use Rattle.polars_arrays_flat.specs.Validity.{window}
use Rattle.polars_arrays_bytes.specs.OffsetStrings.{place_at, places, row_count, between, string_between, strings_between, IsWithin, Bounds, AreGood}
use Rattle.polars_arrays_bytes.specs.Texts.{AreBegun, AreTexts}
use Rattle.polars_arrays_bytes.proofs.OffsetWindows.{length-places, length-strings, string_of-places}
use Rattle.polars_arrays_bytes.proofs.Windows.{window_within, length-window, get_or-window}

abbrev held : Option ℕ → ℕ
held (Some at) = at
held None = 0

-- two numbers of one place are one
pub one_place : (p : Option ℕ) (a b : ℕ) → p ≡ Some a → p ≡ Some b → a ≡ b
one_place p a b is_a is_b = sym (ap held is_a) ∙ ap held is_b

-- what bounds say of the place where a row ends
record Before (from : Option ℕ) (n end : ℕ) : Type 0 where
  pub at : ℕ
  pub is : from ≡ Some at
  pub rising : at ≤ end
  pub within : end ≤ n

before : (n : ℕ) (from to : Option ℕ) → Bounds n from to → (end : ℕ) → to ≡ Some end → Before from n end
before n (Some from) (Some to) bounds end same = record {
  at = from;
  is = refl;
  rising = omega (arith, bounds.0, ap held same);
  within = omega (arith, bounds.1, ap held same);
}
before n None (Some to) bounds end same = absurd bounds
before n (Some from) None bounds end same = absurd bounds
before n None None bounds end same = absurd bounds

-- good places rise
pub rises : (n : ℕ) (all : List (Option ℕ)) → AreGood n all → (i k a b : ℕ) → i + k ≤ row_count all → place_at all i ≡ Some a → place_at all (i + k) ≡ Some b → a ≤ b
rises n all good i zero a b within start end =
    omega (arith, one_place (place_at all i) a b start (ap (place_at all) (omega arith) ∙ end))
rises n all good i (suc k) a b within start end =
    let last = before n (place_at all (i + k)) (place_at all (i + k + 1)) (good.rows (i + k) (omega (arith, within))) b (ap (place_at all) (omega arith) ∙ end) in
    omega (arith, last.rising, rises n all good i k a last.at (omega (arith, within)) start last.is)

-- and lie within the bytes
pub lies : (n : ℕ) (all : List (Option ℕ)) → AreGood n all → (i a : ℕ) → i ≤ row_count all → place_at all i ≡ Some a → a ≤ n
lies n all good zero a within is = subst (IsWithin n) is good.first
lies n all good (suc k) a within is =
    (before n (place_at all k) (place_at all (k + 1)) (good.rows k (omega (arith, within))) a (ap (place_at all) (omega arith) ∙ is)).within

missing_end : (n : ℕ) (from : Option ℕ) → Bounds n from None → ⊥
missing_end n (Some from) bounds = bounds
missing_end n None bounds = bounds

-- each place is there
pub there : (n : ℕ) (all : List (Option ℕ)) → AreGood n all → (i : ℕ) → i ≤ row_count all → place_at all i ≡ None → ⊥
there n all good zero within none = subst (IsWithin n) none good.first
there n all good (suc k) within none =
    missing_end n (place_at all k) (subst (Bounds n (place_at all k)) (ap (place_at all) (omega arith) ∙ none) (good.rows k (omega (arith, within))))

-- the ends of the bytes that rows use
pub record Ends (n : ℕ) (all : List (Option ℕ)) (from to : ℕ) : Type 0 where
  pub good : AreGood n all
  pub start : place_at all 0 ≡ Some from
  pub end : place_at all (row_count all) ≡ Some to

pub offset_ends : {A : Type 0} (value : A → ℤ) (offsets : List A) (n from to : ℕ) → AreGood n (places value offsets) → place_at (places value offsets) 0 ≡ Some from → place_at (places value offsets) (row_count offsets) ≡ Some to → Ends n (places value offsets) from to
offset_ends value offsets n from to good start end = record {
  good = good;
  start = start;
  end = ap (λ (k : ℕ). place_at (places value offsets) (k - 1)) (length-places value offsets) ∙ end;
}

pub ends_within : (n : ℕ) (all : List (Option ℕ)) (from to : ℕ) → Ends n all from to → (from ≤ to) × (to ≤ n)
ends_within n all from to e = (
  rises n all e.good 0 (row_count all) from to (omega arith) e.start (ap (place_at all) (omega arith) ∙ e.end),
  lies n all e.good (row_count all) to (omega arith) e.end,
)

-- a row between these ends
record Row (all : List (Option ℕ)) (from to i : ℕ) : Type 0 where
  pub start : ℕ
  pub end : ℕ
  pub starts : place_at all i ≡ Some start
  pub ends : place_at all (i + 1) ≡ Some end
  pub low : from ≤ start
  pub rising : start ≤ end
  pub high : end ≤ to

pub record Placed (all : List (Option ℕ)) (i : ℕ) : Type 0 where
  pub at : ℕ
  pub is : place_at all i ≡ Some at

placed : (n : ℕ) (all : List (Option ℕ)) → AreGood n all → (i : ℕ) → i ≤ row_count all → Placed all i
placed n all good i within = by (place_at all i) refl
  where
    by : (p : Option ℕ) → place_at all i ≡ p → Placed all i
    by (Some at) is = record { at = at; is = is }
    by None is = absurd (there n all good i within is)

row_inside : (n : ℕ) (all : List (Option ℕ)) (from to : ℕ) → Ends n all from to → (i : ℕ) → i < row_count all → Row all from to i
row_inside n all from to e i below =
    let a = placed n all e.good i (omega (arith, below)) in
    let b = placed n all e.good (i + 1) (omega (arith, below)) in
    record {
      start = a.at;
      end = b.at;
      starts = a.is;
      ends = b.is;
      low = rises n all e.good 0 i from a.at (omega (arith, below)) e.start (ap (place_at all) (omega arith) ∙ a.is);
      rising = rises n all e.good i 1 a.at b.at (omega (arith, below)) a.is b.is;
      high = rises n all e.good (i + 1) (row_count all - (i + 1)) b.at to (omega (arith, below)) b.is (ap (place_at all) (omega (arith, below)) ∙ e.end);
    }

-- a row's string is a part of the bytes between the ends
string_part : (all : List (Option ℕ)) (values : List ℕ) (from to i : ℕ) (r : Row all from to i) → window (r.start - from) (r.end - r.start) (window from (to - from) values) ≡ string_between all values i
string_part all values from to i r =
    window_within from (to - from) (r.start - from) (r.end - r.start) values (omega (arith, r.low, r.rising, r.high))
    ∙ ap (λ (k : ℕ). window k (r.end - r.start) values) (omega (arith, r.low))
    ∙ sym (ap (λ (p : Option ℕ). between values p (place_at all (i + 1))) r.starts ∙ ap (between values (Some r.start)) r.ends)

-- rows are texts if the part of each is one
rows_are : (n : ℕ) (all : List (Option ℕ)) (values : List ℕ) (from to : ℕ) → Ends n all from to → ((i : ℕ) → i < row_count all → (r : Row all from to i) → IsUtf8 (window (r.start - from) (r.end - r.start) (window from (to - from) values))) → AreTexts (strings_between all values)
rows_are n all values from to e each =
    All-from_get_or IsUtf8 (strings_between all values) []
    (λ i below.
    let row : i < row_count all = omega (arith, below, length-strings all values) in
    let r = row_inside n all from to e i row in
    subst IsUtf8 (string_part all values from to i r ∙ string_of-places all values i row) (each i row r))

-- bytes that are ASCII show texts
pub ascii_texts : (n : ℕ) (all : List (Option ℕ)) (values : List ℕ) (from to : ℕ) → Ends n all from to → IsAscii (window from (to - from) values) → AreTexts (strings_between all values)
ascii_texts n all values from to e ascii =
    rows_are n all values from to e
    (λ i below r.
    let bytes = window from (to - from) values in
    IsUtf8-from_ascii (window (r.start - from) (r.end - r.start) bytes) (IsAscii-take (drop (r.start - from) bytes) (r.end - r.start) (IsAscii-drop bytes (r.start - from) ascii)))

-- a character begins at each place, or the bytes end there
boundary : (all : List (Option ℕ)) (values : List ℕ) (from to : ℕ) → Ends (length values) all from to → AreBegun all values to → (i at : ℕ) → i ≤ row_count all → place_at all i ≡ Some at → from ≤ at → at ≤ to → IsCharBoundary (window from (to - from) values) (at - from)
boundary all values from to e begun i at within is low high =
    let bounds = ends_within (length values) all from to e in
    let long : length (window from (to - from) values) ≡ to - from = length-window from (to - from) values (omega (arith, bounds.0, bounds.1)) in (
      omega (arith, long, low, high),
      λ inside wide.
          let below : at - from < to - from = omega (arith, inside, long) in
          let read : get_or (window from (to - from) values) (at - from) 0 ≡ get_or values at 0 = get_or-window from (to - from) values (at - from) 0 below ∙ ap (λ (k : ℕ). get_or values k 0) (omega (arith, low)) in
          let lead : 192 ≤ get_or values at 0 = ⊎_elim
          (λ last. absurd (omega (arith, below, low, one_place (place_at all i) at to is (ap (place_at all) last ∙ e.end))))
          (λ row. begun i row at is (omega (arith, below, low)) (omega (arith, wide, read)))
          (eq-or-lt_of_le within) in
          omega (arith, lead, read),
    )

-- bytes that are UTF-8, and are cut between characters alone, show texts
pub begun_texts : (all : List (Option ℕ)) (values : List ℕ) (from to : ℕ) → Ends (length values) all from to → IsUtf8 (window from (to - from) values) → AreBegun all values to → AreTexts (strings_between all values)
begun_texts all values from to e text begun =
    rows_are (length values) all values from to e
    (λ i below r.
    let bytes = window from (to - from) values in
    let first = boundary all values from to e begun i r.start (omega (arith, below)) r.starts r.low (omega (arith, r.rising, r.high)) in
    let last = boundary all values from to e begun (i + 1) r.end (omega (arith, below)) r.ends (omega (arith, r.low, r.rising)) r.high in
    let length_is : r.end - from - (r.start - from) ≡ r.end - r.start = omega (arith, r.low, r.rising) in
    subst (λ (k : ℕ). IsUtf8 (window (r.start - from) k bytes)) length_is (IsUtf8-between bytes (r.start - from) (r.end - from) text (omega (arith, r.rising)) first last))
