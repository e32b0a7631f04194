-- The bytes of strings that lie one after another, and the pairs of rows that are not stored alike.
use Rattle.std.proofs.Common.{◌≡◌, ◌<◌, ◌≤◌, ◌+◌, ◌-◌, ◌*◌, ℕ, zero, suc, Bool, true, false, List, [], ◌∷◌, ◌++◌, Option, Some, None, length, get_or, take, drop, map, arith, ap, sym, subst, ◌∙◌, refl, ◌⊎◌, inl, inr, ◌≢◌, add-one}
use Rattle.std.proofs.Math.Seq.{drop-append_seam, drop-cons, take-add, take-append_seam}
use Rattle.std.proofs.lemmas.Bool.{cases_eq}
use Rattle.std.proofs.lemmas.Grind.{common_steps}
use Rattle.std.proofs.lemmas.List.{drop-drop, get_or-map, get_or_append_left, get_or_default, get_or_push, length-map}
use Rattle.std.proofs.lemmas.List.Concat.{flat_map-cons}
use Rattle.std.proofs.lemmas.List.Elements.{Contains-append_left, Contains-get_or, Contains-push}
use Rattle.std.specs.List.{Contains}
use Rattle.std.specs.Prelude.{ℤ, slice_index}
use Rattle.polars_arrays_bytes.proofs.OffsetWindows.{length-places, length-strings, place_of, place_within, string_of-places}
use Rattle.polars_arrays_bytes.proofs.Windows.{get_or-window, length-window}
use Rattle.polars_arrays_bytes.specs.OffsetStrings.{AreGood, Bounds, IsWithin, place_at, places as places_of, row_count, string_between, strings_between}
use Rattle.polars_arrays_flat.specs.Validity.{window}
use Rattle.polars_arrays_numbers.specs.Naturals.{natural_of}
use Rattle.diff_keys.specs.Rising.{ListsRising}
use Rattle.diff_keys.specs.RisingLaws.{rising_push}
use Rattle.diff_tables.specs.Alike.{AreAsLong, ArePlaces, AreSameCells, AreSameRows, ListsAllBut, NameRowsOf, TellLengths, all_bytes}
use Rattle.diff_tables.specs.Comparison.{ArePairs, IsDifferent}
use Rattle.diff_tables.specs.Tables.{cut_rows}
use Rattle.diff_pairs.proofs.HeldLemmas.{row_within}
use Rattle.diff_tables.proofs.TableLemmas.{length_cut, row_cut}

-- the number of a place
abbrev pub number : Option ℕ → ℕ
number None = 0
number (Some n) = n

-- a place that is there
is_there : (n : ℕ) (p : Option ℕ) → IsWithin n p → (p ≡ Some (number p)) × (number p ≤ n)
is_there n None h = absurd h
is_there n (Some at) h = (refl, h)

-- two places that bound a row
pub record IsBound (n : ℕ) (from to : Option ℕ) : Type 0 where
  pub from_there : from ≡ Some (number from)
  pub to_there : to ≡ Some (number to)
  pub rise : number from ≤ number to
  pub within : number to ≤ n

is_bound : (n : ℕ) (from to : Option ℕ) → Bounds n from to → IsBound n from to
is_bound n (Some from) (Some to) h = record { from_there = refl; to_there = refl; rise = h.0; within = h.1 }
is_bound n None (Some to) h = absurd h
is_bound n (Some from) None h = absurd h
is_bound n None None h = absurd h

-- the bytes of n strings lie between the place at which the first begins and the place `end`, at which the last ends
pub record LieBetween (all : List (Option ℕ)) (values : List ℕ) (at n end : ℕ) : Type 0 where
  pub bound : IsBound (length values) (place_at all at) (place_at all end)
  pub bytes : window (number (place_at all at)) (number (place_at all end) - number (place_at all at)) values ≡ all_bytes (window at n (strings_between all values))

-- bytes up to a place, and those after it
two_windows : (xs : List ℕ) (a m b : ℕ) → a ≤ m → m ≤ b → window a (b - a) xs ≡ window a (m - a) xs ++ window m (b - m) xs
two_windows xs a m b am mb =
    let both : b - a ≡ (m - a) + (b - m) = omega (arith, am, mb) in
    let there : a + (m - a) ≡ m = omega (arith, am) in
    ap (λ k. take k (drop a xs)) both
    ∙ (take-add (m - a) (b - m) (drop a xs)
    ∙ ap (λ l. take (m - a) (drop a xs) ++ take (b - m) l) (drop-drop (m - a) a xs ∙ ap (λ k. drop k xs) there))

-- a string between two places that are there
string_there : (values : List ℕ) (all : List (Option ℕ)) (at a b : ℕ) → place_at all at ≡ Some a → place_at all (at + 1) ≡ Some b → string_between all values at ≡ window a (b - a) values
string_there values all at a b from to = rw (from, to) refl

-- a string, and those after it
one_before : (all : List (Option ℕ)) (values : List ℕ) (n at end : ℕ) → IsBound (length values) (place_at all at) (place_at all (at + 1)) → at < row_count all
    → LieBetween all values (at + 1) n end → LieBetween all values at (suc n) end
one_before all values n at end first below rest = record {
  bound = record { from_there = first.from_there; to_there = rest.bound.to_there; rise = omega (arith, first.rise, rest.bound.rise); within = rest.bound.within };
  bytes = two_windows values _ _ _ first.rise rest.bound.rise ∙ (ap (λ l. window (number (place_at all at)) (number (place_at all (at + 1)) - number (place_at all at)) values ++ l) rest.bytes ∙ sym joined);
}
  where
    is_first : get_or (strings_between all values) at [] ≡ window (number (place_at all at)) (number (place_at all (at + 1)) - number (place_at all at)) values
    is_first = sym (string_of-places all values at below) ∙ string_there values all at _ _ first.from_there first.to_there

    head : drop at (strings_between all values) ≡ get_or (strings_between all values) at [] ∷ drop (suc at) (strings_between all values)
    head = drop-cons (strings_between all values) at [] (omega (arith, below, length-strings all values))

    joined : all_bytes (window at (suc n) (strings_between all values))
        ≡ window (number (place_at all at)) (number (place_at all (at + 1)) - number (place_at all at)) values ++ all_bytes (window (at + 1) n (strings_between all values))
    joined = ap (λ l. all_bytes (take (suc n) l)) head
        ∙ (flat_map-cons (λ s. s) (get_or (strings_between all values) at []) (take n (drop (suc at) (strings_between all values)))
        ∙ (ap (λ s. s ++ all_bytes (take n (drop (suc at) (strings_between all values)))) is_first
        ∙ ap (λ k. window (number (place_at all at)) (number (place_at all (at + 1)) - number (place_at all at)) values ++ all_bytes (take n (drop k (strings_between all values)))) (sym (add-one at))))

pub lie_between : (all : List (Option ℕ)) (values : List ℕ) → AreGood (length values) all → (n at end : ℕ) → end ≡ at + n → end < length all → LieBetween all values at n end
lie_between all values good zero at end e h =
    let same : end ≡ at = omega (arith, e) in
    let here : (place_at all at ≡ Some (number (place_at all at))) × (number (place_at all at) ≤ length values) = is_there (length values) (place_at all at) (place_within (length values) all at good (omega (arith, h, same))) in
    let nothing : number (place_at all at) - number (place_at all at) ≡ 0 = omega arith in
    rw same (record {
      bound = record { from_there = here.0; to_there = here.0; rise = omega arith; within = here.1 };
      bytes = ap (λ k. take k (drop (number (place_at all at)) values)) nothing;
    })
lie_between all values good (suc n) at end e h =
    one_before all values n at end (is_bound (length values) _ _ (good.rows at (omega (arith, h, e)))) (omega (arith, h, e))
    (lie_between all values good n (at + 1) end (omega (arith, e)) h)

some_place : (m : ℕ) (all : List (Option ℕ)) → AreGood m all → 0 < length all
some_place m [] good = absurd good.first
some_place m (p ∷ ps) good = omega arith

-- the ends of n strings are among all ends
pub ends_within : {A : Type 0} (value : A → ℤ) (ends : List A) (values : List ℕ) (at n : ℕ) → AreGood (length values) (places_of value ends) → at + n ≤ length (strings_between (places_of value ends) values) → at + n < length ends
ends_within value ends values at n good within =
    omega (arith, within, length-strings (places_of value ends) values, length-places value ends, some_place (length values) (places_of value ends) good)

-- an end that was read is a place
end_read : {A : Type 0} (value : A → ℤ) (ends : List A) (i : ℕ) (x : A) → x ≡ get_or ends i x → i < length ends → place_at (places_of value ends) i ≡ natural_of (value x)
end_read value ends i x is below = place_of value ends i x below ∙ ap (λ (z : _). natural_of (value z)) (sym is)

-- and is there
pub end_there : {A : Type 0} (value : A → ℤ) (ends : List A) (values : List ℕ) (i : ℕ) (x : A) → AreGood (length values) (places_of value ends) → x ≡ get_or ends i x → i < length ends → natural_of (value x) ≡ None → ⊥
end_there value ends values i x good is below none =
    let missing : place_at (places_of value ends) i ≡ None = end_read value ends i x is below ∙ none in
    subst (IsWithin (length values)) missing (place_within (length values) (places_of value ends) i good (omega (arith, below, length-places value ends)))

-- what lies between two ends that were read
pub record AreBetween (from to : ℕ) (values : List ℕ) (strings : List (List ℕ)) : Type 0 where
  pub rise : from ≤ to
  pub within : to ≤ length values
  pub bytes : window from (to - from) values ≡ all_bytes strings

pub bytes_between : {A : Type 0} (value : A → ℤ) (ends : List A) (values : List ℕ) (at n : ℕ) (x y : A) (from to : ℕ) → AreGood (length values) (places_of value ends) → at + n < length ends
    → x ≡ get_or ends at x → natural_of (value x) ≡ Some from → y ≡ get_or ends (at + n) y → natural_of (value y) ≡ Some to → AreBetween from to values (window at n (strings_between (places_of value ends) values))
bytes_between value ends values at n x y from to good within x_is start y_is end =
    let lies : LieBetween (places_of value ends) values at n (at + n) = lie_between (places_of value ends) values good n at (at + n) refl (omega (arith, within, length-places value ends)) in
    let begins : number (place_at (places_of value ends) at) ≡ from = ap number (end_read value ends at x x_is (omega (arith, within)) ∙ start) in
    let stops : number (place_at (places_of value ends) (at + n)) ≡ to = ap number (end_read value ends (at + n) y y_is within ∙ end) in
    record {
      rise = rw (begins, stops) at lies.bound.rise;
      within = rw stops at lies.bound.within;
      bytes = rw (begins, stops) at lies.bytes;
    }

-- strings of the same lengths and the same bytes are the same
one_same : (x y : List ℕ) (xs ys : List (List ℕ)) → length x ≡ length y → x ++ all_bytes xs ≡ y ++ all_bytes ys → (x ≡ y) × (all_bytes xs ≡ all_bytes ys)
one_same x y xs ys long split = (
  sym (take-append_seam x (all_bytes xs)) ∙ (ap (take (length x)) split ∙ (ap (λ k. take k (y ++ all_bytes ys)) long ∙ take-append_seam y (all_bytes ys))),
  sym (drop-append_seam x (all_bytes xs)) ∙ (ap (drop (length x)) split ∙ (ap (λ k. drop k (y ++ all_bytes ys)) long ∙ drop-append_seam y (all_bytes ys))),
)

same_strings : (xs ys : List (List ℕ)) → length xs ≡ length ys → ((c : ℕ) → c < length xs → length (get_or xs c []) ≡ length (get_or ys c [])) → all_bytes xs ≡ all_bytes ys → xs ≡ ys
same_strings [] [] count lens bytes = refl
same_strings [] (y ∷ ys) count lens bytes = absurd (omega (arith, count))
same_strings (x ∷ xs) [] count lens bytes = absurd (omega (arith, count))
same_strings (x ∷ xs) (y ∷ ys) count lens bytes =
    let split : x ++ all_bytes xs ≡ y ++ all_bytes ys = sym (flat_map-cons (λ s. s) x xs) ∙ (bytes ∙ flat_map-cons (λ s. s) y ys) in
    let both : (x ≡ y) × (all_bytes xs ≡ all_bytes ys) = one_same x y xs ys (lens 0 (omega arith)) split in
    let tail : xs ≡ ys = same_strings xs ys (omega (arith, count)) (λ c within. lens (suc c) (omega (arith, within))) both.1 in
    ap (λ z. z ∷ xs) both.0 ∙ ap (λ zs. y ∷ zs) tail

-- and so are windows of strings
pub same_windows : (n at from : ℕ) (ls rs : List (List ℕ)) → at + n ≤ length ls → from + n ≤ length rs → all_bytes (window at n ls) ≡ all_bytes (window from n rs)
    → ((c : ℕ) → c < n → length (get_or ls (at + c) []) ≡ length (get_or rs (from + c) [])) → window at n ls ≡ window from n rs
same_windows n at from ls rs left right bytes lens =
    same_strings (window at n ls) (window from n rs) (long_left ∙ sym long_right)
    (λ c within.
    let below : c < n = omega (arith, within, long_left) in
    ap length (get_or-window at n ls c [] below) ∙ (lens c below ∙ ap length (sym (get_or-window from n rs c [] below)))) bytes
  where
    long_left : length (window at n ls) ≡ n
    long_left = length-window at n ls left

    long_right : length (window from n rs) ≡ n
    long_right = length-window from n rs right

-- one flag more
pub flag_push : (P : ℕ → Type 0) (flags : List Bool) (flag : Bool) → ((k : ℕ) → k < length flags → get_or flags k false ≡ true → P k)
    → (flag ≡ true → P (length flags)) → (k : ℕ) → k < length (flags ++ flag ∷ []) → get_or (flags ++ flag ∷ []) k false ≡ true → P k
flag_push P flags flag old new k within set = at (cases_eq k (length flags))
  where
    at : (k ≡ length flags) ⊎ (k ≢ length flags) → P k
    at (inl here) = subst P (sym here) (new (sym (get_or_push flags flag false k (sym here)) ∙ set))
    at (inr apart) =
        let below : k < suc (length flags) = grind (arith, common_steps, within) in
        old k (omega (arith, below, apart)) (sym (get_or_append_left flags (flag ∷ []) false k (omega (arith, below, apart))) ∙ set)

-- before the first pair nothing is told
pub none_told : (w : ℕ) (left right : List (List ℕ)) (ls rs : List ℕ) (start : ℕ) → TellLengths w left right ls rs start start []
none_told w left right ls rs start = record { one_each = omega arith; lengths = λ k within. absurd (omega (arith, within)) }

-- one pair more
pub lengths_told : (w : ℕ) (left right : List (List ℕ)) (ls rs : List ℕ) (start p q : ℕ) (flag : Bool) (flags : List Bool) → TellLengths w left right ls rs start p flags → start ≤ p
    → (flag ≡ true → AreAsLong w (w * slice_index ls p) left (w * slice_index rs p) right) → q ≡ p + 1 → TellLengths w left right ls rs start q (flags ++ flag ∷ [])
lengths_told w left right ls rs start p q flag flags old rise new is =
    let size : length (flags ++ flag ∷ []) ≡ suc (length flags) = grind (arith, common_steps) in
    let place : p ≡ start + length flags = omega (arith, old.one_each, rise) in
    record {
      one_each = omega (arith, size, old.one_each, rise, is);
      lengths = flag_push (λ k. AreAsLong w (w * slice_index ls (start + k)) left (w * slice_index rs (start + k)) right) flags flag old.lengths
          (λ set. subst (λ x. AreAsLong w (w * slice_index ls x) left (w * slice_index rs x) right) place (new set));
    }

pub none_but : (P : ℕ → Type 0) → ListsAllBut P 0 []
none_but P = record {
  below = λ k within. absurd (omega (arith, within));
  in_order = λ k within. absurd (omega (arith, within));
  others = λ p within. absurd (omega (arith, within));
}

-- one number more is listed
pub but_listed : (P : ℕ → Type 0) (n m : ℕ) (places : List ℕ) → ListsAllBut P n places → m ≡ suc n → ListsAllBut P m (places ++ n ∷ [])
but_listed P n m places h e = record {
  below = λ k within. below k (cases_eq k (length places)) (grind (arith, common_steps, within));
  in_order = rising_push places n h.below h.in_order;
  others = λ p within. others p (cases_eq p n) within;
}
  where
    below : (k : ℕ) → (k ≡ length places) ⊎ (k ≢ length places) → k < suc (length places) → slice_index (places ++ n ∷ []) k < m
    below k (inl last) within = rw (get_or_push places n 0 k (sym last)) (omega (arith, e))
    below k (inr apart) within =
        let old : slice_index (places ++ n ∷ []) k ≡ slice_index places k = get_or_append_left places (n ∷ []) 0 k (omega (arith, within, apart)) in
        let was : slice_index places k < n = h.below k (omega (arith, within, apart)) in
        rw old (omega (arith, was, e))

    others : (p : ℕ) → (p ≡ n) ⊎ (p ≢ n) → p < m → Contains (places ++ n ∷ []) p ⊎ P p
    others p (inl here) within = inl (rw here (Contains-push places n))
    others p (inr apart) within = elim (h.others p (omega (arith, within, apart, e))) [
      | inl there ↦ inl (Contains-append_left places (n ∷ []) p there)
      | inr holds ↦ inr holds
    ]

-- P holds for one number more
pub but_passed : (P : ℕ → Type 0) (n m : ℕ) (places : List ℕ) → ListsAllBut P n places → P n → m ≡ suc n → ListsAllBut P m places
but_passed P n m places h holds e = record {
  below = λ k within. let was : slice_index places k < n = h.below k within in omega (arith, was, e);
  in_order = h.in_order;
  others = λ p within. others p (cases_eq p n) within;
}
  where
    others : (p : ℕ) → (p ≡ n) ⊎ (p ≢ n) → p < m → Contains places p ⊎ P p
    others p (inl here) within = inr (rw here holds)
    others p (inr apart) within = h.others p (omega (arith, within, apart, e))

-- the same by another word
pub but_as : (P Q : ℕ → Type 0) (n : ℕ) (places : List ℕ) → ((p : ℕ) → p < n → P p → Q p) → ListsAllBut P n places → ListsAllBut Q n places
but_as P Q n places same h = record {
  below = h.below;
  in_order = h.in_order;
  others = λ p within. elim (h.others p within) [
    | inl there ↦ inl there
    | inr holds ↦ inr (same p within holds)
  ];
}

-- numbers of rows name rows of cells
pub rows_named : (w n : ℕ) (cells : List (List ℕ)) (rows : List ℕ) → length cells ≡ w * n → ((p : ℕ) → p < length rows → slice_index rows p < length (cut_rows w n cells)) → NameRowsOf w cells rows
rows_named w n cells rows size within p below =
    let among : slice_index rows p < length (cut_rows w n cells) = within p below in
    let inside : w * slice_index rows p + w ≤ w * n = row_within w n (slice_index rows p) (omega (arith, among, length_cut w n cells)) in
    omega (arith, inside, size)

-- two rows of the same cells are the same
pub same_rows : (w v m n : ℕ) (left right : List (List ℕ)) (ls rs : List ℕ) (p : ℕ) → w ≡ v → slice_index ls p < length (cut_rows w m left) → slice_index rs p < length (cut_rows v n right)
    → AreSameCells w left right ls rs p → AreSameRows (cut_rows w m left) (cut_rows v n right) ls rs p
same_rows w v m n left right ls rs p e left_within right_within same =
    row_cut w m (slice_index ls p) left (omega (arith, left_within, length_cut w m left))
    ∙ (same ∙ (ap (λ k. take k (drop (k * slice_index rs p) right)) e ∙ sym (row_cut v n (slice_index rs p) right (omega (arith, right_within, length_cut v n right)))))

-- pairs of rows that stand at some places
pub pairs_at : (left right : List (List (List ℕ))) (ls rs places : List ℕ) → ArePairs left right ls rs → ArePlaces (length ls) places → ArePairs left right (map (slice_index ls) places) (map (slice_index rs) places)
pairs_at left right ls rs places pairs below = record {
  one_length = length-map places (slice_index ls) ∙ sym (length-map places (slice_index rs));
  left_within = λ k within.
      let inside : k < length places = omega (arith, within, length-map places (slice_index ls)) in
      rw (get_or-map (slice_index ls) places k 0 0 inside) (pairs.left_within (slice_index places k) (below k inside));
  right_within = λ k within.
      let inside : k < length places = omega (arith, within, length-map places (slice_index rs)) in
      let among : slice_index places k < length ls = below k inside in
      rw (get_or-map (slice_index rs) places k 0 0 inside) (pairs.right_within (slice_index places k) (omega (arith, among, pairs.one_length)));
}

-- of rising numbers a later one is greater
rising_far : (xs : List ℕ) → ((k : ℕ) → suc k < length xs → slice_index xs k < slice_index xs (suc k)) → (a d : ℕ) → suc (a + d) < length xs → slice_index xs a < slice_index xs (suc (a + d))
rising_far xs rise a zero h = let same : a + 0 ≡ a = omega arith in rw same (rise a (omega (arith, h)))
rising_far xs rise a (suc d) h =
    let before : slice_index xs a < slice_index xs (suc (a + d)) = rising_far xs rise a d (omega (arith, h)) in
    let last : slice_index xs (suc (a + d)) < slice_index xs (suc (suc (a + d))) = rise (suc (a + d)) (omega (arith, h)) in
    let place : a + suc d ≡ suc (a + d) = omega arith in
    rw place (omega (arith, before, last))

rising_at : (xs : List ℕ) → ((k : ℕ) → suc k < length xs → slice_index xs k < slice_index xs (suc k)) → (a b : ℕ) → a < b → b < length xs → slice_index xs a < slice_index xs b
rising_at xs rise a b less within =
    let place : suc (a + (b - suc a)) ≡ b = omega (arith, less) in
    subst (λ k. slice_index xs a < slice_index xs k) place (rising_far xs rise a (b - suc a) (omega (arith, less, within)))

-- the pairs that differ among those that are not stored alike are all that differ
pub all_changed : (left right : List (List (List ℕ))) (ls rs places changed : List ℕ) → ListsAllBut (AreSameRows left right ls rs) (length ls) places
    → ListsRising (IsDifferent left right (map (slice_index ls) places) (map (slice_index rs) places)) (length (map (slice_index ls) places)) changed
    → ListsRising (IsDifferent left right ls rs) (length ls) (map (slice_index places) changed)
all_changed left right ls rs places changed alike h = record {
  all = λ i. (there i, back i);
  in_order = λ k within.
      let inside : suc k < length changed = omega (arith, within, length-map changed (slice_index places)) in
      let less : slice_index changed k < slice_index changed (suc k) = h.in_order k inside in
      rw (get_or-map (slice_index places) changed k 0 0 (omega (arith, inside)), get_or-map (slice_index places) changed (suc k) 0 0 inside)
      (rising_at places alike.in_order _ _ less (below (suc k) inside));
}
  where
    below : (k : ℕ) → k < length changed → slice_index changed k < length places
    below k inside =
        let among : slice_index changed k < length (map (slice_index ls) places) = ((h.all (slice_index changed k)).0 (Contains-get_or changed k 0 inside)).0 in
        omega (arith, among, length-map places (slice_index ls))

    left_at : (q : ℕ) → q < length places → slice_index (map (slice_index ls) places) q ≡ slice_index ls (slice_index places q)
    left_at q inside = get_or-map (slice_index ls) places q 0 0 inside

    right_at : (q : ℕ) → q < length places → slice_index (map (slice_index rs) places) q ≡ slice_index rs (slice_index places q)
    right_at q inside = get_or-map (slice_index rs) places q 0 0 inside

    there : (i : ℕ) → Contains (map (slice_index places) changed) i → (i < length ls) × IsDifferent left right ls rs i
    there i (k, within, is) =
        let inside : k < length changed = omega (arith, within, length-map changed (slice_index places)) in
        let q : ℕ = slice_index changed k in
        let at : slice_index places (slice_index changed k) ≡ i = sym (get_or-map (slice_index places) changed k 0 i inside) ∙ is in
        let differ : IsDifferent left right (map (slice_index ls) places) (map (slice_index rs) places) (slice_index changed k) = ((h.all (slice_index changed k)).0 (Contains-get_or changed k 0 inside)).1 in
        let within_all : slice_index places (slice_index changed k) < length ls = alike.below (slice_index changed k) (below k inside) in
        (omega (arith, within_all, at), subst (IsDifferent left right ls rs) at (rw (left_at (slice_index changed k) (below k inside), right_at (slice_index changed k) (below k inside)) at differ))

    listed : (i : ℕ) → IsDifferent left right ls rs i → Contains places i → Contains (map (slice_index places) changed) i
    listed i differ (q, inside, is) =
        let at : slice_index places q ≡ i = get_or_default places q 0 i inside ∙ is in
        let apart : IsDifferent left right (map (slice_index ls) places) (map (slice_index rs) places) q = rw (left_at q inside, right_at q inside, at) differ in
        let (t, among, is_q) = (h.all q).1 (omega (arith, inside, length-map places (slice_index ls)), apart) in
        let found : slice_index changed t ≡ q = get_or_default changed t 0 q among ∙ is_q in
        (t, omega (arith, among, length-map changed (slice_index places)), get_or-map (slice_index places) changed t 0 i among ∙ (ap (slice_index places) found ∙ at))

    back : (i : ℕ) → (i < length ls) × IsDifferent left right ls rs i → Contains (map (slice_index places) changed) i
    back i is = elim (alike.others i is.0) [
      | inl among ↦ listed i is.1 among
      | inr same ↦ absurd (is.1 same)
    ]
