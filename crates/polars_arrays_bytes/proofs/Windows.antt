-- Windows of byte strings and of rows.
use Rattle.std.proofs.Common.{◌≡◌, ◌<◌, ◌≤◌, ◌+◌, ◌-◌, ◌*◌, ℕ, List, [], length, get_or, map, take, drop, ap, sym, ◌∙◌, arith}
use Rattle.std.specs.List.{range_with_len}
use Rattle.std.proofs.lemmas.List.{same_lists, take-map, drop-map, length-map, take-take, drop-take, drop-drop, length-take, length-drop, get_or-take, get_or-drop}
use Rattle.std.proofs.lemmas.List.FromFn.{length-map-range_with_len, get_or-map-range_with_len}
use Rattle.std.proofs.Math.Nat.{mul-le-mul_left}
use Rattle.std.proofs.lemmas.Nat.{mul-le}
use Rattle.polars_arrays_flat.specs.StoredRows.{byte_slots}
use Rattle.polars_arrays_flat.specs.Row.{Bytes}
use Rattle.polars_arrays_flat.specs.Validity.{window}
use Rattle.polars_arrays_bytes.specs.SizedStrings.{sized_string, sized_strings}

-- a window of a window
pub window_within : {A : Type 0} (start len at n : ℕ) (xs : List A) → at + n ≤ len → window at n (window start len xs) ≡ window (start + at) n xs
window_within start len at n xs within =
    let long : len ≡ at + (len - at) = omega (arith, within) in
    let cut : drop at (take len (drop start xs)) ≡ take (len - at) (drop at (drop start xs)) = ap (λ (k : ℕ). drop at (take k (drop start xs))) long ∙ drop-take at (len - at) (drop start xs) in
    ap (take n) (cut ∙ ap (take (len - at)) (drop-drop at start xs)) ∙ take-take n (len - at) (drop (start + at) xs) (omega (arith, within))

pub window-map : {A B : Type 0} (f : A → B) (at n : ℕ) (xs : List A) → map f (window at n xs) ≡ window at n (map f xs)
window-map f at n xs = sym (ap (take n) (drop-map f at xs) ∙ take-map f n (drop at xs))

pub byte_slots-window : (at n : ℕ) (strings : List (List ℕ)) → byte_slots (window at n strings) ≡ window at n (byte_slots strings)
byte_slots-window at n strings = window-map Bytes at n strings

pub length-window : {A : Type 0} (at n : ℕ) (xs : List A) → at + n ≤ length xs → length (window at n xs) ≡ n
length-window at n xs within = omega (arith, within, length-take n (drop at xs), length-drop at xs)

pub get_or-window : {A : Type 0} (at n : ℕ) (xs : List A) (i : ℕ) (d : A) → i < n → get_or (window at n xs) i d ≡ get_or xs (at + i) d
get_or-window at n xs i d below = get_or-take n (drop at xs) i d below ∙ get_or-drop at xs i d

-- the values of f at n places from `at` on
pub listed-window : {A : Type 0} (f g : ℕ → A) (at n count : ℕ) → at + n ≤ count → ((i : ℕ) → i < n → f i ≡ g (at + i)) → map f (range_with_len 0 n) ≡ window at n (map g (range_with_len 0 count))
listed-window f g at n count within same =
    let long : length (map g (range_with_len 0 count)) ≡ count = length-map-range_with_len g 0 count in
    let cut : length (window at n (map g (range_with_len 0 count))) ≡ n = length-window at n (map g (range_with_len 0 count)) (omega (arith, within, long)) in
    same_lists (map f (range_with_len 0 n)) (window at n (map g (range_with_len 0 count))) (length-map-range_with_len f 0 n ∙ sym cut)
    (λ i d lt.
    let below : i < n = omega (arith, lt, length-map-range_with_len f 0 n) in
    get_or-map-range_with_len f 0 n i i d below (omega arith)
    ∙ same i below
    ∙ sym (get_or-window at n (map g (range_with_len 0 count)) i d below ∙ get_or-map-range_with_len g 0 count (at + i) (at + i) d (omega (arith, within, below)) (omega arith)))

pub sized-window : (size at n count : ℕ) (values : List ℕ) → at + n ≤ count → sized_strings size n (window (size * at) (size * n) values) ≡ window at n (sized_strings size count values)
sized-window size at n count values within =
    listed-window (sized_string size (window (size * at) (size * n) values)) (sized_string size values) at n count within
    (λ i below.
    let fits : size * (i + 1) ≤ size * n = mul-le-mul_left size (omega (arith, below)) in
    let place : size * at + size * i ≡ size * (at + i) = omega arith in
    window_within (size * at) (size * n) (size * i) size values (omega (arith, fits)) ∙ ap (λ (k : ℕ). window k size values) place)

pub string_of-sized : (size count : ℕ) (values : List ℕ) (i : ℕ) → i < count → sized_string size values i ≡ get_or (sized_strings size count values) i []
string_of-sized size count values i below =
    sym (get_or-map-range_with_len (sized_string size values) 0 count i i [] below (omega arith))

pub length-sized : (size count : ℕ) (values : List ℕ) → length (sized_strings size count values) ≡ count
length-sized size count values = length-map-range_with_len (sized_string size values) 0 count

pub length-sized_slots : (size count : ℕ) (values : List ℕ) → length (byte_slots (sized_strings size count values)) ≡ count
length-sized_slots size count values = length-map (sized_strings size count values) Bytes ∙ length-sized size count values

-- the bytes of string i are among those of `count` strings
pub string_within : (size i count : ℕ) → i < count → size * i + size ≤ size * count
string_within size i count below = omega (arith, mul-le size (i + 1) size count (omega arith) (omega (arith, below)))

pub strings_within : (size at n count : ℕ) → at + n ≤ count → size * at + size * n ≤ size * count
strings_within size at n count within = omega (arith, mul-le size (at + n) size count (omega arith) (omega (arith, within)))

pub ruleset sized = (string_of-sized, length-sized, length-sized_slots, string_within, strings_within, sized-window, byte_slots-window)
