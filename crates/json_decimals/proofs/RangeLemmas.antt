-- Ranges of digits: one more digit, and what zeros around the others are worth.
use Rattle.std.proofs.Common.{◌≡◌, ◌≢◌, ℕ, zero, suc, ◌+◌, ◌-◌, ◌*◌, ◌^◌, ◌%◌, ◌<◌, ◌≤◌, List, [], ◌∷◌, ◌++◌, length, get_or, take, drop, slice_range, ⊎_elim, arith, ap, sym, ◌∙◌, refl, get_or-drop, length-drop}
use Rattle.std.proofs.lemmas.Bool.{cases_lt}
use Rattle.std.proofs.lemmas.Int.Digits.{digits_value_more}
use Rattle.std.proofs.lemmas.List.{take_more, take_all, get_or-take, length-take-le}
use Rattle.std.proofs.lemmas.Str.{digit_value_digit}
use Rattle.std.proofs.lemmas.Str.Parse.{digit_at}
use Rattle.std.specs.Char.{digit_value}
use Rattle.std.specs.Str.Parse.{AllDigits, digits_value}
use Rattle.fast_float.proofs.Rows.{AllDigits-take, AllDigits-drop, many_more}
use Rattle.json_decimals.specs.Ranges.{IsStart, IsEnd}
use Rattle.json_decimals.proofs.NormalLemmas.{IsStripped}
use Rattle.json_decimals.proofs.SpelledLemmas.{digits_text-digits_value}
use Rattle.json_decimals.specs.Texts.{digits_text}

-- one more digit
pub range_more : (ds : List ℕ) (from i : ℕ) → from ≤ i → i < length ds → slice_range ds from (i + 1) ≡ slice_range ds from i ++ get_or ds i 0 ∷ []
range_more ds from i h l =
    let n : ℕ = i - from in
    let up : i + 1 - from ≡ n + 1 = omega arith in
    let at : from + n ≡ i = omega arith in
    ap (λ k. take k (drop from ds)) up ∙ take_more (drop from ds) n 0 (omega (arith, length-drop from ds)) ∙ ap (λ x. take n (drop from ds) ++ x ∷ []) (get_or-drop from ds n 0 ∙ ap (λ k. get_or ds k 0) at)

-- zeros are worth nothing
zeros_value : (ds : List ℕ) (n : ℕ) → n ≤ length ds → ((k : ℕ) → k < n → get_or ds k 0 ≡ 48) → digits_value 10 (take n ds) ≡ 0
zeros_value ds zero l h = refl
zeros_value ds (suc n) l h =
    let up : suc n ≡ n + 1 = omega arith in
    let less = zeros_value ds n (omega arith) (λ k p. h k (omega arith)) in
    let last : digit_value (get_or ds n 0) ≡ 0 = ap digit_value (h n (omega arith)) in
    ap (λ k. digits_value 10 (take k ds)) up ∙ digits_value_more 10 ds n (omega arith) ∙ omega (arith, less, last)

-- the digits of ds from one place to another are those of its number, without the zeros around them
pub record IsKept (ds : List ℕ) (from to : ℕ) : Type 0 where
  pub stripped : IsStripped (digits_value 10 ds) (digits_value 10 (slice_range ds from to)) (length ds - to)
  pub text : digits_text (digits_value 10 (slice_range ds from to)) ≡ slice_range ds from to
  pub some : 0 < digits_value 10 (slice_range ds from to)

module _ (ds : List ℕ) (from to : ℕ) (digits : AllDigits 10 ds) (s : IsStart ds from) (e : IsEnd ds to) (some : from < to) where
  abbrev rest : List ℕ
  rest = drop from ds

  abbrev kept : List ℕ
  kept = slice_range ds from to

  rest_long : length rest ≡ length ds - from
  rest_long = length-drop from ds

  from_rest : (k : ℕ) → get_or rest k 0 ≡ get_or ds (from + k) 0
  from_rest k = get_or-drop from ds k 0

  front_is : digits_value 10 (take to ds) ≡ digits_value 10 kept
  front_is =
      let at : from + (to - from) ≡ to = omega arith in
      let within = e.within in
      let more = many_more ds from (to - from) (omega arith) in
      let none = zeros_value ds from s.within s.zeros in
      ap (λ k. digits_value 10 (take k ds)) (sym at) ∙ more ∙ ap (λ x. x * 10 ^ (to - from) + digits_value 10 kept) none ∙ omega arith

  behind_is : digits_value 10 (take (length ds - to) (drop to ds)) ≡ 0
  behind_is =
      let within = e.within in
      zeros_value (drop to ds) (length ds - to) (omega (arith, length-drop to ds)) (λ k p. get_or-drop to ds k 0 ∙ e.zeros (to + k) (omega arith) (omega arith))

  whole_is : digits_value 10 ds ≡ digits_value 10 kept * 10 ^ (length ds - to)
  whole_is =
      let within = e.within in
      let at : to + (length ds - to) ≡ length ds = omega arith in
      let more = many_more ds to (length ds - to) (omega arith) in
      ap (digits_value 10) (sym (take_whole ds)) ∙ ap (λ k. digits_value 10 (take k ds)) (sym at) ∙ more
      ∙ ap (λ x. x * 10 ^ (length ds - to) + digits_value 10 (take (length ds - to) (drop to ds))) front_is ∙ omega (arith, behind_is)
    where
      take_whole : (xs : List ℕ) → take (length xs) xs ≡ xs
      take_whole xs = take_all (length xs) xs (omega arith)

  last_is : digits_value 10 kept % 10 ≢ 0
  last_is =
      let n : ℕ = to - from - 1 in
      let within = e.within in
      let up : to - from ≡ n + 1 = omega arith in
      let at : from + n ≡ to - 1 = omega arith in
      let here : get_or rest n 0 ≡ get_or ds (to - 1) 0 = from_rest n ∙ ap (λ k. get_or ds k 0) at in
      let other : get_or ds (to - 1) 0 ≢ 48 = e.digit (omega arith) in
      let digit = digit_at ds (to - 1) digits (omega arith) in
      let value = digit_value_digit (get_or ds (to - 1) 0) digit in
      let more = digits_value_more 10 rest n (omega (arith, rest_long)) in
      let sum : digits_value 10 kept ≡ digits_value 10 (take n rest) * 10 + digit_value (get_or ds (to - 1) 0) = ap (λ k. digits_value 10 (take k rest)) up ∙ more ∙ ap (λ x. digits_value 10 (take n rest) * 10 + digit_value x) here in
      omega (arith, sum, value, other)

  pub kept_is : IsKept ds from to
  kept_is =
      let within = e.within in
      let long : length kept ≡ to - from = length-take-le (to - from) rest (omega (arith, rest_long)) in
      let first : get_or kept 0 0 ≡ get_or ds from 0 = get_or-take (to - from) rest 0 0 (omega arith) ∙ from_rest 0 ∙ ap (λ k. get_or ds k 0) (omega arith) in
      let other : get_or ds from 0 ≢ 48 = s.digit (omega arith) in
      let is = digits_text-digits_value kept (AllDigits-take (to - from) rest (AllDigits-drop from ds digits)) (omega (arith, long)) (λ q. other (sym first ∙ q)) in
      record { stripped = record { is = whole_is; last = last_is }; text = is.0; some = is.1 }

-- digits of which none is left are zeros
pub none_left : (ds : List ℕ) (from to : ℕ) → IsStart ds from → IsEnd ds to → to ≤ from → digits_value 10 ds ≡ 0
none_left ds from to s e h = ap (digits_value 10) (sym (take_all (length ds) ds (omega arith))) ∙ zeros_value ds (length ds) (omega arith) all
  where
    all : (k : ℕ) → k < length ds → get_or ds k 0 ≡ 48
    all k p = ⊎_elim (λ (l : k < from). s.zeros k l) (λ (g : from ≤ k). e.zeros k (omega arith) p) (cases_lt k from)
