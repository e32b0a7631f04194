-- Lists that all have equally many items.
use Rattle.std.proofs.Common.{◌≡◌, ◌+◌, ◌-◌, ◌*◌, ◌<◌, ◌≤◌, ℕ, zero, suc, Bool, true, false, eqb, List, take, drop, sym, subst, ap₂, ◌∙◌, arith, add-zero}
use Rattle.std.specs.Prelude.{Option}
use Rattle.std.specs.List.{list_all}
use Rattle.std.proofs.lemmas.Bool.{cases_lt}
use mathlib.Core.Logic.{⊎_elim}
use Rattle.polars_arrays_words.proofs.Firsts.{first_same}
use Rattle.polars_arrays_words.specs.Bits.{is_bit}
use Rattle.polars_arrays_words.specs.Blocks.{blocks_all}
use Rattle.polars_arrays_words.specs.Packing.{IsPacked}
use Rattle.polars_compare_nested.specs.Runs.{AreSpans, HaveWidth, all_items, all_lists, lists_of_width, span_between, start_of}
use Rattle.polars_compare_nested.proofs.ListRuns.{eqb_false, eqb_true}
use Rattle.polars_compare_nested.proofs.MatchBits.{get_or-width, packed_bit}

-- a word of lists more, each bit of which says that its list has so many items
pub width_behind :
    (all : List (Option ℕ)) (a done count width word : ℕ) → HaveWidth all a done width → IsPacked word (lists_of_width all (a + done) count width) 0 count →
    ((i : ℕ) → i < count → is_bit word i ≡ true) → HaveWidth all a (done + count) width
width_behind all a done count width word before packed ones i low =
    ⊎_elim
    (λ lt. before i lt)
    (λ past.
    let k : ℕ = i - done in
    let there : k < count = omega (arith, past, low) in
    let place : a + done + k ≡ a + i = omega (arith, past) in
    subst (λ (p : ℕ). span_between all p ≡ width) place
    (eqb_true (span_between all (a + done + k)) width
    (sym (packed_bit word count (lists_of_width all (a + done) count width) packed k there ∙ get_or-width all (a + done) count width k there)
    ∙ ones k there)))
    (cases_lt i done)

-- a bit that is false says of one of n lists that it has another number
pub other_width :
    (all : List (Option ℕ)) (a n done count width word k : ℕ) → done + count ≤ n → IsPacked word (lists_of_width all (a + done) count width) 0 count → k < count →
    is_bit word k ≡ false → HaveWidth all a n width → ⊥
other_width all a n done count width word k within packed low is have =
    let place : a + (done + k) ≡ a + done + k = omega arith in
    let other : eqb (span_between all (a + done + k)) width ≡ false =
    sym (packed_bit word count (lists_of_width all (a + done) count width) packed k low ∙ get_or-width all (a + done) count width k low) ∙ is in
    eqb_false (span_between all (a + done + k)) width other (subst (λ (p : ℕ). span_between all p ≡ width) place (have (done + k) (omega (arith, within, low))))

-- the places of such lists are so far apart
pub width_places : (all : List (Option ℕ)) (a n width : ℕ) → AreSpans all a n → HaveWidth all a n width → start_of all (a + n) ≡ start_of all a + width * n
width_places all a zero width spans have = rw (add-zero a) (omega arith)
width_places all a (suc n) width spans have =
    let before = width_places all a n width (λ i low. spans i (omega arith)) (λ i low. have i (omega arith)) in
    let here : span_between all (a + n) ≡ width = have n (omega arith) in
    let rise : start_of all (a + n) ≤ start_of all (a + n + 1) = (spans n (omega arith)).2 in
    let next : a + suc n ≡ a + n + 1 = omega arith in
    let more : width * suc n ≡ width * n + width = omega arith in
    rw (next, more) (omega (arith, before, here, rise))

-- so that they are blocks of the items
pub width_blocks : (items : List Bool) (all : List (Option ℕ)) (a n width : ℕ) → AreSpans all a n → HaveWidth all a n width → blocks_all width n items ≡ all_lists items all (start_of all a) a n
width_blocks items all a n width spans have =
    first_same (λ i. list_all (λ b. b) (take width (drop (width * i) items))) (λ i. all_items items all (start_of all a) (a + i)) n
    (λ i low.
    let far = width_places all a i width (λ j below. spans j (omega arith)) (λ j below. have j (omega arith)) in
    let at : width * i ≡ start_of all (a + i) - start_of all a = omega (arith, far) in
    ap₂ (λ p w. list_all (λ b. b) (take w (drop p items))) at (sym (have i low)))
