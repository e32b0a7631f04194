-- The counts of columns, a pair more.
use Rattle.std.proofs.Common.{◌≡◌, ◌<◌, ◌≤◌, ◌+◌, ℕ, Bool, cond, List, [], length, get_or, map, replicate, take, arith, ap, sym, ◌∙◌}
use Rattle.std.proofs.lemmas.List.{get_or-replicate, length-replicate}
use Rattle.std.proofs.lemmas.List.FromFn.{fill_by_all, get_or-map-range_with_len, length-map-range_with_len}
use Rattle.std.proofs.lemmas.List.Sums.{count_by-le-length, sum_by_more}
use Rattle.std.specs.List.{count_by, range_with_len}
use Rattle.diff_report.specs.Counts.{AddsWhere}

-- before the first pair each count is 0
pub counts_none : {X : Type 0} (test : ℕ → X → Bool) (width : ℕ) → replicate width 0 ≡ map (λ column. count_by (test column) []) (range_with_len 0 width)
counts_none test width = fill_by_all (λ column. count_by (test column) []) (replicate width 0) width 0 (length-replicate width 0) (λ k within. get_or-replicate width k 0 0 within)

-- one pair more
pub counts_more : {X : Type 0} (test : ℕ → X → Bool) (width : ℕ) (xs : List X) (n : ℕ) (d : X) (old new : List ℕ) → n < length xs
    → old ≡ map (λ column. count_by (test column) (take n xs)) (range_with_len 0 width)
    → AddsWhere (λ column. test column (get_or xs n d)) old new
    → new ≡ map (λ column. count_by (test column) (take (n + 1) xs)) (range_with_len 0 width)
counts_more test width xs n d old new within before adds =
    fill_by_all (λ column. count_by (test column) (take (n + 1) xs)) new width 0 (adds.as_many ∙ size) each
  where
    size : length old ≡ width
    size = ap length before ∙ length-map-range_with_len (λ column. count_by (test column) (take n xs)) 0 width

    each : (k : ℕ) → k < width → get_or new k 0 ≡ count_by (test k) (take (n + 1) xs)
    each k below =
        let was : get_or old k 0 ≡ count_by (test k) (take n xs) =
        ap (λ l. get_or l k 0) before ∙ get_or-map-range_with_len (λ column. count_by (test column) (take n xs)) 0 width k k 0 below (omega arith) in
        adds.each k (omega (arith, size, below))
        ∙ (ap (λ m. m + cond (test k (get_or xs n d)) 1 0) was ∙ sym (sum_by_more (λ x. cond (test k x) 1 0) xs n d within))

-- a count is at most how many pairs there are
pub count_within : {X : Type 0} (test : ℕ → X → Bool) (width : ℕ) (xs : List X) (counts : List ℕ) → counts ≡ map (λ column. count_by (test column) xs) (range_with_len 0 width)
    → (k : ℕ) → k < length counts → get_or counts k 0 ≤ length xs
count_within test width xs counts is k within =
    let size : length counts ≡ width = ap length is ∙ length-map-range_with_len (λ column. count_by (test column) xs) 0 width in
    let count : get_or counts k 0 ≡ count_by (test k) xs =
    ap (λ l. get_or l k 0) is ∙ get_or-map-range_with_len (λ column. count_by (test column) xs) 0 width k k 0 (omega (arith, size, within)) (omega arith) in
    let most : count_by (test k) xs ≤ length xs = count_by-le-length (test k) xs in
    omega (arith, count, most)
