-- Lists that are written by the numbers of their elements, an element at a time.
use Rattle.std.proofs.Common.{◌≡◌, ◌+◌, ℕ, List, ◌++◌, map, arith, ap, sym, ◌∙◌}
use Rattle.std.proofs.lemmas.List.FromFn.{length-map-range_with_len, map-range_with_len_more}
use Rattle.std.specs.List.{range_with_len}
use Rattle.diff_words.proofs.ListLemmas.{listed_more}
use Rattle.diff_words.specs.Lists.{gap, listed}

-- a loop that writes the elements of a list, a step on
pub counted_written : (separator : List ℕ) (f : ℕ → List ℕ) (old before gapped after : List ℕ) (n : ℕ)
    → before ≡ old ++ listed separator (map f (range_with_len 0 n)) → gapped ≡ before ++ gap separator n → after ≡ gapped ++ f n
    → after ≡ old ++ listed separator (map f (range_with_len 0 (n + 1)))
counted_written separator f old before gapped after n b g a =
    a ∙ (ap (λ l. l ++ f n) (g ∙ ap (λ l. l ++ gap separator n) b)
    ∙ (listed_more separator old (map f (range_with_len 0 n)) (f n) n (sym (length-map-range_with_len f 0 n))
    ∙ ap (λ l. old ++ listed separator l) (sym (map-range_with_len_more f 0 n n (omega arith)))))
