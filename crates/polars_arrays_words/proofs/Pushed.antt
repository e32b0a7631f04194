-- Words pushed after others.
use Rattle.std.proofs.Common.{◌≡◌, ℕ, ◌+◌, ◌-◌, Bool, List, [], ◌∷◌, ◌++◌, length, get_or, sym, ap, ◌∙◌, subst, below_more, arith}
use Rattle.std.proofs.lemmas.List.{length-append, get_or_append_left, get_or-append_right}
use Rattle.polars_arrays_words.specs.Bits.{IsWord, AreWords}

last-read : (words : List ℕ) (word n : ℕ) → length words ≡ n → get_or (words ++ word ∷ []) n 0 ≡ word
last-read words word n e =
    let here : n - n ≡ 0 = omega arith in
    get_or-append_right words (word ∷ []) n n 0 e (omega arith) ∙ ap (λ i. get_or (word ∷ []) i 0) here

-- a word more
pub AreWords-pushed : (f : ℕ → Bool) (n m word : ℕ) (words more : List ℕ) → AreWords f n words → IsWord f n word → more ≡ words ++ word ∷ [] → m ≡ n + 1 → AreWords f m more
AreWords-pushed f n m word words more before next e is =
    subst (λ (j : ℕ). AreWords f j more) (sym is) (subst (λ (ws : List ℕ). AreWords f (n + 1) ws) (sym e) (record {
      count = length-append words (word ∷ []) ∙ ap (λ j. j + 1) before.count;
      each = below_more _ _
          (λ k lt. subst (IsWord f k) (sym (get_or_append_left words (word ∷ []) 0 k (omega (arith, before.count)))) (before.each k lt))
          (subst (IsWord f n) (sym (last-read words word n before.count)) next);
    }))
