-- Texts that are written piece by piece.
use Rattle.std.proofs.Common.{◌≡◌, ℕ, List, [], ◌∷◌, ◌++◌, ap, sym, ◌∙◌}
use Rattle.std.proofs.lemmas.List.{append-nil, append_assoc}
use Rattle.diff_words.proofs.QuotedLemmas.{quotes_around}

-- one piece more
pub piece : (old text before more after : List ℕ) → before ≡ old ++ text → after ≡ before ++ more → after ≡ old ++ (text ++ more)
piece old text before more after b a = a ∙ (ap (λ l. l ++ more) b ∙ append_assoc old text more)

-- two pieces more
pub pieces : (old text before more last after : List ℕ) → before ≡ old ++ text → after ≡ before ++ more ++ last → after ≡ old ++ (text ++ more ++ last)
pieces old text before more last after b a =
    a ∙ (ap (λ l. l ++ more ++ last) b ∙ (ap (λ l. l ++ last) (append_assoc old text more) ∙ append_assoc old (text ++ more) last))

-- the quote after a text, of which nothing is left to write
pub quote_behind : (old texts rest before after : List ℕ) → before ++ rest ≡ (old ++ 34 ∷ []) ++ texts → rest ≡ [] → after ≡ before ++ 34 ∷ [] → after ≡ old ++ (34 ∷ texts ++ 34 ∷ [])
quote_behind old texts rest before after written none a =
    let all : before ≡ (old ++ 34 ∷ []) ++ texts = sym (append-nil before) ∙ (ap (λ l. before ++ l) (sym none) ∙ written) in
    a ∙ (ap (λ l. l ++ 34 ∷ []) all ∙ quotes_around old texts)
