-- Texts that are written piece by piece.
use Rattle.std.proofs.Common.{◌≡◌, ℕ, List, ◌++◌, ap, ◌∙◌}
use Rattle.std.proofs.lemmas.List.{append_assoc}

-- one piece more
pub piece : (old text before more after : List ℕ) → before ≡ old ++ text → after ≡ before ++ more → after ≡ old ++ (text ++ more)
piece old text before more after b a = a ∙ (ap (λ l. l ++ more) b ∙ append_assoc old text more)

-- two pieces more
pub pieces : (old text before more last after : List ℕ) → before ≡ old ++ text → after ≡ before ++ more ++ last → after ≡ old ++ (text ++ more ++ last)
pieces old text before more last after b a =
    a ∙ (ap (λ l. l ++ more ++ last) b ∙ (ap (λ l. l ++ last) (append_assoc old text more) ∙ append_assoc old (text ++ more) last))
