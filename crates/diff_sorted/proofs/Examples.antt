-- Worked examples of the definitions.
use Rattle.std.proofs.Common.{◌≡◌, ◌∙◌, ◌<◌, ℕ, zero, suc, [], ◌∷◌, length, take, ap, arith, refl}
use Rattle.std.specs.List.{concat}
use Rattle.std.specs.Prelude.{codes, slice_index}
use Rattle.diff_merge.specs.Rows.{Seen}
use Rattle.diff_sorted.specs.Lines.{HasLines}
use Rattle.diff_sorted.specs.Told.{seen_at}
use Rattle.diff_sorted.specs.declared.lines.Lines.{Lines}

-- with the limit 2 the first two of three lines are kept
two-kept : (l : Lines) → l.text.items ≡ codes "abc" → l.ends.items ≡ 1 ∷ 3 ∷ [] → l.count ≡ 3 → HasLines 2 (codes "a" ∷ codes "bc" ∷ codes "d" ∷ []) l
two-kept l text ends count = record { text = text; count = count; shown = ap length ends; ends = λ k within. ap (λ es. slice_index es k) ends ∙ at k (let two : length l.ends.items ≡ 2 = ap length ends in omega (arith, within, two)) }
  where
    at : (k : ℕ) → k < 2 → slice_index (1 ∷ 3 ∷ []) k ≡ length (concat (take (suc k) (codes "a" ∷ codes "bc" ∷ codes "d" ∷ [])))
    at zero within = refl
    at (suc zero) within = refl
    at (suc (suc k)) within = absurd (omega (arith, within))

-- the second of two rows
second-row : (a b : Seen) → seen_at (a ∷ b ∷ []) 1 ≡ b
second-row a b = refl
