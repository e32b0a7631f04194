-- Texts of different lengths are not equal.
use Rattle.std.proofs.Common.{◌≡◌, ◌==◌, ◌∙◌, ℕ, Bool, true, false, List, length, refl, sym, ap, eq-eqb, true≢false}
use Rattle.std.specs.Str.{bytes_eq}
use Rattle.std.proofs.lemmas.Slice.Eq.{bytes_eq-Decides}

not_true : (b : Bool) → (b ≡ true → ⊥) → b ≡ false
not_true true h = absurd (h refl)
not_true false h = refl

pub apart : (xs ys : List ℕ) → (length xs == length ys) ≡ false → bytes_eq xs ys ≡ false
apart xs ys e =
    not_true (bytes_eq xs ys) (λ t. true≢false (sym (eq-eqb (length xs) (length ys) (ap length ((bytes_eq-Decides xs ys).0 t))) ∙ e))
