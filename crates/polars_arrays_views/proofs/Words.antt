-- Bytes and the numbers that they spell.
use Rattle.std.proofs.Common.{◌≡◌, ◌↔◌, ℕ, zero, suc, IsTrue, nat_eq, List, [], ◌∷◌, length, sym, ap, ◌∙◌, arith}
use Rattle.std.specs.Int.{w64, from_le_bytes, to_le_bytes}
use Rattle.std.proofs.lemmas.Nat.{le_bytes_8}
use Rattle.std.proofs.lemmas.Bool.Decides.{Decides-eqb}
use Rattle.polars_arrays_flat.specs.ByteOrder.{AreBytes}
use Rattle.polars_arrays_views.specs.Views.{padded}

-- eight bytes are known by their number
pub same_word : (xs ys : List ℕ) (m n : ℕ) → length xs ≡ 8 → length ys ≡ 8 → AreBytes xs → AreBytes ys → m ≡ from_le_bytes w64 xs → n ≡ from_le_bytes w64 ys → IsTrue (nat_eq m n) ↔ (xs ≡ ys)
same_word xs ys m n p q bx by e f = (
  (λ t. sym (le_bytes_8 xs m p bx e) ∙ ap (to_le_bytes w64) ((Decides-eqb m n).0 t) ∙ le_bytes_8 ys n q by f),
  (λ s. (Decides-eqb m n).1 (e ∙ ap (from_le_bytes w64) s ∙ sym f)),
)

pub bytes_padded : (n : ℕ) (xs : List ℕ) → AreBytes xs → AreBytes (padded n xs)
bytes_padded zero xs b k = omega arith
bytes_padded (suc n) [] b zero = omega arith
bytes_padded (suc n) [] b (suc k) = bytes_padded n [] b k
bytes_padded (suc n) (x ∷ xs) b zero = b zero
bytes_padded (suc n) (x ∷ xs) b (suc k) = bytes_padded n xs (λ j. b (suc j)) k
