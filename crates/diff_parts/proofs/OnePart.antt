-- Each key is in exactly one of the parts.
use Rattle.std.proofs.Common.{◌≡◌, ◌∙◌, ◌≤◌, ◌<◌, ◌⊎◌, ℕ, zero, suc, arith, sym, subst, inl, inr}
use Rattle.std.proofs.Math.Nat.{mod-eq_of_lt, mod_self}
use Rattle.std.proofs.lemmas.Bool.{cases_eq, eq-eqb, eqb-true}
use Rattle.std.proofs.lemmas.Nat.{mod_below}
use Rattle.std.specs.Prelude.{◌%◌}
use Rattle.diff_keys.specs.Hashes.{key_hash}
use Rattle.diff_parts.specs.Laws.{EachKeyHasAPart}

-- the remainder of a part's number is the number, or 0 where it is the last
remainder : (index count : ℕ) → index ≤ count → ((index < count) × (index % count ≡ index)) ⊎ ((index ≡ count) × (index % count ≡ 0))
remainder index count high = elim (cases_eq index count) [
  | inl same ↦ inr (same, subst (λ n. index % n ≡ 0) same (mod_self index))
  | inr other ↦
      let below : index < count = omega (arith, other, high) in
      inl (below, mod-eq_of_lt below)
]

-- two parts with one remainder are one
one_number : (a b count : ℕ) → 1 ≤ a → a ≤ count → 1 ≤ b → b ≤ count → a % count ≡ b % count → a ≡ b
one_number a b count la ha lb hb same = elim (remainder a count ha) [
  | inl x ↦ elim (remainder b count hb) [
    | inl y ↦ sym x.1 ∙ (same ∙ y.1)
    | inr y ↦ absurd (omega (arith, x.1, y.1, same, la))
  ]
  | inr x ↦ elim (remainder b count hb) [
    | inl y ↦ absurd (omega (arith, x.1, y.1, same, lb))
    | inr y ↦ x.0 ∙ sym y.0
  ]
]

-- the part of a remainder
with_remainder : (r count : ℕ) → r < count → (index : ℕ) × (1 ≤ index) × (index ≤ count) × (index % count ≡ r)
with_remainder zero count below = (count, omega (arith, below), omega arith, mod_self count)
with_remainder (suc r) count below = (suc r, omega arith, omega (arith, below), mod-eq_of_lt below)

pub each_key : EachKeyHasAPart
each_key count key some =
    let hash = key_hash key in
    let (index, low, high, is) = with_remainder (hash % count) count (mod_below hash count some) in (
      index,
      low,
      high,
      eq-eqb _ _ (sym is),
      λ other lo ho h. one_number other index count lo ho low high (sym (eqb-true _ _ h) ∙ sym is),
    )
