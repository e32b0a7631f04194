-- The first number for which a predicate holds, where the predicate changes.
use Rattle.std.proofs.Common.{◌≡◌, ◌<◌, ◌≤◌, ℕ, suc, Option, Some, None, arith, refl, subst, sym, inl, inr}
use Rattle.std.proofs.lemmas.Bool.{cases_eq, cases_lt}
use Rattle.diff_keys.specs.Chains.{IsFirst, IsFirstAt}

-- fewer numbers pass, but the first one still does
pub first_stays : (P Q : ℕ → Type 0) (p n : ℕ) (o : Option ℕ) → IsFirst P p n o → ((x : ℕ) → p ≤ x → x < n → Q x → P x) → ((y : ℕ) → o ≡ Some y → P y → Q y) → IsFirst Q p n o
first_stays P Q p n None h narrow kept = λ x low high q. h x low high (narrow x low high q)
first_stays P Q p n (Some y) h narrow kept = record {
  from = h.from;
  within = h.within;
  holds = kept y refl h.holds;
  before = λ x low high q. h.before x low high (narrow x low (omega (arith, high, h.within)) q);
}

-- the first one does not pass any more, and the next one is the first
pub first_passed : (P Q : ℕ → Type 0) (p n j : ℕ) (o : Option ℕ) → IsFirstAt P p n j → IsFirst P (suc j) n o → ((x : ℕ) → x < n → Q x → P x) → ¬ (Q j) → ((x : ℕ) → j < x → x < n → P x → Q x) → IsFirst Q p n o
first_passed P Q p n j None at h narrow out wide = λ x low high q. elim (cases_lt x j) [
  | inl less ↦ at.before x low less (narrow x high q)
  | inr more ↦ elim (cases_eq j x) [
    | inl here ↦ out (subst Q (sym here) q)
    | inr apart ↦ h x (omega (arith, more, apart)) high (narrow x high q)
  ]
]
first_passed P Q p n j (Some y) at h narrow out wide = record {
  from = omega (arith, at.from, h.from);
  within = h.within;
  holds = wide y (omega (arith, h.from)) h.within h.holds;
  before = λ x low high q. elim (cases_lt x j) [
    | inl less ↦ at.before x low less (narrow x (omega (arith, high, h.within)) q)
    | inr more ↦ elim (cases_eq j x) [
      | inl here ↦ out (subst Q (sym here) q)
      | inr apart ↦ h.before x (omega (arith, more, apart)) high (narrow x (omega (arith, high, h.within)) q)
    ]
  ];
}

-- the same numbers pass from p on, and none from o on before it
pub first_further : (P Q : ℕ → Type 0) (o p n : ℕ) (r : Option ℕ) → o ≤ p → IsFirst P p n r → ((x : ℕ) → o ≤ x → x < n → Q x → p ≤ x) → ((x : ℕ) → p ≤ x → x < n → Q x → P x) → ((x : ℕ) → p ≤ x → x < n → P x → Q x) → IsFirst Q o n r
first_further P Q o p n None rise h late narrow wide = λ x low high q. h x (late x low high q) high (narrow x (late x low high q) high q)
first_further P Q o p n (Some y) rise h late narrow wide = record {
  from = omega (arith, rise, h.from);
  within = h.within;
  holds = wide y h.from h.within h.holds;
  before = λ x low high q.
      let inside : x < n = omega (arith, high, h.within) in
      h.before x (late x low inside q) high (narrow x (late x low inside q) inside q);
}

-- a number that passes is not before the first one
pub first_least : (P : ℕ → Type 0) (p n j x : ℕ) → IsFirstAt P p n j → p ≤ x → P x → j ≤ x
first_least P p n j x at low h = elim (cases_lt x j) [
  | inl less ↦ absurd (at.before x low less h)
  | inr more ↦ more
]
