-- Worked examples of the definitions.
use Rattle.std.proofs.Common.{ap, arith, get_or, inl, inr}
use Rattle.std.specs.Borrow.{Bor}
use Rattle.std.specs.Prelude.{◌≡◌, ◌≢◌, ◌<◌, ℕ, zero, suc, List, [], ◌∷◌, None, Some, Contains, refl}
use Rattle.diff_columns.specs.Choice.{IsChosen}
use Rattle.diff_columns.specs.Errors.{IsColumnFault}
use Rattle.diff_columns.specs.Layout.{AreKeyPlaces, HaveSameNames, IsAlone, IsCompared}
use Rattle.diff_columns.specs.Names.{IsKnown, IsMissing, IsRepeated, IsUnknown}
use Rattle.diff_columns.specs.declared.choice.Choice.{Choice}
use Rattle.diff_columns.specs.declared.error.ColumnError.TheVariants.{NameTwice}
use Rattle.diff_columns.specs.declared.error.Side.TheVariants.{Right}

-- the names "a", "b", "c"
abbrev a : List ℕ
a = 97 ∷ []

abbrev b : List ℕ
b = 98 ∷ []

abbrev c : List ℕ
c = 99 ∷ []

-- names of one byte that are the same have the same byte
one-byte : (x y : ℕ) → x ∷ [] ≡ y ∷ [] → x ≡ y
one-byte x y e = ap (λ name. get_or name 0 0) e

-- one name of one byte is not another
one-other : (x y : ℕ) → x ≢ y → ¬ (Contains ((x ∷ []) ∷ []) (y ∷ []))
one-other x y apart there = at there.0 there.1 there.2
  where
    at : (k : ℕ) → k < 1 → ¬ (get_or ((x ∷ []) ∷ []) k (y ∷ []) ≡ y ∷ [])
    at zero h e = apart (one-byte x y e)
    at (suc k) h e = absurd (omega (arith, h))

-- two names of one byte are not a third
two-others : (x y z : ℕ) → x ≢ z → y ≢ z → ¬ (Contains ((x ∷ []) ∷ (y ∷ []) ∷ []) (z ∷ []))
two-others x y z first second there = at there.0 there.1 there.2
  where
    at : (k : ℕ) → k < 2 → ¬ (get_or ((x ∷ []) ∷ (y ∷ []) ∷ []) k (z ∷ []) ≡ z ∷ [])
    at zero h e = first (one-byte x z e)
    at (suc zero) h e = second (one-byte y z e)
    at (suc (suc k)) h e = absurd (omega (arith, h))

-- of the names a, b, a that of column 2 comes twice
third-repeated : IsRepeated (a ∷ b ∷ a ∷ []) 2
third-repeated = (omega arith, (0, omega arith, refl))

-- the right table has a name twice
right-twice : IsColumnFault (a ∷ b ∷ []) (a ∷ b ∷ a ∷ []) (a ∷ []) (NameTwice Right 2)
right-twice = third-repeated

-- to the names a, b the keys a, c have one that is missing
second-missing : IsMissing (a ∷ b ∷ []) (a ∷ c ∷ []) 1
second-missing = (omega arith, two-others 97 98 99 (omega arith) (omega arith))

-- of the names c, d the second one is unknown to tables with the columns a, b and a, c
d-unknown : IsUnknown (a ∷ b ∷ []) (a ∷ c ∷ []) (c ∷ (100 ∷ []) ∷ []) 1
d-unknown = (
  omega arith,
  λ known. elim known [
    | inl left ↦ two-others 97 98 100 (omega arith) (omega arith) left
    | inr right ↦ two-others 97 99 100 (omega arith) (omega arith) right
  ],
)

c-known : IsKnown (a ∷ b ∷ []) (a ∷ c ∷ []) c
c-known = inr (1, omega arith, refl)

-- what is lent
abbrev lent : {A : Type 0} → A → Bor A
lent x = record { ref_ptr = (0, 0); now = x }

-- the key is a, and c is ignored
abbrev not-c : Choice
not-c = record { keys = lent (lent a ∷ []); only = None; ignored = lent (lent c ∷ []) }

-- the key is a, and c alone is to be compared
abbrev only-c : Choice
only-c = record { keys = lent (lent a ∷ []); only = Some (lent (lent c ∷ [])); ignored = lent [] }

-- a key is chosen
a-chosen : IsChosen only-c a
a-chosen = inl (0, omega arith, refl)

-- where no columns to compare are given, all that are not ignored are chosen
b-chosen : IsChosen not-c b
b-chosen = inr (tt, one-other 99 98 (omega arith))

-- b is not chosen where c alone is to be compared
b-not-chosen : ¬ (IsChosen only-c b)
b-not-chosen chosen = elim chosen [
  | inl key ↦ one-other 97 98 (omega arith) key
  | inr wanted ↦ one-other 99 98 (omega arith) wanted.0
]

-- the left columns a, b and the right columns c, a: left column 0 is compared, left column 1 is alone
a-compared : IsCompared not-c (a ∷ b ∷ []) (c ∷ a ∷ []) 0
a-compared = (inl (0, omega arith, refl), (1, omega arith, refl))

b-alone : IsAlone not-c (a ∷ b ∷ []) (c ∷ a ∷ []) 1
b-alone = (b-chosen, two-others 99 97 98 (omega arith) (omega arith))

-- the left columns a, b, c and the right columns c, a have the same names at the columns 0, 2 and 1, 0
two-same : HaveSameNames (a ∷ b ∷ c ∷ []) (c ∷ a ∷ []) (0 ∷ 2 ∷ []) (1 ∷ 0 ∷ [])
two-same = record { one_length = refl; same = λ p h. at p h }
  where
    at : (p : ℕ) → p < 2 → (get_or (1 ∷ 0 ∷ []) p 0 < 2) × (get_or (c ∷ a ∷ []) (get_or (1 ∷ 0 ∷ []) p 0) [] ≡ get_or (a ∷ b ∷ c ∷ []) (get_or (0 ∷ 2 ∷ []) p 0) [])
    at zero h = (omega arith, refl)
    at (suc zero) h = (omega arith, refl)
    at (suc (suc p)) h = absurd (omega (arith, h))

-- the key c stands at place 1 of the columns 0, 2
c-second : AreKeyPlaces (a ∷ b ∷ c ∷ []) (0 ∷ 2 ∷ []) (c ∷ []) (1 ∷ [])
c-second = record { one_each = refl; place = λ k h. at k h }
  where
    at : (k : ℕ) → k < 1 → (get_or (1 ∷ []) k 0 < 2) × (get_or (a ∷ b ∷ c ∷ []) (get_or (0 ∷ 2 ∷ []) (get_or (1 ∷ []) k 0) 0) [] ≡ get_or (c ∷ []) k [])
    at zero h = (omega arith, refl)
    at (suc k) h = absurd (omega (arith, h))
