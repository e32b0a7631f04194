-- Worked examples of columns that are matched by name: both tables have the columns id and n.
use Rattle.std.proofs.Common.{◌≡◌, ◌<◌, ℕ, zero, suc, List, [], ◌∷◌, length, get_or, arith, ap, inr}
use Rattle.std.proofs.Common.{refl}
use Rattle.std.specs.Prelude.{All, Contains, codes, slice_index}
use Rattle.diff_columns.specs.Choice.{IsChosen}
use Rattle.diff_columns.specs.Layout.{IsAlone, IsCompared, IsLayout, IsPlace}
use Rattle.diff_columns.specs.Names.{AreDistinct, AreMatchable, IsNamed, Names, name_at}
use Rattle.diff_columns.specs.declared.layout.Layout.{Layout}
use Rattle.diff_csv.specs.Records.{HaveOneLength}
use Rattle.diff_keys.specs.Rising.{ListsRising}
use Rattle.diff_keys.specs.RisingLaws.{none_listed, one_listed, one_passed}
use Rattle.diff_run.proofs.ExampleColumns.{by_id}
use Rattle.worked_examples.proofs.ExampleVectors.{vector}

-- the columns of both tables
abbrev pub header : Names
header = codes "id" ∷ codes "n" ∷ []

-- records of two fields have one length
pub lengths_two : (first second : List (List ℕ)) → length first ≡ 2 → length second ≡ 2
    → HaveOneLength (header ∷ first ∷ second ∷ [])
lengths_two first second one two zero d low = one
lengths_two first second one two (suc zero) d low = two
lengths_two first second one two (suc (suc k)) d low = absurd (omega (arith, low))

pub lengths_one : (fields : List (List ℕ)) → length fields ≡ 2
    → HaveOneLength (header ∷ fields ∷ [])
lengths_one fields two zero d low = two
lengths_one fields two (suc k) d low = absurd (omega (arith, low))

-- so have the records id, n and 7, 1 and 8, 2
lengths-same :
    HaveOneLength (header ∷ (codes "7" ∷ codes "1" ∷ []) ∷ (codes "8" ∷ codes "2" ∷ []) ∷ [])
lengths-same = lengths_two (codes "7" ∷ codes "1" ∷ []) (codes "8" ∷ codes "2" ∷ []) refl refl

-- id, n and 7 have not
lengths-one_short : ¬ (HaveOneLength (header ∷ (codes "7" ∷ []) ∷ []))
lengths-one_short same =
    let one : length (codes "7" ∷ []) ≡ 2 = same 0 [] (omega arith) in
    omega (arith, one)

-- names that are the same begin with the same byte
first-byte : (s t : List ℕ) → s ≡ t → get_or s 0 0 ≡ get_or t 0 0
first-byte s t e = ap (λ name. get_or name 0 0) e

-- no name comes twice
header-distinct : AreDistinct header
header-distinct zero zero d before low = absurd (omega (arith, before))
header-distinct zero (suc zero) d before low =
    λ e. let first = first-byte (codes "id") (codes "n") e in omega (arith, first)
header-distinct (suc i) zero d before low = absurd (omega (arith, before))
header-distinct (suc i) (suc zero) d before low = absurd (omega (arith, before))
header-distinct i (suc (suc j)) d before low = absurd (omega (arith, low))

-- here id comes twice
twice-not_distinct : ¬ (AreDistinct (codes "id" ∷ codes "n" ∷ codes "id" ∷ []))
twice-not_distinct apart = apart 0 2 [] (omega arith) (omega arith) refl

id-there : All (Contains header) (codes "id" ∷ [])
id-there zero d low = (0, omega arith, refl)
id-there (suc k) d low = absurd (omega (arith, low))

-- with the key id both tables can be matched
pub matchable : AreMatchable header header (codes "id" ∷ [])
matchable = record {
  left_distinct = header-distinct;
  left_keys = id-there;
  right_distinct =
      header-distinct;
  right_keys = id-there;
}

no-day : ¬ (Contains header (codes "day"))
no-day there = at there.0 there.1 there.2
  where
    at : (k : ℕ) → k < 2 → ¬ (get_or header k (codes "day") ≡ codes "day")
    at zero low e = let first = first-byte (codes "id") (codes "day") e in omega (arith, first)
    at (suc zero) low e = let first = first-byte (codes "n") (codes "day") e in omega (arith, first)
    at (suc (suc k)) low e = omega (arith, low)

-- with the key day they can't
no-day-not_matchable : ¬ (AreMatchable header header (codes "day" ∷ []))
no-day-not_matchable all = no-day (all.left_keys 0 [] (omega arith))

-- nor can a table whose column id comes twice
twice-not_matchable :
    ¬ (AreMatchable header (codes "id" ∷ codes "n" ∷ codes "id" ∷ []) (codes "id" ∷ []))
twice-not_matchable all = twice-not_distinct all.right_distinct

-- no column is ignored
all-chosen : (name : List ℕ) → IsChosen by_id name
all-chosen name = inr (tt, λ there. let (k, within, is) = there in omega (arith, within))

both-compared : ListsRising (IsCompared by_id header header) 2 (0 ∷ 1 ∷ [])
both-compared =
    let P : ℕ → Type 0 = IsCompared by_id header header in
    one_listed P 1 2 (0 ∷ [])
    (one_listed P 0 1 [] (none_listed P) (all-chosen (codes "id"), (0, omega arith, refl)) refl)
    (all-chosen (codes "n"), (1, omega arith, refl)) refl

none-alone : ListsRising (IsAlone by_id header header) 2 []
none-alone =
    let P : ℕ → Type 0 = IsAlone by_id header header in
    one_passed P 1 2 []
    (one_passed P 0 1 [] (none_listed P) (λ alone. alone.1 (0, omega arith, refl)) refl)
    (λ alone. alone.1 (1, omega arith, refl)) refl

-- both columns of each table, of which the first one is the key
abbrev pub layout : Layout
layout = record {
  left = vector (0 ∷ 1 ∷ []) (omega arith);
  right = vector (0 ∷ 1 ∷ []) (omega arith);
  keys = vector (0 ∷ []) (omega arith);
  left_alone = vector [] (omega arith);
  right_alone = vector [] (omega arith);
}

-- this is the layout of the columns that are compared by id
pub laid_out : IsLayout header header by_id layout
laid_out = record {
  compared = both-compared;
  same_names = record { one_length = refl; same = λ p low. named p low };
  key_places = record { one_each = refl; place = λ k low. placed k low };
  left_alone = none-alone;
  right_alone = none-alone;
}
  where
    named : (p : ℕ) → p < 2
        → IsNamed header (name_at header (slice_index (0 ∷ 1 ∷ []) p)) (slice_index (0 ∷ 1 ∷ []) p)
    named zero low = (omega arith, refl)
    named (suc zero) low = (omega arith, refl)
    named (suc (suc p)) low = absurd (omega (arith, low))

    placed : (k : ℕ) → k < 1
        → IsPlace header (0 ∷ 1 ∷ []) (name_at (codes "id" ∷ []) k) (slice_index (0 ∷ []) k)
    placed zero low = (omega arith, refl)
    placed (suc k) low = absurd (omega (arith, low))

-- the same without the column n
abbrev without_n : Layout
without_n = record {
  left = vector (0 ∷ []) (omega arith);
  right = vector (0 ∷ []) (omega arith);
  keys = vector (0 ∷ []) (omega arith);
  left_alone = vector [] (omega arith);
  right_alone = vector [] (omega arith);
}

none-one : ¬ (Contains {X = ℕ} (0 ∷ []) 1)
none-one there = at there.0 there.1 there.2
  where
    at : (k : ℕ) → k < 1 → ¬ (get_or {A = ℕ} (0 ∷ []) k 1 ≡ 1)
    at zero low e = let clash : 0 ≡ 1 = e in omega (arith, clash)
    at (suc k) low e = omega (arith, low)

-- a column that both tables have may not be left out
without-n-not_layout : ¬ (IsLayout header header by_id without_n)
without-n-not_layout laid =
    none-one ((laid.compared.all 1).1
    (omega arith, (all-chosen (codes "n"), (1, omega arith, refl))))
