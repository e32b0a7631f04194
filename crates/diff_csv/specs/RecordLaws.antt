-- Laws: a text has one list of records.
use Rattle.std.proofs.Common.{◌≡◌, ◌∙◌, ℕ, List, [], ◌∷◌, Some, None, sym, refl, ap, subst}
use Rattle.csv.specs.Machine.{Read, next_record}
use Rattle.csv.specs.Reading.{AreRecords, Reached}
use Rattle.csv.specs.declared.parser.Config.{Config}
use Rattle.csv.specs.declared.parser.State.{State}

-- two lists of all records of a text are the same
pub one_reading : (cfg : Config) (s : State) (xs : List ℕ) (rows others : List (List (List ℕ)))
    → AreRecords cfg s xs rows → AreRecords cfg s xs others → rows ≡ others
unfolding Reached
one_reading cfg s xs [] [] a b = refl
one_reading cfg s xs [] (o ∷ os) a b =
    let state : s ≡ a.0 = a.2.0 in
    let text : xs ≡ a.1 = a.2.1 in
    let none : next_record cfg s [] [] xs ≡ None = rw (state, text) a.3 in
    let some : next_record cfg s [] [] xs ≡ Some b.2.0 = b.2.1 in
    absurd (cc)
one_reading cfg s xs (r ∷ rs) [] a b =
    let state : s ≡ b.0 = b.2.0 in
    let text : xs ≡ b.1 = b.2.1 in
    let none : next_record cfg s [] [] xs ≡ None = rw (state, text) b.3 in
    let some : next_record cfg s [] [] xs ≡ Some a.2.0 = a.2.1 in
    absurd (cc)
one_reading cfg s xs (r ∷ rs) (o ∷ os) a b =
    let one : next_record cfg s [] [] xs ≡ Some a.2.0 = a.2.1 in
    let two : next_record cfg s [] [] xs ≡ Some b.2.0 = b.2.1 in
    let same : b.2.0 ≡ a.2.0 = cc in
    let head : o ≡ r = b.2.2 ∙ (ap (λ (p : Read). p.0) same ∙ sym a.2.2) in
    let rest : AreRecords cfg a.2.0.1 a.2.0.2 os = subst
    (λ (p : Read). AreRecords cfg p.1 p.2 os) same (b.0, b.1, b.2.3, b.3) in
    let others : rs ≡ os = one_reading cfg a.2.0.1 a.2.0.2 rs os (a.0, a.1, a.2.3, a.3) rest in
    ap (λ (l : List (List (List ℕ))). r ∷ l) others ∙ ap (λ (x : List (List ℕ)). x ∷ os) (sym head)
