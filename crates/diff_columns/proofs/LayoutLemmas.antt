-- Columns that are listed one after another, and the layout that they make.
use Rattle.std.proofs.Common.{◌≡◌, ◌<◌, ℕ, suc, List, [], ◌∷◌, ◌++◌, get_or, length, arith, ap, sym, subst, ◌∙◌, refl, ◌⊎◌, inl, inr, ◌≢◌}
use Rattle.std.proofs.lemmas.Bool.{cases_eq}
use Rattle.std.proofs.lemmas.Grind.{common_steps}
use Rattle.std.proofs.lemmas.List.{get_or_append_left, get_or_default, get_or_push}
use Rattle.std.proofs.lemmas.List.Elements.{Contains-get_or}
use Rattle.std.specs.Prelude.{All, Contains, slice_index}
use Rattle.diff_keys.specs.Rising.{ListsRising}
use Rattle.diff_keys.specs.RisingLaws.{one_listed, one_passed}
use Rattle.diff_columns.specs.Choice.{IsChosen}
use Rattle.diff_columns.specs.Layout.{HaveSameNames, IsCompared, IsPlace}
use Rattle.diff_columns.specs.Names.{Names, AreMatchable, IsNamed, name_at, names_of}
use Rattle.diff_columns.specs.Pairs.{ArePairs, HasPlace, IsPair}
use Rattle.diff_columns.specs.declared.choice.Choice.{Choice}
use Rattle.diff_columns.proofs.NameLemmas.{named_there}

-- one pair more has one name
pub one_same : (left right : Names) (i j : ℕ) (ls rs : List ℕ) → HaveSameNames left right ls rs → IsNamed right (name_at left i) j
    → HaveSameNames left right (ls ++ i ∷ []) (rs ++ j ∷ [])
one_same left right i j ls rs h named = record {
  one_length = grind (arith, common_steps, h.one_length);
  same = λ p within. at p (cases_eq p (length ls)) (grind (arith, common_steps, within));
}
  where
    l_end : slice_index (ls ++ i ∷ []) (length ls) ≡ i
    l_end = get_or_push ls i 0 (length ls) refl

    r_end : slice_index (rs ++ j ∷ []) (length ls) ≡ j
    r_end = get_or_push rs j 0 (length ls) (sym h.one_length)

    at : (p : ℕ) → (p ≡ length ls) ⊎ (p ≢ length ls) → p < suc (length ls)
        → IsNamed right (name_at left (slice_index (ls ++ i ∷ []) p)) (slice_index (rs ++ j ∷ []) p)
    at p (inl here) within = rw (here, l_end, r_end) named
    at p (inr apart) within =
        let l_old : slice_index (ls ++ i ∷ []) p ≡ slice_index ls p = get_or_append_left ls (i ∷ []) 0 p (omega (arith, apart, within)) in
        let r_old : slice_index (rs ++ j ∷ []) p ≡ slice_index rs p = get_or_append_left rs (j ∷ []) 0 p (omega (arith, apart, within, h.one_length)) in
        rw (l_old, r_old) (h.same p (omega (arith, apart, within)))

pub pair_listed : (choice : Choice) (left right : Names) (n m j : ℕ) (ls rs : List ℕ) → ArePairs choice left right n ls rs → IsPair choice left right n j → m ≡ suc n
    → ArePairs choice left right m (ls ++ n ∷ []) (rs ++ j ∷ [])
pair_listed choice left right n m j ls rs h pair e = record {
  compared = one_listed (IsCompared choice left right) n m ls h.compared (pair.0, named_there right (name_at left n) j pair.1) e;
  same_names = one_same left right n j ls rs h.same_names pair.1;
}

pub pair_passed : (choice : Choice) (left right : Names) (n m : ℕ) (ls rs : List ℕ) → ArePairs choice left right n ls rs → ¬ (IsCompared choice left right n) → m ≡ suc n
    → ArePairs choice left right m ls rs
pair_passed choice left right n m ls rs h fails e = record {
  compared = one_passed (IsCompared choice left right) n m ls h.compared fails e;
  same_names = h.same_names;
}

-- the places of the first n keys
pub record ArePlacesTo (names : Names) (columns : List ℕ) (keys : Names) (n : ℕ) (places : List ℕ) : Type 0 where
  pub count : length places ≡ n
  pub place : (k : ℕ) → k < n → IsPlace names columns (name_at keys k) (slice_index places k)

pub one_place : (names : Names) (columns : List ℕ) (keys : Names) (n m p : ℕ) (places : List ℕ) → ArePlacesTo names columns keys n places
    → IsPlace names columns (name_at keys n) p → m ≡ suc n → ArePlacesTo names columns keys m (places ++ p ∷ [])
one_place names columns keys n m p places h is e = rw e (record {
  count = grind (arith, common_steps, h.count);
  place = λ k within. at k (cases_eq k n) within;
})
  where
    at : (k : ℕ) → (k ≡ n) ⊎ (k ≢ n) → k < suc n → IsPlace names columns (name_at keys k) (slice_index (places ++ p ∷ []) k)
    at k (inl here) within = rw (here, get_or_push places p 0 n h.count) is
    at k (inr apart) within = rw (get_or_append_left places (p ∷ []) 0 k (omega (arith, apart, within, h.count))) (h.place k (omega (arith, apart, within)))

-- a key that is a name in both tables has its place among the columns that are compared
pub keys_have_places : (choice : Choice) (left right : Names) (columns : List ℕ) → AreMatchable left right (names_of choice.keys.now)
    → ListsRising (IsCompared choice left right) (length left) columns → All (HasPlace left columns) (names_of choice.keys.now)
keys_have_places choice left right columns names h k d within =
    let key = get_or (names_of choice.keys.now) k d in
    let (i, low, is) = names.left_keys k d within in
    let named : name_at left i ≡ key = get_or_default left i [] key low ∙ is in
    let chosen : IsChosen choice key = inl (Contains-get_or (names_of choice.keys.now) k d within) in
    let compared : IsCompared choice left right i = subst (λ x. IsChosen choice x × Contains right x) (sym named) (chosen, names.right_keys k d within) in
    let (p, inside, at) = (h.all i).1 (low, compared) in
    (p, (inside, ap (name_at left) (get_or_default columns p 0 i inside ∙ at) ∙ named))
