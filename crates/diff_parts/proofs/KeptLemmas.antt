-- Rows that are kept, with the places where they stood.
use Rattle.std.proofs.Common.{◌≡◌, ◌∙◌, ◌+◌, ◌<◌, ℕ, zero, suc, Bool, true, false, cond, List, [], ◌∷◌, length, get_or, map, take, arith, ap, sym, refl, subst}
use Rattle.std.proofs.lemmas.List.{length-map}
use Rattle.std.specs.List.{filter}
use Rattle.std.specs.Str.{bytes_eq}
use Rattle.diff_keys.specs.NthLaws.{same_bytes}
use Rattle.diff_keys.specs.Partners.{Keys, ArePartners, count_of, key_at, number_of, one_more}
use Rattle.diff_keys.specs.SameLaws.{partners_back}
use Rattle.diff_parts.specs.Laws.{KeepsAdded, KeepsPartners, KeepsPlaces, KeepsRemoved, KeepsRows, place_of}
use Rattle.diff_parts.specs.Parts.{number_if, numbers_kept}

-- as many numbers are kept as rows
pub as_many : {R : Type 0} (keeps : R → Bool) (n : ℕ) (rows : List R) → length (numbers_kept keeps n rows) ≡ length (filter keeps rows)
unfolding numbers_kept
as_many keeps n [] = refl
as_many {R} keeps n (x ∷ xs) = at (keeps x) (as_many keeps (suc n) xs)
  where
    at : (b : Bool) → length (numbers_kept keeps (suc n) xs) ≡ length (filter keeps xs)
        → length (number_if b n (numbers_kept keeps (suc n) xs)) ≡ length (cond b (x ∷ filter keeps xs) (filter keeps xs))
    at true ih = ap suc ih
    at false ih = ih

-- row k of those that are kept is row m of all: the same row, and those before it that are kept are the k before it
pub record IsKept {R : Type 0} (keeps : R → Bool) (rows : List R) (k m : ℕ) : Type 0 where
  pub within : m < length rows
  pub kept : (none : R) → keeps (get_or rows m none) ≡ true
  pub row : (none : R) → get_or (filter keeps rows) k none ≡ get_or rows m none
  pub before : take k (filter keeps rows) ≡ filter keeps (take m rows)

kept_later : {R : Type 0} (keeps : R → Bool) (x : R) (xs : List R) (k m : ℕ) (b : Bool) → keeps x ≡ b → IsKept keeps xs k m → IsKept keeps (x ∷ xs) (cond b (suc k) k) (suc m)
kept_later keeps x xs k m true e h = record {
  within = omega (arith, h.within);
  kept = h.kept;
  row = λ none. rw e (h.row none);
  before = rw e (ap (λ l. x ∷ l) h.before);
}
kept_later keeps x xs k m false e h = record {
  within = omega (arith, h.within);
  kept = h.kept;
  row = λ none. rw e (h.row none);
  before = rw e h.before;
}

kept_first : {R : Type 0} (keeps : R → Bool) (x : R) (xs : List R) → keeps x ≡ true → IsKept keeps (x ∷ xs) 0 0
kept_first keeps x xs e = record { within = omega arith; kept = λ none. e; row = λ none. rw e refl; before = refl }

-- row k of those that are kept has the number n + m, and is row m of all
abbrev IsNumbered : {R : Type 0} → (R → Bool) → ℕ → List R → ℕ → Type 0
IsNumbered keeps n rows k = (m : ℕ) × (get_or (numbers_kept keeps n rows) k 0 ≡ n + m) × IsKept keeps rows k m

-- the row at a place of those that are kept
pub at_place : {R : Type 0} (keeps : R → Bool) (n : ℕ) (rows : List R) (k : ℕ) → k < length (filter keeps rows) → IsNumbered keeps n rows k
unfolding numbers_kept
at_place keeps n [] k within = absurd (omega (arith, within))
at_place {R} keeps n (x ∷ xs) k within = at (keeps x) refl k within (λ i h. at_place keeps (suc n) xs i h)
  where
    at : (b : Bool) → keeps x ≡ b → (i : ℕ) → i < length (cond b (x ∷ filter keeps xs) (filter keeps xs))
        → ((j : ℕ) → j < length (filter keeps xs) → IsNumbered keeps (suc n) xs j)
        → (m : ℕ) × (get_or (number_if b n (numbers_kept keeps (suc n) xs)) i 0 ≡ n + m) × IsKept keeps (x ∷ xs) i m
    at true e zero inside later = (0, omega arith, kept_first keeps x xs e)
    at true e (suc i) inside later =
        let (m, number, kept) = later i (omega (arith, inside)) in
        (suc m, omega (arith, number), kept_later keeps x xs i m true e kept)
    at false e i inside later =
        let (m, number, kept) = later i inside in
        (suc m, omega (arith, number), kept_later keeps x xs i m false e kept)

-- each row that the test has is kept
pub has_place : {R : Type 0} (keeps : R → Bool) (n : ℕ) (rows : List R) (none : R) (m : ℕ) → m < length rows → keeps (get_or rows m none) ≡ true
    → (k : ℕ) × (k < length (filter keeps rows)) × (get_or (numbers_kept keeps n rows) k 0 ≡ n + m)
unfolding numbers_kept
has_place keeps n [] none m within is = absurd (omega (arith, within))
has_place {R} keeps n (x ∷ xs) none zero within is = at (keeps x) is
  where
    at : (b : Bool) → b ≡ true → (k : ℕ) × (k < length (cond b (x ∷ filter keeps xs) (filter keeps xs))) × (get_or (number_if b n (numbers_kept keeps (suc n) xs)) k 0 ≡ n + 0)
    at true e = (0, omega arith, omega arith)
    at false e = absurd (cc)
has_place {R} keeps n (x ∷ xs) none (suc m) within is = at (keeps x) (has_place keeps (suc n) xs none m (omega (arith, within)) is)
  where
    at : (b : Bool) → (k : ℕ) × (k < length (filter keeps xs)) × (get_or (numbers_kept keeps (suc n) xs) k 0 ≡ suc n + m)
        → (k : ℕ) × (k < length (cond b (x ∷ filter keeps xs) (filter keeps xs))) × (get_or (number_if b n (numbers_kept keeps (suc n) xs)) k 0 ≡ n + suc m)
    at true (k, inside, number) = (suc k, omega (arith, inside), omega (arith, number))
    at false (k, inside, number) = (k, inside, omega (arith, number))

-- numbers are at least the first one, and rise
pub rising : {R : Type 0} (keeps : R → Bool) (n : ℕ) (rows : List R) (k : ℕ) → suc k < length (filter keeps rows)
    → get_or (numbers_kept keeps n rows) k 0 < get_or (numbers_kept keeps n rows) (suc k) 0
unfolding numbers_kept
rising keeps n [] k within = absurd (omega (arith, within))
rising {R} keeps n (x ∷ xs) k within = at (keeps x) k within (λ i h. rising keeps (suc n) xs i h) (λ h. at_place keeps (suc n) xs 0 h)
  where
    at : (b : Bool) (i : ℕ) → suc i < length (cond b (x ∷ filter keeps xs) (filter keeps xs))
        → ((j : ℕ) → suc j < length (filter keeps xs) → get_or (numbers_kept keeps (suc n) xs) j 0 < get_or (numbers_kept keeps (suc n) xs) (suc j) 0)
        → (0 < length (filter keeps xs) → IsNumbered keeps (suc n) xs 0)
        → get_or (number_if b n (numbers_kept keeps (suc n) xs)) i 0 < get_or (number_if b n (numbers_kept keeps (suc n) xs)) (suc i) 0
    at true zero inside later first =
        let (m, number, kept) = first (omega (arith, inside)) in
        omega (arith, number)
    at true (suc i) inside later first = later i (omega (arith, inside))
    at false i inside later first = later i inside

-- the rows of a key that the test has are all kept
pub as_often : (keeps : List ℕ → Bool) (q : List ℕ) → keeps q ≡ true → (keys : Keys) → count_of q (filter keeps keys) ≡ count_of q keys
unfolding count_of
as_often keeps q is [] = refl
as_often keeps q is (x ∷ xs) = at (keeps x) (bytes_eq x q) refl refl (as_often keeps q is xs)
  where
    at : (b same : Bool) → keeps x ≡ b → bytes_eq x q ≡ same → count_of q (filter keeps xs) ≡ count_of q xs → count_of q (cond b (x ∷ filter keeps xs) (filter keeps xs)) ≡ one_more (bytes_eq x q) (count_of q xs)
    at true same e es ih = ap (one_more (bytes_eq x q)) ih
    at false false e es ih = rw es ih
    at false true e es ih =
        let clash : false ≡ true = sym e ∙ (ap keeps (same_bytes x q es) ∙ is) in
        absurd (cc)

-- row k of the keys that are kept has the key and the number of row m of all
record IsSameKey (keeps : List ℕ → Bool) (keys : Keys) (k m : ℕ) : Type 0 where
  within : m < length keys
  kept : keeps (key_at keys m) ≡ true
  key : key_at (filter keeps keys) k ≡ key_at keys m
  number : number_of (filter keeps keys) k ≡ number_of keys m

same_key : (keeps : List ℕ → Bool) (keys : Keys) (k : ℕ) → k < length (filter keeps keys) → IsSameKey keeps keys k (place_of keeps keys k)
same_key keeps keys k inside =
    let (m, number, h) = at_place keeps 0 keys k inside in
    let here : m ≡ place_of keeps keys k = omega (arith, number) in
    let key : key_at (filter keeps keys) k ≡ key_at keys m = h.row [] in
    let before : count_of (key_at keys m) (take k (filter keeps keys)) ≡ count_of (key_at keys m) (take m keys) =
    ap (λ l. count_of (key_at keys m) l) h.before ∙ as_often keeps (key_at keys m) (h.kept []) (take m keys) in
    subst (λ p. IsSameKey keeps keys k p) here (record {
      within = h.within;
      kept = h.kept [];
      key = key;
      number = ap (λ q. count_of q (take k (filter keeps keys))) key ∙ before;
    })

pub keeps_places : KeepsPlaces
keeps_places keeps keys = (
  as_many keeps 0 keys,
  (λ i. (
    λ h. let (k, inside, number) = has_place keeps 0 keys [] i h.0 h.1 in (k, inside, omega (arith, number)),
    λ h.
        let (k, inside, is) = h in
        let s = same_key keeps keys k inside in
        subst (λ p. (p < length keys) × (keeps (key_at keys p) ≡ true)) is (s.within, s.kept),
  )),
  (λ k within. rising keeps 0 keys k within),
)

-- a test of keys keeps the rows of these keys
mapped : {R : Type 0} (key : R → List ℕ) (keeps : List ℕ → Bool) (rows : List R) → map key (filter (λ row. keeps (key row)) rows) ≡ filter keeps (map key rows)
mapped key keeps [] = refl
mapped {R} key keeps (x ∷ xs) = at (keeps (key x)) (mapped key keeps xs)
  where
    at : (b : Bool) → map key (filter (λ row. keeps (key row)) xs) ≡ filter keeps (map key xs)
        → map key (cond b (x ∷ filter (λ row. keeps (key row)) xs) (filter (λ row. keeps (key row)) xs)) ≡ cond b (key x ∷ filter keeps (map key xs)) (filter keeps (map key xs))
    at true ih = ap (λ l. key x ∷ l) ih
    at false ih = ih

numbered : {R : Type 0} (key : R → List ℕ) (keeps : List ℕ → Bool) (n : ℕ) (rows : List R) → numbers_kept (λ row. keeps (key row)) n rows ≡ numbers_kept keeps n (map key rows)
unfolding numbers_kept
numbered key keeps n [] = refl
numbered key keeps n (x ∷ xs) = ap (number_if (keeps (key x)) n) (numbered key keeps (suc n) xs)

pub keeps_rows : KeepsRows
keeps_rows key keeps rows = (
  mapped key keeps rows,
  numbered key keeps 0 rows,
  (λ k within.
      let test = λ (row : List (List ℕ)). keeps (key row) in
      let few : length (filter keeps (map key rows)) ≡ length (filter test rows) = ap length (sym (mapped key keeps rows)) ∙ length-map (filter test rows) key in
      let (m, number, h) = at_place test 0 rows k (omega (arith, within, few)) in
      let stood : m ≡ get_or (numbers_kept test 0 rows) k 0 = omega (arith, number) in
      h.row [] ∙ ap (λ p. get_or rows p []) (stood ∙ ap (λ ns. get_or ns k 0) (numbered key keeps 0 rows))),
)

pub keeps_partners : KeepsPartners
keeps_partners keeps left right i j li rj =
    let l = same_key keeps left i li in
    let r = same_key keeps right j rj in (
      λ h. record { left_row = l.within; right_row = r.within; one_key = sym l.key ∙ (h.one_key ∙ r.key); one_number = sym l.number ∙ (h.one_number ∙ r.number) },
      λ h. record { left_row = li; right_row = rj; one_key = l.key ∙ (h.one_key ∙ sym r.key); one_number = l.number ∙ (h.one_number ∙ sym r.number) },
    )

pub keeps_removed : KeepsRemoved
keeps_removed keeps left right i li = (
  λ none j pair.
      let l = same_key keeps left i li in
      let is : keeps (key_at right j) ≡ true = ap keeps (sym pair.one_key) ∙ l.kept in
      let (k, inside, place) = has_place keeps 0 right [] j pair.right_row is in
      let stood : j ≡ place_of keeps right k = omega (arith, place) in
      none k ((keeps_partners keeps left right i k li inside).1 (subst (λ p. ArePartners left right (place_of keeps left i) p) stood pair)),
  λ none j pair. none (place_of keeps right j) ((keeps_partners keeps left right i j li pair.right_row).0 pair),
)

pub keeps_added : KeepsAdded
keeps_added keeps left right j rj =
    let h = keeps_removed keeps right left j rj in (
      λ none i pair. h.0 (λ k p. none k (partners_back (filter keeps right) (filter keeps left) j k p)) i (partners_back left right i (place_of keeps right j) pair),
      λ none i pair. h.1 (λ k p. none k (partners_back right left (place_of keeps right j) k p)) i (partners_back (filter keeps left) (filter keeps right) i j pair),
    )
