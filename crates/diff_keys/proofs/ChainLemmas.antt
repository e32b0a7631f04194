-- Rows that are chained by their classes.
use Rattle.std.proofs.Common.{◌≡◌, ◌<◌, ◌≤◌, ℕ, suc, List, Option, Some, None, get_or, length, set, arith, ap, sym, ◌∙◌, subst, ◌⊎◌, inl, inr, ◌≢◌}
use Rattle.std.proofs.lemmas.Bool.{cases_eq, cases_lt}
use Rattle.std.proofs.lemmas.List.{length-set, get_or-set_same, get_or-set_other}
use Rattle.diff_keys.specs.Chains.{AreChained, IsFirst, IsFirstAt, IsIn, class_of}
use Rattle.diff_keys.specs.Partners.{Keys, key_at}
use Rattle.diff_keys.proofs.FirstLemmas.{first_further, first_passed, first_stays}

-- the same rows are chained
pub chained_same : (keys : Keys) (P Q : ℕ → Type 0) (heads next : List (Option ℕ)) → AreChained keys P heads next → ((x : ℕ) → x < length keys → Q x → P x) → ((x : ℕ) → x < length keys → P x → Q x) → AreChained keys Q heads next
chained_same keys P Q heads next h narrow wide = record {
  some = h.some;
  len = h.len;
  first = λ c low. first_further (IsIn keys (length heads) P c) (IsIn keys (length heads) Q c) 0 0 (length keys) (get_or heads c None) (omega arith) (h.first c low)
      (λ x from high q. from) (λ x from high q. (narrow x high q.0, q.1)) (λ x from high p. (wide x high p.0, p.1));
  later = λ t low q. first_further (IsIn keys (length heads) P (class_of (length heads) (key_at keys t))) (IsIn keys (length heads) Q (class_of (length heads) (key_at keys t))) (suc t) (suc t) (length keys) (get_or next t None) (omega arith)
      (h.later t low (narrow t low q)) (λ x from high r. from) (λ x from high r. (narrow x high r.0, r.1)) (λ x from high p. (wide x high p.0, p.1));
}

-- rows that are chained, with the count of classes named
pub chained_with : (keys : Keys) (P : ℕ → Type 0) (n : ℕ) (heads next : List (Option ℕ)) → length heads ≡ n → 0 < n → length next ≡ length keys
    → ((c : ℕ) → c < n → IsFirst (IsIn keys n P c) 0 (length keys) (get_or heads c None))
    → ((t : ℕ) → t < length keys → P t → IsFirst (IsIn keys n P (class_of n (key_at keys t))) (suc t) (length keys) (get_or next t None))
    → AreChained keys P heads next
chained_with keys P n heads next count some len first later = record { some = rw count some; len = len; first = rw count first; later = rw count later }

-- no row is chained yet
pub chained_none : (keys : Keys) (heads next : List (Option ℕ)) → 0 < length heads → length next ≡ length keys → ((c : ℕ) → c < length heads → get_or heads c None ≡ None) → AreChained keys (λ x. length keys ≤ x) heads next
chained_none keys heads next some len none = record {
  some = some;
  len = len;
  first = λ c low. subst (IsFirst (IsIn keys (length heads) (λ x. length keys ≤ x) c) 0 (length keys)) (sym (none c low)) (λ x from high h. let past : length keys ≤ x = h.0 in omega (arith, high, past));
  later = λ t low past. absurd (omega (arith, low, past));
}

-- one row more, in front of its class
pub chained_push : (keys : Keys) (j c : ℕ) (heads next : List (Option ℕ)) → AreChained keys (λ x. suc j ≤ x) heads next → j < length keys → c < length heads → class_of (length heads) (key_at keys j) ≡ c
    → AreChained keys (λ x. j ≤ x) (set heads c (Some j)) (set next j (get_or heads c None))
chained_push keys j c heads next old within low class =
    chained_with keys (λ x. j ≤ x) (length heads) (set heads c (Some j)) (set next j (get_or heads c None)) (length-set heads c (Some j)) old.some (length-set next j (get_or heads c None) ∙ old.len)
    (λ d inside. first d inside (cases_eq d c)) (λ t inside from. later t inside from (cases_eq t j))
  where
    N : ℕ
    N = length heads

    Old : ℕ → ℕ → Type 0
    Old d = IsIn keys N (λ x. suc j ≤ x) d

    New : ℕ → ℕ → Type 0
    New d = IsIn keys N (λ x. j ≤ x) d

    first : (d : ℕ) → d < N → (d ≡ c) ⊎ (d ≢ c) → IsFirst (New d) 0 (length keys) (get_or (set heads c (Some j)) d None)
    first d inside (inl here) = rw (here, get_or-set_same heads c (Some j) None low) (record {
      from = omega arith;
      within = within;
      holds = (omega arith, class);
      before = λ x from high h. let past : j ≤ x = h.0 in omega (arith, high, past);
    })
    first d inside (inr apart) = rw (get_or-set_other heads c d (Some j) None apart) (first_further (Old d) (New d) 0 0 (length keys) (get_or heads d None) (omega arith) (old.first d inside)
        (λ x from high q. from) (λ x from high q. (past d apart x q (cases_eq x j), q.1)) (λ x from high p. let up : suc j ≤ x = p.0 in (omega (arith, up), p.1)))
      where
        past : (d : ℕ) → d ≢ c → (x : ℕ) → New d x → (x ≡ j) ⊎ (x ≢ j) → suc j ≤ x
        past d apart x q (inl here) = absurd (apart (sym q.1 ∙ (ap (λ y. class_of N (key_at keys y)) here ∙ class)))
        past d apart x q (inr other) = let from : j ≤ x = q.0 in omega (arith, from, other)

    later : (t : ℕ) → t < length keys → j ≤ t → (t ≡ j) ⊎ (t ≢ j) → IsFirst (New (class_of N (key_at keys t))) (suc t) (length keys) (get_or (set next j (get_or heads c None)) t None)
    later t inside from (inl here) = rw (here, get_or-set_same next j (get_or heads c None) None (omega (arith, within, old.len)), class)
        (narrower (get_or heads c None) (old.first c low))
      where
        narrower : (o : Option ℕ) → IsFirst (Old c) 0 (length keys) o → IsFirst (New c) (suc j) (length keys) o
        narrower None h = λ x up high q. h x (omega arith) high (up, q.1)
        narrower (Some y) h = record {
          from = let up : suc j ≤ y = h.holds.0 in up;
          within = h.within;
          holds = let up : suc j ≤ y = h.holds.0 in (omega (arith, up), h.holds.1);
          before = λ x up high q. h.before x (omega arith) high (up, q.1);
        }
    later t inside from (inr apart) = rw (get_or-set_other next j t (get_or heads c None) None apart)
        (first_further (Old (class_of N (key_at keys t))) (New (class_of N (key_at keys t))) (suc t) (suc t) (length keys) (get_or next t None) (omega arith) (old.later t inside (omega (arith, from, apart)))
        (λ x up high q. up) (λ x up high q. (omega (arith, up, from), q.1)) (λ x up high p. let above : suc j ≤ x = p.0 in (omega (arith, above), p.1)))

-- P holds for the same rows as before but for row h
pub record IsWithout (keys : Keys) (P Q : ℕ → Type 0) (h : ℕ) : Type 1 where
  pub narrow : (x : ℕ) → x < length keys → Q x → P x
  pub out : ¬ (Q h)
  pub wide : (x : ℕ) → x < length keys → x ≢ h → P x → Q x

-- a pointer to another row stays right
pub stays : (keys : Keys) (P Q : ℕ → Type 0) (h count c p : ℕ) (o : Option ℕ) → IsWithout keys P Q h → IsFirst (IsIn keys count P c) p (length keys) o → o ≢ Some h → IsFirst (IsIn keys count Q c) p (length keys) o
stays keys P Q h count c p o w at other = first_stays (IsIn keys count P c) (IsIn keys count Q c) p (length keys) o at (λ x low high q. (w.narrow x high q.0, q.1)) kept
  where
    kept : (y : ℕ) → o ≡ Some y → IsIn keys count P c y → IsIn keys count Q c y
    kept y is was = (w.wide y (inside y o is at) (λ here. other (is ∙ ap Some here)) was.0, was.1)
      where
        inside : (y : ℕ) (o : Option ℕ) → o ≡ Some y → IsFirst (IsIn keys count P c) p (length keys) o → y < length keys
        inside y None is at = absurd (cc)
        inside y (Some z) is at = let same : z ≡ y = cc in rw (← same) at.within

-- the pointer to the row that is taken goes on to the next one
pub passes : (keys : Keys) (P Q : ℕ → Type 0) (h count c p : ℕ) (o : Option ℕ) → IsWithout keys P Q h → IsFirstAt (IsIn keys count P c) p (length keys) h → IsFirst (IsIn keys count P c) (suc h) (length keys) o → IsFirst (IsIn keys count Q c) p (length keys) o
passes keys P Q h count c p o w at next = first_passed (IsIn keys count P c) (IsIn keys count Q c) p (length keys) h o at next
    (λ x high q. (w.narrow x high q.0, q.1)) (λ q. w.out q.0) (λ x past high p. (w.wide x high (omega (arith, past)) p.0, p.1))

-- the first row of a class is taken
pub taken_head : (keys : Keys) (P Q : ℕ → Type 0) (h c : ℕ) (heads next : List (Option ℕ)) → IsWithout keys P Q h → AreChained keys P heads next → c < length heads → get_or heads c None ≡ Some h
    → AreChained keys Q (set heads c (get_or next h None)) next
taken_head keys P Q h c heads next w old low head =
    chained_with keys Q (length heads) (set heads c (get_or next h None)) next (length-set heads c (get_or next h None)) old.some old.len
    (λ d inside. first d inside (cases_eq d c))
    (λ t inside q. stays keys P Q h (length heads) (class_of (length heads) (key_at keys t)) (suc t) (get_or next t None) w (old.later t inside (w.narrow t inside q)) (unlinked t inside (w.narrow t inside q)))
  where
    N : ℕ
    N = length heads

    at : IsFirstAt (IsIn keys N P c) 0 (length keys) h
    at = subst (IsFirst (IsIn keys N P c) 0 (length keys)) head (old.first c low)

    next_of : IsFirst (IsIn keys N P c) (suc h) (length keys) (get_or next h None)
    next_of = rw at.holds.1 at (old.later h at.within at.holds.0)

    other : (d : ℕ) → d < N → d ≢ c → get_or heads d None ≢ Some h
    other d inside apart is =
        let there : IsFirstAt (IsIn keys N P d) 0 (length keys) h = subst (IsFirst (IsIn keys N P d) 0 (length keys)) is (old.first d inside) in
        apart (sym there.holds.1 ∙ at.holds.1)

    first : (d : ℕ) → d < N → (d ≡ c) ⊎ (d ≢ c) → IsFirst (IsIn keys N Q d) 0 (length keys) (get_or (set heads c (get_or next h None)) d None)
    first d inside (inl here) = rw (here, get_or-set_same heads c (get_or next h None) None low) (passes keys P Q h N c 0 (get_or next h None) w at next_of)
    first d inside (inr apart) = rw (get_or-set_other heads c d (get_or next h None) None apart) (stays keys P Q h N d 0 (get_or heads d None) w (old.first d inside) (other d inside apart))

    unlinked : (t : ℕ) → t < length keys → P t → get_or next t None ≢ Some h
    unlinked t inside p is =
        let there : IsFirstAt (IsIn keys N P (class_of N (key_at keys t))) (suc t) (length keys) h = subst (IsFirst (IsIn keys N P (class_of N (key_at keys t))) (suc t) (length keys)) is (old.later t inside p) in
        at.before t (omega arith) (omega (arith, there.from)) (p, sym there.holds.1 ∙ at.holds.1)

-- a row after another one of its class is taken
pub taken_behind : (keys : Keys) (P Q : ℕ → Type 0) (b h : ℕ) (heads next : List (Option ℕ)) → IsWithout keys P Q h → AreChained keys P heads next → b < length keys → P b → get_or next b None ≡ Some h
    → AreChained keys Q heads (set next b (get_or next h None))
taken_behind keys P Q b h heads next w old low waits link = record {
  some = old.some;
  len = length-set next b (get_or next h None) ∙ old.len;
  first = λ d inside. stays keys P Q h N d 0 (get_or heads d None) w (old.first d inside) (other d inside);
  later = λ t inside q. later t inside q (cases_eq t b);
}
  where
    N : ℕ
    N = length heads

    C : ℕ
    C = class_of N (key_at keys b)

    at : IsFirstAt (IsIn keys N P C) (suc b) (length keys) h
    at = subst (IsFirst (IsIn keys N P C) (suc b) (length keys)) link (old.later b low waits)

    next_of : IsFirst (IsIn keys N P C) (suc h) (length keys) (get_or next h None)
    next_of = rw at.holds.1 at (old.later h at.within at.holds.0)

    other : (d : ℕ) → d < N → get_or heads d None ≢ Some h
    other d inside is =
        let there : IsFirstAt (IsIn keys N P d) 0 (length keys) h = subst (IsFirst (IsIn keys N P d) 0 (length keys)) is (old.first d inside) in
        there.before b (omega arith) (omega (arith, at.from)) (waits, sym at.holds.1 ∙ there.holds.1)

    unlinked : (t : ℕ) → t < length keys → P t → t ≢ b → get_or next t None ≢ Some h
    unlinked t inside p apart is =
        let there : IsFirstAt (IsIn keys N P (class_of N (key_at keys t))) (suc t) (length keys) h = subst (IsFirst (IsIn keys N P (class_of N (key_at keys t))) (suc t) (length keys)) is (old.later t inside p) in
        elim (cases_lt t b) [
          | inl less ↦ there.before b (omega (arith, less)) (omega (arith, at.from)) (waits, sym at.holds.1 ∙ there.holds.1)
          | inr more ↦ at.before t (omega (arith, more, apart)) (omega (arith, there.from)) (p, sym there.holds.1 ∙ at.holds.1)
        ]

    later : (t : ℕ) → t < length keys → Q t → (t ≡ b) ⊎ (t ≢ b) → IsFirst (IsIn keys N Q (class_of N (key_at keys t))) (suc t) (length keys) (get_or (set next b (get_or next h None)) t None)
    later t inside q (inl here) = rw (here, get_or-set_same next b (get_or next h None) None (omega (arith, low, old.len))) (passes keys P Q h N C (suc b) (get_or next h None) w at next_of)
    later t inside q (inr apart) = rw (get_or-set_other next b t (get_or next h None) None apart)
        (stays keys P Q h N (class_of N (key_at keys t)) (suc t) (get_or next t None) w (old.later t inside (w.narrow t inside q)) (unlinked t inside (w.narrow t inside q) apart))

-- P holds for row x, which has the key q
abbrev pub IsOf : Keys → (ℕ → Type 0) → List ℕ → ℕ → Type 0
IsOf keys P q x = P x × (key_at keys x ≡ q)

-- the first row of a class has the key, or there is none
pub first_at_head : (keys : Keys) (P : ℕ → Type 0) (q : List ℕ) (h : ℕ) (heads next : List (Option ℕ)) → AreChained keys P heads next → class_of (length heads) q < length heads
    → get_or heads (class_of (length heads) q) None ≡ Some h → key_at keys h ≡ q → IsFirst (IsOf keys P q) 0 (length keys) (Some h)
first_at_head keys P q h heads next chains low head key =
    let at : IsFirstAt (IsIn keys (length heads) P (class_of (length heads) q)) 0 (length keys) h = subst (IsFirst (IsIn keys (length heads) P (class_of (length heads) q)) 0 (length keys)) head (chains.first (class_of (length heads) q) low) in
    record {
      from = omega arith;
      within = at.within;
      holds = (at.holds.0, key);
      before = λ x from high r. at.before x from high (r.0, ap (class_of (length heads)) r.1);
    }

pub none_at_head : (keys : Keys) (P : ℕ → Type 0) (q : List ℕ) (heads next : List (Option ℕ)) → AreChained keys P heads next → class_of (length heads) q < length heads
    → get_or heads (class_of (length heads) q) None ≡ None → IsFirst (IsOf keys P q) 0 (length keys) None
none_at_head keys P q heads next chains low head =
    let at : (x : ℕ) → 0 ≤ x → x < length keys → ¬ (IsIn keys (length heads) P (class_of (length heads) q) x) = subst (IsFirst (IsIn keys (length heads) P (class_of (length heads) q)) 0 (length keys)) head (chains.first (class_of (length heads) q) low) in
    λ x from high r. at x from high (r.0, ap (class_of (length heads)) r.1)

-- row b is in the class of the key q, and no row up to it has the key
pub record IsBehind (keys : Keys) (P : ℕ → Type 0) (q : List ℕ) (count b : ℕ) : Type 0 where
  pub within : b < length keys
  pub waits : P b
  pub class : class_of count (key_at keys b) ≡ class_of count q
  pub none : (x : ℕ) → x ≤ b → ¬ (IsOf keys P q x)

pub behind_head : (keys : Keys) (P : ℕ → Type 0) (q : List ℕ) (h : ℕ) (heads next : List (Option ℕ)) → AreChained keys P heads next → class_of (length heads) q < length heads
    → get_or heads (class_of (length heads) q) None ≡ Some h → key_at keys h ≢ q → IsBehind keys P q (length heads) h
behind_head keys P q h heads next chains low head other = record { within = at.within; waits = at.holds.0; class = at.holds.1; none = λ x up r. none x up r (cases_eq x h) }
  where
    at : IsFirstAt (IsIn keys (length heads) P (class_of (length heads) q)) 0 (length keys) h
    at = subst (IsFirst (IsIn keys (length heads) P (class_of (length heads) q)) 0 (length keys)) head (chains.first (class_of (length heads) q) low)

    none : (x : ℕ) → x ≤ h → IsOf keys P q x → (x ≡ h) ⊎ (x ≢ h) → ⊥
    none x up r (inl here) = other (sym (ap (key_at keys) here) ∙ r.1)
    none x up r (inr apart) = at.before x (omega arith) (omega (arith, up, apart)) (r.0, ap (class_of (length heads)) r.1)

pub link_of : (keys : Keys) (P : ℕ → Type 0) (q : List ℕ) (b : ℕ) (heads next : List (Option ℕ)) (o : Option ℕ) → AreChained keys P heads next → IsBehind keys P q (length heads) b → get_or next b None ≡ o
    → IsFirst (IsIn keys (length heads) P (class_of (length heads) q)) (suc b) (length keys) o
link_of keys P q b heads next o chains behind link =
    let there : IsFirst (IsIn keys (length heads) P (class_of (length heads) (key_at keys b))) (suc b) (length keys) (get_or next b None) = chains.later b behind.within behind.waits in
    rw (link, behind.class) at there

-- no row between a row and the next one of its class has the key
pub none_between : (keys : Keys) (P : ℕ → Type 0) (q : List ℕ) (count b h : ℕ) → IsBehind keys P q count b → ((x : ℕ) → suc b ≤ x → x < h → ¬ (IsIn keys count P (class_of count q) x)) → (x : ℕ) → x < h → ¬ (IsOf keys P q x)
none_between keys P q count b h behind none x low r = elim (cases_lt b x) [
  | inl past ↦ none x (omega (arith, past)) low (r.0, ap (class_of count) r.1)
  | inr up ↦ behind.none x up r
]

pub behind_next : (keys : Keys) (P : ℕ → Type 0) (q : List ℕ) (b h : ℕ) (heads next : List (Option ℕ)) → AreChained keys P heads next → IsBehind keys P q (length heads) b → get_or next b None ≡ Some h → key_at keys h ≢ q
    → IsBehind keys P q (length heads) h
behind_next keys P q b h heads next chains behind link other = record { within = at.within; waits = at.holds.0; class = at.holds.1; none = λ x up r. none x up r (cases_eq x h) }
  where
    at : IsFirstAt (IsIn keys (length heads) P (class_of (length heads) q)) (suc b) (length keys) h
    at = link_of keys P q b heads next (Some h) chains behind link

    none : (x : ℕ) → x ≤ h → IsOf keys P q x → (x ≡ h) ⊎ (x ≢ h) → ⊥
    none x up r (inl here) = other (sym (ap (key_at keys) here) ∙ r.1)
    none x up r (inr apart) = none_between keys P q (length heads) b h behind at.before x (omega (arith, up, apart)) r

pub first_behind : (keys : Keys) (P : ℕ → Type 0) (q : List ℕ) (b h : ℕ) (heads next : List (Option ℕ)) → AreChained keys P heads next → IsBehind keys P q (length heads) b → get_or next b None ≡ Some h → key_at keys h ≡ q
    → IsFirst (IsOf keys P q) 0 (length keys) (Some h)
first_behind keys P q b h heads next chains behind link key =
    let at : IsFirstAt (IsIn keys (length heads) P (class_of (length heads) q)) (suc b) (length keys) h = link_of keys P q b heads next (Some h) chains behind link in
    record {
      from = omega arith;
      within = at.within;
      holds = (at.holds.0, key);
      before = λ x from high r. none_between keys P q (length heads) b h behind at.before x high r;
    }

pub none_behind : (keys : Keys) (P : ℕ → Type 0) (q : List ℕ) (b : ℕ) (heads next : List (Option ℕ)) → AreChained keys P heads next → IsBehind keys P q (length heads) b → get_or next b None ≡ None
    → IsFirst (IsOf keys P q) 0 (length keys) None
none_behind keys P q b heads next chains behind link =
    let none : (x : ℕ) → suc b ≤ x → x < length keys → ¬ (IsIn keys (length heads) P (class_of (length heads) q) x) = link_of keys P q b heads next None chains behind link in
    λ x from high r. none_between keys P q (length heads) b (length keys) behind none x high r
