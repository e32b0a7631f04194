-- Members and the look-up by their names.
use Rattle.std.proofs.Common.{◌≡◌, ◌≢◌, ℕ, suc, ◌<◌, List, [], Bool, true, false, cond, Option, Some, None, length, get_or, inl, inr, refl, sym, ap, ◌∙◌, subst, arith}
use Rattle.std.proofs.lemmas.Slice.Eq.{bytes_eq-Decides}
use Rattle.std.specs.Str.{bytes_eq}
use Rattle.json.specs.Find.{later_or, get_member}
use Rattle.json.specs.Json.{Json, Members, no_members, member}
use Rattle.json.specs.Strict.{keys, AreDistinct, HasUniqueKeys, MembersHaveUniqueKeys}
use Rattle.json_normal.specs.Same.{HasMember}

-- ---- what is found is a member

own_go : (k l : List ℕ) (j i : Json) (b : Bool) → bytes_eq l k ≡ b → cond b (Some j) None ≡ Some i → (k ≡ l) × (i ≡ j)
own_go k l j i true e h = (sym ((bytes_eq-Decides l k).0 e), cc)
own_go k l j i false e h = absurd (cc)

has_go : (k l : List ℕ) (j i : Json) (P : Json → Type 0) (ns : Members) (o : Option Json) → (o ≡ Some i → HasMember k P ns)
    → later_or o (cond (bytes_eq l k) (Some j) None) ≡ Some i → P i → HasMember k P (member l j ns)
has_go k l j i P ns None f h p = let own = own_go k l j i (bytes_eq l k) refl h in inl (own.0, subst P own.1 p)
has_go k l j i P ns (Some m) f h p = inr (f h)

pub has_member : (k : List ℕ) (P : Json → Type 0) (ns : Members) (i : Json) → get_member k ns ≡ Some i → P i → HasMember k P ns
has_member k P no_members i h p = absurd (cc)
has_member k P (member l j ns) i h p = has_go k l j i P ns (get_member k ns) (λ e. has_member k P ns i e p) h p

-- ---- a member is found

pub record Found (k : List ℕ) (P : Json → Type 0) (ns : Members) : Type 0 where
  pub value : Json
  pub is : get_member k ns ≡ Some value
  pub holds : P value

same_name : (k l : List ℕ) → k ≡ l → bytes_eq l k ≡ true
same_name k l e = (bytes_eq-Decides l k).1 (sym e)

other_go : (k l : List ℕ) (b : Bool) → bytes_eq l k ≡ b → k ≢ l → b ≡ false
other_go k l true e n = absurd (n (sym ((bytes_eq-Decides l k).0 e)))
other_go k l false e n = refl

other_name : (k l : List ℕ) → k ≢ l → bytes_eq l k ≡ false
other_name k l n = other_go k l (bytes_eq l k) refl n

pub not_found : (k : List ℕ) (ns : Members) → ((i : ℕ) (d : List ℕ) → i < length (keys ns) → k ≢ get_or (keys ns) i d) → get_member k ns ≡ None
not_found k no_members f = refl
not_found k (member l j ns) f =
    ap (λ o. later_or o (cond (bytes_eq l k) (Some j) None)) (not_found k ns (λ i d h. f (suc i) d (omega arith)))
    ∙ ap (λ b. cond b (Some j) None) (other_name k l (f 0 [] (omega arith)))

pub lacks : (k l : List ℕ) (j : Json) (ns : Members) → AreDistinct (keys (member l j ns)) → k ≡ l → (i : ℕ) (d : List ℕ) → i < length (keys ns) → k ≢ get_or (keys ns) i d
lacks k l j ns u e i d h = λ same. u 0 (suc i) d (omega arith) (omega arith) (sym e ∙ same)

pub rest_distinct : (l : List ℕ) (j : Json) (ns : Members) → AreDistinct (keys (member l j ns)) → AreDistinct (keys ns)
rest_distinct l j ns u = λ i m d h g. u (suc i) (suc m) d (omega arith) (omega arith)

-- of members with distinct names the one of a name is found
pub found_is : (k : List ℕ) (P : Json → Type 0) (ns : Members) → AreDistinct (keys ns) → HasMember k P ns → Found k P ns
found_is k P no_members u h = absurd h
found_is k P (member l j ns) u (inl h) = record {
  value = j;
  is = ap (λ o. later_or o (cond (bytes_eq l k) (Some j) None)) (not_found k ns (lacks k l j ns u h.0)) ∙ ap (λ b. cond b (Some j) None) (same_name k l h.0);
  holds = h.1;
}
found_is k P (member l j ns) u (inr h) =
    let rest = found_is k P ns (rest_distinct l j ns u) h in
    record { value = rest.value; is = ap (λ o. later_or o (cond (bytes_eq l k) (Some j) None)) rest.is; holds = rest.holds }

-- of a name that members have, one is found
some_go : (l k : List ℕ) (j : Json) (o : Option Json) → k ≡ l → (i : Json) × (later_or o (cond (bytes_eq l k) (Some j) None) ≡ Some i)
some_go l k j None e = (j, ap (λ b. cond b (Some j) None) (same_name k l e))
some_go l k j (Some i) e = (i, refl)

pub some_found : (k : List ℕ) (P : Json → Type 0) (ns : Members) → HasMember k P ns → (i : Json) × (get_member k ns ≡ Some i)
some_found k P no_members h = absurd h
some_found k P (member l j ns) (inl h) = some_go l k j (get_member k ns) h.0
some_found k P (member l j ns) (inr h) = let rest = some_found k P ns h in (rest.0, ap (λ o. later_or o (cond (bytes_eq l k) (Some j) None)) rest.1)

-- ---- members with unique keys

pub unique_member : (k : List ℕ) (P : Json → Type 0) (ns : Members) → MembersHaveUniqueKeys ns → HasMember k P ns → HasMember k (λ i. HasUniqueKeys i × P i) ns
unique_member k P no_members u h = h
unique_member k P (member l j ns) u (inl h) = inl (h.0, (u.0, h.1))
unique_member k P (member l j ns) u (inr h) = inr (unique_member k P ns u.1 h)
