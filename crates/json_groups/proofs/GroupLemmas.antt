-- Groups, where there is one part more.
use Rattle.std.proofs.Common.{◌≡◌, ◌≢◌, ◌<◌, ◌≤◌, ◌+◌, ◌++◌, ◌∷◌, ◌∙◌, ◌⊎◌, inl, inr, ℕ, suc, Bool, true, false, if◌then◌else◌, List, [], length, map, get_or, set, refl, sym, ap, subst, arith, append-nil, append_assoc, length-append, Option, None, Some}
use Rattle.std.proofs.lemmas.Bool.{cases_eq}
use Rattle.std.proofs.lemmas.List.{get_or-map, get_or-set_other, get_or-set_same, get_or_append_left, get_or_push, length-map, length-set, map-append}
use Rattle.std.proofs.Math.Seq.{map-set_same}
use Rattle.std.proofs.lemmas.List.Elements.{All-push}
use Rattle.std.proofs.lemmas.List.Folds.{list_any_at}
use Rattle.std.proofs.lemmas.Slice.Eq.{bytes_eq-Decides}
use Rattle.std.specs.Cmp.Lexicographic.{nat_list_eq_equiv}
use Rattle.std.specs.Global.{Vec}
use Rattle.std.specs.HashMap.{HashMap, UpdatesBy, get_by}
use Rattle.std.specs.List.{count_by, list_any}
use Rattle.std.specs.Map.{AreApart, IsKeyTest, KeepsOthers, lookup}
use Rattle.std.specs.Prelude.{All, ◌==◌}
use Rattle.std.specs.Str.{bytes_eq}
use Rattle.json.specs.Json.{Json}
use Rattle.json_parts.specs.Parts.{Part, part}
use Rattle.json_groups.specs.Groups.{AreCounted, AreFound, AreGroupsOf, HoldsDocuments, HoldsParts, IsGroup, IsGroupOf, all_parts, group_paths, has, is_at, paths_of, place_of, values_at, with_path}
use Rattle.json_groups.specs.declared.group.Group.{Group}
use Rattle.json_groups.specs.declared.groups.Groups.{Groups}
use Rattle.json_groups.proofs.PathLemmas.{all_next, any_more, any_place, counted_end, counted_next, counted_new, counted_other, counted_same, paths_any, paths_more, values_none, values_other, values_same}

-- ---- places

apart : (bs cs ks : List ℕ) → bytes_eq bs cs ≡ false → bytes_eq bs ks ≡ true → bytes_eq cs ks ≡ false
apart bs cs ks n y = nat_list_eq_equiv.symm cs ks ∙ sym (nat_list_eq_equiv.congr bs ks cs y) ∙ n

module _ {K : Type 0} (eq : K → K → Bool) (test : K → Bool) where
  other_entries : {X : Type 0} (old new : List (K × X)) → KeepsOthers eq test old new → (other : K → Bool) → IsKeyTest eq other → AreApart test other → lookup other new ≡ lookup other old
  unfolding KeepsOthers
  other_entries old new h = h

-- the places after one of a path is put in
pub place_after : {S : Type 0} (bs : List ℕ) (m n : HashMap (Vec ℕ) ℕ S) (i : ℕ) → UpdatesBy (λ x y. bytes_eq x.items y.items) (λ k. bytes_eq bs k.items) m n (Some i)
    → (cs : List ℕ) → place_of cs n ≡ (if bytes_eq bs cs then Some i else place_of cs m)
place_after bs m n i h cs = by (bytes_eq bs cs) refl
  where
    by : (b : Bool) → bytes_eq bs cs ≡ b → place_of cs n ≡ (if b then Some i else place_of cs m)
    by true e = subst (λ ds. place_of ds n ≡ Some i) ((bytes_eq-Decides bs cs).0 e) h.1
    by false e = other_entries _ _ _ _ h.3 (λ k. bytes_eq cs k.items) (λ x y. nat_list_eq_equiv.congr cs x.items y.items) (λ k. apart bs cs k.items e)

some_one : {A : Type 0} (a b : A) → Some a ≡ Some b → a ≡ b
some_one a b e = cc

found_as : {S : Type 0} (m n : HashMap (Vec ℕ) ℕ S) (ps qs : List (List ℕ)) → n ≡ m → qs ≡ ps → AreFound m ps → AreFound n qs
found_as {S} m n ps qs a b f = subst (λ (k : HashMap (Vec ℕ) ℕ S). AreFound k qs) (sym a) (subst (AreFound m) (sym b) f)

-- a path that is found at no place is none of the paths
pub none_found : {S : Type 0} (m : HashMap (Vec ℕ) ℕ S) (paths : List (List ℕ)) (path : List ℕ) → AreFound m paths → place_of path m ≡ None → list_any (bytes_eq path) paths ≡ false
none_found m paths path f none = by (list_any (bytes_eq path) paths) refl
  where
    by : (b : Bool) → list_any (bytes_eq path) paths ≡ b → b ≡ false
    by false e = refl
    by true e =
        let (i, low, same) = any_place path paths e in
        let here : place_of path m ≡ Some i = subst (λ p. place_of p m ≡ Some i) same (f.each i low) in
        absurd (cc)

-- the places with one of a path more
pub found_more : {S : Type 0} (m n : HashMap (Vec ℕ) ℕ S) (paths : List (List ℕ)) (path : List ℕ) → AreFound m paths → place_of path m ≡ None
    → ((q : List ℕ) → place_of q n ≡ (if bytes_eq path q then Some (length paths) else place_of q m)) → AreFound n (paths ++ path ∷ [])
found_more m n paths path f none told = record {
  within = λ q i e. within q i (bytes_eq path q) (sym (told q) ∙ e);
  same = λ q i e. same q i (bytes_eq path q) refl (sym (told q) ∙ e);
  each = λ i low. each i low (cases_eq i (length paths));
}
  where
    longer : length (paths ++ path ∷ []) ≡ length paths + 1
    longer = length-append paths (path ∷ [])

    within : (q : List ℕ) (i : ℕ) (b : Bool) → (if b then Some (length paths) else place_of q m) ≡ Some i → i < length (paths ++ path ∷ [])
    within q i true e = let at : length paths ≡ i = some_one (length paths) i e in omega (arith, at, longer)
    within q i false e = omega (arith, f.within q i e, longer)

    same : (q : List ℕ) (i : ℕ) (b : Bool) → bytes_eq path q ≡ b → (if b then Some (length paths) else place_of q m) ≡ Some i → get_or (paths ++ path ∷ []) i [] ≡ q
    same q i true b e = get_or_push paths path [] i (some_one (length paths) i e) ∙ (bytes_eq-Decides path q).0 b
    same q i false b e = get_or_append_left paths (path ∷ []) [] i (f.within q i e) ∙ f.same q i e

    old : (i : ℕ) → i < length paths → (b : Bool) → bytes_eq path (get_or paths i []) ≡ b → place_of (get_or paths i []) n ≡ Some i
    old i low true b =
        let here : place_of path m ≡ Some i = subst (λ p. place_of p m ≡ Some i) (sym ((bytes_eq-Decides path (get_or paths i [])).0 b)) (f.each i low) in
        absurd (cc)
    old i low false b = told (get_or paths i []) ∙ ap (λ t. if t then Some (length paths) else place_of (get_or paths i []) m) b ∙ f.each i low

    each : (i : ℕ) → i < length (paths ++ path ∷ []) → (i ≡ length paths) ⊎ (¬ (i ≡ length paths)) → place_of (get_or (paths ++ path ∷ []) i []) n ≡ Some i
    each i low (inl at) =
        let own : bytes_eq path path ≡ true = (bytes_eq-Decides path path).1 refl in
        let here : place_of path n ≡ Some i = told path ∙ ap (λ t. if t then Some (length paths) else place_of path m) own ∙ ap Some (sym at) in
        subst (λ p. place_of p n ≡ Some i) (sym (get_or_push paths path [] i (sym at))) here
    each i low (inr not_last) =
        let before : i < length paths = omega (arith, low, longer, not_last) in
        subst (λ p. place_of p n ≡ Some i) (sym (get_or_append_left paths (path ∷ []) [] i before)) (old i before (bytes_eq path (get_or paths i [])) refl)

-- no path is found in no places
found_none : {S : Type 0} (m : HashMap (Vec ℕ) ℕ S) → m.entries ≡ [] → AreFound m []
found_none m e = record {
  within = λ path i there. absurd (nowhere path i there);
  same = λ path i there. absurd (nowhere path i there);
  each = λ i low. absurd (omega (arith, low));
}
  where
    nowhere : (path : List ℕ) (i : ℕ) → place_of path m ≡ Some i → ⊥
    nowhere path i there =
        let none : place_of path m ≡ None = ap (lookup (λ (key : Vec ℕ). bytes_eq path key.items)) e in
        absurd (cc)

pub many_paths : {T : Type 0} (groups : List (Group T)) → length (group_paths groups) ≡ length groups
many_paths {T} groups = length-map groups (λ (g : Group T). g.path.items)

-- ---- one group

module _ {T : Type 0} (Gathers : List Json → T → Type 0) (done : List (List Part)) (parts : List Part) (x : Part) where
  -- a group of another path
  pub group_other : (g : Group T) → is_at g.path.items x ≡ false → IsGroup Gathers done parts g → IsGroup Gathers done (parts ++ x ∷ []) g
  group_other g e h = record {
    counted = counted_other done parts g.path.items g.documents g.last x e h.counted;
    tally = subst (λ values. Gathers values g.tally)
        (sym (ap (values_at g.path.items) (sym (append_assoc (all_parts done) parts (x ∷ []))) ∙ values_other g.path.items (all_parts done ++ parts) x e)) h.tally;
  }

  -- the group of the path, with the part
  pub group_same : (g h : Group T) (n : ℕ) → g.path.items ≡ x.path → h.path ≡ g.path → n ≡ suc (length done) → h.documents ≡ g.documents + (if g.last == n then 0 else 1) → h.last ≡ n
      → ((values : List Json) → Gathers values g.tally → Gathers (values ++ x.value ∷ []) h.tally) → IsGroup Gathers done parts g → IsGroup Gathers done (parts ++ x ∷ []) h
  group_same g h n path kept number documents last add old =
      let at : is_at g.path.items x ≡ true = (bytes_eq-Decides g.path.items x.path).1 path in
      let more : h.documents ≡ g.documents + (if g.last == suc (length done) then 0 else 1) = documents ∙ ap (λ k. g.documents + (if g.last == k then 0 else 1)) number in
      let counted : AreCounted done (parts ++ x ∷ []) g.path.items h.documents (suc (length done)) = counted_same done parts g.path.items g.documents g.last h.documents x at old.counted more in
      let values : values_at g.path.items (all_parts done ++ (parts ++ x ∷ [])) ≡ values_at g.path.items (all_parts done ++ parts) ++ x.value ∷ [] =
      ap (values_at g.path.items) (sym (append_assoc (all_parts done) parts (x ∷ []))) ∙ values_same g.path.items (all_parts done ++ parts) x at in
      record {
        counted = subst (λ p. AreCounted done (parts ++ x ∷ []) p.items h.documents h.last) (sym kept) (subst (λ l. AreCounted done (parts ++ x ∷ []) g.path.items h.documents l) (sym (last ∙ number)) counted);
        tally = subst (λ p. Gathers (values_at p.items (all_parts done ++ (parts ++ x ∷ []))) h.tally) (sym kept)
            (subst (λ vs. Gathers vs h.tally) (sym values) (add (values_at g.path.items (all_parts done ++ parts)) old.tally));
      }

  -- a new group, before its first part
  pub group_new : (g : Group T) → g.documents ≡ 0 → g.last ≡ 0 → Gathers [] g.tally → has g.path.items (all_parts done ++ parts) ≡ false → IsGroup Gathers done parts g
  group_new g documents last tally none = record {
    counted = subst (λ n. AreCounted done parts g.path.items n g.last) (sym documents) (subst (λ n. AreCounted done parts g.path.items 0 n) (sym last) (counted_new done parts g.path.items none));
    tally = subst (λ vs. Gathers vs g.tally) (sym (values_none g.path.items (all_parts done ++ parts) none)) tally;
  }

  -- ---- all groups

  moved : all_parts done ++ (parts ++ x ∷ []) ≡ (all_parts done ++ parts) ++ x ∷ []
  moved = sym (append_assoc (all_parts done) parts (x ∷ []))

  -- one part more at a path that has a group
  pub part_more : (s t : Groups T) (i : ℕ) (g h : Group T) → HoldsParts Gathers done parts s → place_of x.path s.places ≡ Some i → g ≡ get_or s.groups.items i g
      → t.places ≡ s.places → t.documents ≡ s.documents → t.groups.items ≡ set s.groups.items i h
      → h.path ≡ g.path → h.documents ≡ g.documents + (if g.last == s.documents then 0 else 1) → h.last ≡ s.documents
      → ((values : List Json) → Gathers values g.tally → Gathers (values ++ x.value ∷ []) h.tally) → HoldsParts Gathers done (parts ++ x ∷ []) t
  part_more s t i g h held place here places number groups kept documents last add =
      let xs = s.groups.items in
      let f = λ (k : Group T). k.path.items in
      let within : i < length (group_paths xs) = held.found.within x.path i place in
      let low : i < length xs = omega (arith, within, length-map xs f) in
      let path : g.path.items ≡ x.path = sym (get_or-map f xs i g [] low ∙ ap f (sym here)) ∙ held.found.same x.path i place in
      let same : group_paths t.groups.items ≡ group_paths xs = ap group_paths groups ∙ map-set_same f xs i h g (ap (λ (p : Vec ℕ). p.items) kept ∙ ap f here) in
      let at : list_any (bytes_eq x.path) (paths_of (all_parts done ++ parts)) ≡ true =
      subst (λ ps. list_any (bytes_eq x.path) ps ≡ true) held.paths
      (list_any_at (bytes_eq x.path) (group_paths xs) i [] within ((bytes_eq-Decides x.path (get_or (group_paths xs) i [])).1 (sym (held.found.same x.path i place)))) in
      let paths : paths_of (all_parts done ++ (parts ++ x ∷ [])) ≡ paths_of (all_parts done ++ parts) =
      ap paths_of moved ∙ paths_more (all_parts done ++ parts) x ∙ ap (λ b. if b then paths_of (all_parts done ++ parts) else paths_of (all_parts done ++ parts) ++ x.path ∷ []) at in
      let old : IsGroup Gathers done parts g = subst (IsGroup Gathers done parts) (sym here) (held.each i g low) in
      let new : IsGroup Gathers done (parts ++ x ∷ []) h = group_same g h s.documents path kept held.number documents last add old in
      record {
        number = number ∙ held.number;
        found = found_as s.places t.places (group_paths xs) (group_paths t.groups.items) places same held.found;
        paths = same ∙ held.paths ∙ sym paths;
        each = subst (All (IsGroup Gathers done (parts ++ x ∷ []))) (sym groups) (λ k d high. each k d low new high (cases_eq k i));
      }
    where
      all : List (Group T)
      all = s.groups.items

      other : (k : ℕ) (d : Group T) → k < length all → k ≢ i → (b : Bool) → is_at (get_or all k d).path.items x ≡ b → b ≡ false
      other k d low not_there false e = refl
      other k d low not_there true e =
          let path : get_or (group_paths all) k [] ≡ (get_or all k d).path.items = get_or-map (λ (l : Group T). l.path.items) all k d [] low in
          let same : get_or (group_paths all) k [] ≡ x.path = path ∙ (bytes_eq-Decides (get_or all k d).path.items x.path).0 e in
          let there : place_of x.path s.places ≡ Some k =
          subst (λ p. place_of p s.places ≡ Some k) same (held.found.each k (omega (arith, low, length-map all (λ (l : Group T). l.path.items)))) in
          absurd (not_there (some_one k i (sym there ∙ place)))

      each : (k : ℕ) (d : Group T) → i < length all → IsGroup Gathers done (parts ++ x ∷ []) h → k < length (set all i h) → (k ≡ i) ⊎ (¬ (k ≡ i)) → IsGroup Gathers done (parts ++ x ∷ []) (get_or (set all i h) k d)
      each k d low new high (inl at) =
          subst (λ j. IsGroup Gathers done (parts ++ x ∷ []) (get_or (set all i h) j d)) (sym at) (subst (IsGroup Gathers done (parts ++ x ∷ [])) (sym (get_or-set_same all i h d low)) new)
      each k d low new high (inr not_there) =
          let inside : k < length all = omega (arith, high, length-set all i h) in
          let old : get_or (set all i h) k d ≡ get_or all k d = get_or-set_other all i k h d not_there in
          subst (IsGroup Gathers done (parts ++ x ∷ [])) (sym old) (group_other (get_or all k d) (other k d inside not_there (is_at (get_or all k d).path.items x) refl) (held.each k d inside))

  -- the first part at a path
  pub part_first : (s t : Groups T) (g h : Group T) → HoldsParts Gathers done parts s → place_of x.path s.places ≡ None
      → ((q : List ℕ) → place_of q t.places ≡ (if bytes_eq x.path q then Some (length s.groups.items) else place_of q s.places)) → t.documents ≡ s.documents → t.groups.items ≡ s.groups.items ++ h ∷ []
      → g.path.items ≡ x.path → g.documents ≡ 0 → g.last ≡ 0 → Gathers [] g.tally
      → h.path ≡ g.path → h.documents ≡ g.documents + (if g.last == s.documents then 0 else 1) → h.last ≡ s.documents
      → ((values : List Json) → Gathers values g.tally → Gathers (values ++ x.value ∷ []) h.tally) → HoldsParts Gathers done (parts ++ x ∷ []) t
  part_first s t g h held none places number groups path zero first empty kept documents last add =
      let xs = s.groups.items in
      let f = λ (k : Group T). k.path.items in
      let many : length (group_paths xs) ≡ length xs = length-map xs f in
      let absent : list_any (bytes_eq x.path) (group_paths xs) ≡ false = none_found s.places (group_paths xs) x.path held.found none in
      let unseen : list_any (bytes_eq x.path) (paths_of (all_parts done ++ parts)) ≡ false = subst (λ ps. list_any (bytes_eq x.path) ps ≡ false) held.paths absent in
      let lacks : has x.path (all_parts done ++ parts) ≡ false = sym (paths_any x.path (all_parts done ++ parts)) ∙ unseen in
      let own : h.path.items ≡ x.path = ap (λ (p : Vec ℕ). p.items) kept ∙ path in
      let all_paths : group_paths t.groups.items ≡ group_paths xs ++ x.path ∷ [] = ap group_paths groups ∙ map-append f xs (h ∷ []) ∙ ap (λ p. group_paths xs ++ p ∷ []) own in
      let paths : paths_of (all_parts done ++ (parts ++ x ∷ [])) ≡ paths_of (all_parts done ++ parts) ++ x.path ∷ [] =
      ap paths_of moved ∙ paths_more (all_parts done ++ parts) x ∙ ap (λ b. if b then paths_of (all_parts done ++ parts) else paths_of (all_parts done ++ parts) ++ x.path ∷ []) unseen in
      let told = λ (q : List ℕ). places q ∙ ap (λ n. if bytes_eq x.path q then Some n else place_of q s.places) (sym many) in
      let found : AreFound t.places (group_paths xs ++ x.path ∷ []) = found_more s.places t.places (group_paths xs) x.path held.found none told in
      let start : IsGroup Gathers done parts g = group_new g zero first empty (subst (λ p. has p (all_parts done ++ parts) ≡ false) (sym path) lacks) in
      let new : IsGroup Gathers done (parts ++ x ∷ []) h = group_same g h s.documents path kept held.number documents last add start in
      record {
        number = number ∙ held.number;
        found = found_as t.places t.places (group_paths xs ++ x.path ∷ []) (group_paths t.groups.items) refl all_paths found;
        paths = all_paths ∙ ap (λ ps. ps ++ x.path ∷ []) held.paths ∙ sym paths;
        each = subst (All (IsGroup Gathers done (parts ++ x ∷ []))) (sym groups) (All-push (IsGroup Gathers done (parts ++ x ∷ [])) xs h (λ k d low. group_other (get_or xs k d) (other k d low absent (is_at (get_or xs k d).path.items x) refl) (held.each k d low)) new);
      }
    where
      other : (k : ℕ) (d : Group T) → k < length s.groups.items → list_any (bytes_eq x.path) (group_paths s.groups.items) ≡ false → (b : Bool) → is_at (get_or s.groups.items k d).path.items x ≡ b → b ≡ false
      other k d low absent false e = refl
      other k d low absent true e =
          let xs = s.groups.items in
          let f = λ (l : Group T). l.path.items in
          let path : get_or (group_paths xs) k [] ≡ (get_or xs k d).path.items = get_or-map f xs k d [] low in
          let same : x.path ≡ get_or (group_paths xs) k [] = sym (path ∙ (bytes_eq-Decides (get_or xs k d).path.items x.path).0 e) in
          let there : list_any (bytes_eq x.path) (group_paths xs) ≡ true =
          list_any_at (bytes_eq x.path) (group_paths xs) k [] (omega (arith, low, length-map xs f)) ((bytes_eq-Decides x.path (get_or (group_paths xs) k [])).1 same) in
          absurd (cc)

-- ---- documents

module _ {T : Type 0} (Gathers : List Json → T → Type 0) where
  -- the groups of no documents
  pub nothing : (s : Groups T) → s.places.entries ≡ [] → s.groups.items ≡ [] → s.documents ≡ 0 → HoldsDocuments Gathers [] s
  nothing s places groups number = record {
    number = number;
    found = found_as s.places s.places [] (group_paths s.groups.items) refl (ap group_paths groups) (found_none s.places places);
    groups = record {
      paths = ap group_paths groups;
      each = subst (All (IsGroupOf Gathers [])) (sym groups) (λ k d low. absurd (omega (arith, low)));
    };
    last = subst (All (λ (g : Group T). g.last ≤ 0)) (sym groups) (λ k d low. absurd (omega (arith, low)));
  }

  -- the groups of documents, before the first part of one more
  pub begun : (documents : List (List Part)) (s t : Groups T) → HoldsDocuments Gathers documents s → t.places ≡ s.places → t.groups.items ≡ s.groups.items → t.documents ≡ s.documents + 1 → HoldsParts Gathers documents [] t
  begun documents s t held places groups number =
      let nothing : all_parts documents ++ [] ≡ all_parts documents = append-nil (all_parts documents) in
      record {
        number = omega (arith, number, held.number);
        found = found_as s.places t.places (group_paths s.groups.items) (group_paths t.groups.items) places (ap group_paths groups) held.found;
        paths = ap group_paths groups ∙ held.groups.paths ∙ ap paths_of (sym nothing);
        each = subst (All (IsGroup Gathers documents [])) (sym groups) (λ k d low. record {
          counted = counted_next documents (get_or s.groups.items k d).path.items (get_or s.groups.items k d).documents (get_or s.groups.items k d).last (held.groups.each k d low).documents_is (held.last k d low);
          tally = subst (λ ps. Gathers (values_at (get_or s.groups.items k d).path.items ps) (get_or s.groups.items k d).tally) (sym nothing) (held.groups.each k d low).tally;
        });
      }

  -- the groups of documents, of which the last one is whole
  pub ended : (done : List (List Part)) (parts : List Part) (s : Groups T) → HoldsParts Gathers done parts s → HoldsDocuments Gathers (done ++ parts ∷ []) s
  ended done parts s held =
      let whole : all_parts (done ++ parts ∷ []) ≡ all_parts done ++ parts = all_next done parts in
      record {
        number = omega (arith, held.number, length-append done (parts ∷ []));
        found = held.found;
        groups = record {
          paths = held.paths ∙ ap paths_of (sym whole);
          each = λ k d low. record {
            documents_is = (counted k d low).0;
            tally = subst (λ ps. Gathers (values_at (get_or s.groups.items k d).path.items ps) (get_or s.groups.items k d).tally) (sym whole) (held.each k d low).tally;
          };
        };
        last = λ k d low. (counted k d low).1;
      }
    where
      counted : (k : ℕ) (d : Group T) → k < length s.groups.items
          → ((get_or s.groups.items k d).documents ≡ count_by (has (get_or s.groups.items k d).path.items) (done ++ parts ∷ [])) × ((get_or s.groups.items k d).last ≤ length (done ++ parts ∷ []))
      counted k d low = counted_end done parts (get_or s.groups.items k d).path.items (get_or s.groups.items k d).documents (get_or s.groups.items k d).last (held.each k d low).counted
