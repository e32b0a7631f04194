-- Tables of members, and what is found in them.
use Rattle.std.proofs.Common.{◌≡◌, ℕ, List, [], ◌∷◌, ◌++◌, Bool, true, false, cond, Option, Some, length, map, get_or, ◌<◌, ap, sym, ◌∙◌, refl, arith}
use Rattle.std.proofs.lemmas.List.{get_or-map, length-map}
use Rattle.std.proofs.lemmas.Map.Text.{is_eq-slice_cmp}
use Rattle.std.specs.BTreeMap.{BTreeMap, get, is_at}
use Rattle.std.specs.Borrow.{Bor}
use Rattle.std.specs.Cmp.Lexicographic.{slice_cmp}
use Rattle.std.specs.Ordering.{nat_cmp}
use Rattle.std.specs.Str.{bytes_eq}
use Rattle.std.specs.declared.cmp.Ordering.{Ordering}
use Rattle.json.proofs.Trees.{get_member-push}
use Rattle.json.specs.Find.{get_member}
use Rattle.json.specs.Json.{Members}
use Rattle.json.specs.Value.{value_view, members_view}
use Rattle.json.specs.declared.value.Value.{Value}
use Rattle.json_changes.specs.Names.{FindsMembers, at_name, found_values, seen}

abbrev by_bytes : Bor (List ℕ) → Bor (List ℕ) → Ordering
by_bytes a b = slice_cmp nat_cmp a.now b.now

seen_if : {A : Type 0} → (b : Bool) (v : Bor (Value A)) (o : Option (Bor (Value A))) → seen (cond b (Some v) o) ≡ cond b (Some (value_view v.now)) (seen o)
seen_if true v o = refl
seen_if false v o = refl

pub one_more : {A : Type 0} → (old new : BTreeMap (Bor (List ℕ)) (Bor (Value A))) (key : Bor (List ℕ)) (v : Bor (Value A)) (ms : List (Bor (List ℕ) × Value A)) → FindsMembers old (members_view ms)
    → ((q : Bor (List ℕ)) → get by_bytes new q ≡ cond (is_at (by_bytes key) q) (Some v) (get by_bytes old q)) → FindsMembers new (members_view (ms ++ (key, v.now) ∷ []))
one_more old new key v ms finds updates k =
    let q : Bor (List ℕ) = record { ref_ptr = key.ref_ptr; now = k } in
    ap seen (updates q) ∙ seen_if (is_at (by_bytes key) q) v (at_name old k) ∙ ap (λ b. cond b (Some (value_view v.now)) (seen (at_name old k))) (is_eq-slice_cmp key.now k)
    ∙ ap (λ o. cond (bytes_eq key.now k) (Some (value_view v.now)) o) (finds k) ∙ sym (get_member-push k ms (key, v.now))

-- ---- one value found for each member

pub as_long : {A B : Type 0} → (own : List (Bor (List ℕ) × Value A)) (found : List (Option (Bor (Value B)))) (ns : Members) → map seen found ≡ found_values own ns → length found ≡ length own
as_long own found ns all = sym (length-map found seen) ∙ ap length all ∙ length-map own (λ m. get_member m.0.now ns)

pub found_at : {A B : Type 0} → (own : List (Bor (List ℕ) × Value A)) (found : List (Option (Bor (Value B)))) (ns : Members) (i : ℕ) (d : Option (Bor (Value B))) (e : Bor (List ℕ) × Value A)
    → map seen found ≡ found_values own ns → i < length own → seen (get_or found i d) ≡ get_member (get_or own i e).0.now ns
found_at own found ns i d e all h =
    sym (get_or-map seen found i d (seen d) (omega (arith, as_long own found ns all))) ∙ ap (λ os. get_or os i (seen d)) all ∙ get_or-map (λ m. get_member m.0.now ns) own i e (seen d) h
