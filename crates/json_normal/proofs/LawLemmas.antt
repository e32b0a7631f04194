-- Members in another order have the same normal form.
use Rattle.std.proofs.Common.{◌≡◌, List, ◌∷◌, ap, subst, refl}
use Rattle.std.proofs.lemmas.List.Sorted.{IsPermutation-map, IsPermutation-sym}
use Rattle.std.specs.List.Sorted.{IsPermutation}
use Rattle.std.specs.Prelude.{map}
use Rattle.json.specs.Json.{Members, no_members, member, object}
use Rattle.json.specs.Strict.{keys, AreDistinct}
use Rattle.json_normal.specs.Normal.{Entry, normal, normal_entries, members_from, entries}
use Rattle.json_normal.proofs.OrderLemmas.{Distinct, any_order}
use Rattle.json_normal.proofs.SortedLemmas.{distinct_keys, distinct_moved, has_moved}

abbrev named : Entry → Entry
named m = (m.0, normal m.1)

named_entries : (ms : Members) → map named (entries ms) ≡ normal_entries ms
named_entries no_members = refl
named_entries (member k j ms) = ap (λ (es : List Entry). (k, normal j) ∷ es) (named_entries ms)

pub reordered : (ms ns : Members) → AreDistinct (keys ms) → IsPermutation (entries ms) (entries ns) → normal (object ms) ≡ normal (object ns)
reordered ms ns d p =
    let xs : List Entry = normal_entries ms in
    let ys : List Entry = normal_entries ns in
    let moved : IsPermutation xs ys = subst (λ (es : List Entry). IsPermutation es ys) (named_entries ms)
    (subst (λ (es : List Entry). IsPermutation (map named (entries ms)) es) (named_entries ns) (IsPermutation-map named (entries ms) (entries ns) p)) in
    let own : Distinct xs = distinct_keys ms d in
    ap (λ es. object (members_from es)) (any_order xs ys own (distinct_moved xs ys moved own) (λ z h. has_moved ys xs z (IsPermutation-sym xs ys moved) h) (λ z h. has_moved xs ys z moved h))
