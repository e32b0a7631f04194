-- A normal form nests no deeper than the value, so its text is a document.
use Rattle.std.proofs.Common.{◌≡◌, ℕ, ◌≤◌, List, [], ◌∷◌, Some, inl, inr, arith, refl, sym, subst}
use Rattle.json.proofs.Printed.Trees.{document-print}
use Rattle.json.specs.Json.{Json, null, boolean, number, string, array, object, Items, no_items, item, Members, no_members, member, max_depth, document}
use Rattle.json.specs.Tree.{depth, items_depth, members_depth}
use Rattle.json_normal.specs.Normal.{Entry, in_order, members_from, normal, normal_items, normal_entries, normal_text}
use Rattle.json_normal.proofs.OrderLemmas.{Has, order_has}
use Rattle.json_normal.proofs.WrittenLemmas.{HasNumbers-normal}

from_entries : (n : ℕ) (ms : List Entry) → ((z : Entry) → Has ms z → depth z.1 ≤ n) → members_depth (members_from ms) ≤ n
from_entries n [] f = omega arith
from_entries n (m ∷ ms) f =
    let first = f m (inl refl) in
    let rest = from_entries n ms (λ z h. f z (inr h)) in
    omega arith

mutual
  no_deeper : (j : Json) → depth (normal j) ≤ depth j
  no_deeper null = omega arith
  no_deeper (boolean b) = omega arith
  no_deeper (number s) = omega arith
  no_deeper (string s) = omega arith
  no_deeper (array js) = omega (arith, items_no_deeper js)
  no_deeper (object ms) =
      let entries = from_entries (members_depth ms) (in_order (normal_entries ms)) (λ z h. entry_no_deeper ms z (order_has (normal_entries ms) z h)) in
      omega arith

  items_no_deeper : (js : Items) → items_depth (normal_items js) ≤ items_depth js
  items_no_deeper no_items = omega arith
  items_no_deeper (item j js) = omega (arith, no_deeper j, items_no_deeper js)

  entry_no_deeper : (ms : Members) (z : Entry) → Has (normal_entries ms) z → depth z.1 ≤ members_depth ms
  entry_no_deeper no_members z h = absurd h
  entry_no_deeper (member k j ms) z (inl e) =
      let here : depth z.1 ≤ depth j = subst (λ (m : Entry). depth m.1 ≤ depth j) (sym e) (no_deeper j) in
      omega arith
  entry_no_deeper (member k j ms) z (inr h) = omega (arith, entry_no_deeper ms z h)

pub text_is_document : (j : Json) → depth j ≤ max_depth → document (normal_text j) ≡ Some (normal j)
text_is_document j h = document-print (normal j) (HasNumbers-normal j) (omega (arith, no_deeper j))
