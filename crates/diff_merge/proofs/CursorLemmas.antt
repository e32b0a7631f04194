-- Cursors, one row on.
use Rattle.std.proofs.Common.{◌≡◌, ◌∙◌, ◌<◌, ◌⊎◌, ℕ, suc, Bool, true, false, List, [], ◌∷◌, ◌++◌, Option, Some, None, length, get_or, map, arith, ap, sym, refl, subst, inl, inr}
use Rattle.std.proofs.Math.Seq.{get_or-append_seam}
use Rattle.std.proofs.lemmas.Bool.{cases_lt}
use Rattle.std.proofs.lemmas.List.{get_or_append_left, length_push, map-append}
use Rattle.std.proofs.lemmas.List.Elements.{All-push}
use Rattle.std.specs.Borrow.{Bor}
use Rattle.std.specs.Prelude.{All, IfSome, IsSome, Vec, ⊤, option_map, unwrap_or}
use Rattle.csv.specs.Records.{fields_of}
use Rattle.diff_csv.specs.Given.{GivesOne, HasGiven}
use Rattle.diff_csv.specs.declared.options.CsvOptions.{CsvOptions}
use Rattle.diff_joins.specs.Merge.{ComesBefore, ComesBehind}
use Rattle.diff_keys.specs.Partners.{key_at}
use Rattle.diff_keys.specs.Unique.{AllDiffer}
use Rattle.diff_merge.specs.Cursors.{AreBelow, GoesOn, IsAlike, IsAt, last_cells, next_key, next_seen}
use Rattle.diff_merge.specs.Order.{key_less}
use Rattle.diff_merge.specs.Rows.{Seen, all_cells, keys_of}
use Rattle.diff_merge.specs.declared.cursor.Cursor.{Cursor}
use Rattle.diff_merge.proofs.OrderLemmas.{key_order}
use Rattle.diff_tables.specs.Keys.{cells_at, row_key}

-- a key that is less than another comes before all that this one comes before
before_next : (q k : List ℕ) (next : Option (List ℕ)) → key_less q k ≡ true → ComesBefore key_less k next → ComesBefore key_less q next
before_next q k None h g = tt
before_next q k (Some n) h g = key_order.transitive q k n h g

all_before : (ks : List (List ℕ)) (k : List ℕ) (next : Option (List ℕ)) → All (λ q. ComesBefore key_less q (Some k)) ks → ComesBefore key_less k next
    → All (λ q. ComesBefore key_less q next) ks
all_before ks k next h g = λ i d within. before_next (get_or ks i d) k next (h i d within) g

-- keys that are less than one more differ from it
below_push : (ks : List (List ℕ)) (k : List ℕ) (next : Option (List ℕ)) → AreBelow ks (Some k) → ComesBefore key_less k next → AreBelow (ks ++ k ∷ []) next
below_push ks k next h g = record {
  differ = λ i j less within same. elim (cases_lt j (length ks)) [
    | inl before ↦ h.differ i j less before
        (sym (get_or_append_left ks (k ∷ []) [] i (omega (arith, less, before))) ∙ (same ∙ get_or_append_left ks (k ∷ []) [] j before))
    | inr behind ↦
        let last : j ≡ length ks = let n = length_push ks k in omega (arith, n, within, behind) in
        let first : i < length ks = omega (arith, less, last) in
        let here : key_at (ks ++ k ∷ []) j ≡ k = ap (λ n. get_or (ks ++ k ∷ []) n []) last ∙ get_or-append_seam ks k [] [] in
        let there : get_or ks i [] ≡ k = sym (get_or_append_left ks (k ∷ []) [] i first) ∙ (same ∙ here) in
        let lesser : key_less (get_or ks i []) k ≡ true = h.below i [] first in
        let clash : false ≡ true = sym (key_order.irreflexive k) ∙ subst (λ q. key_less q k ≡ true) there lesser in
        absurd (cc clash)
  ];
  below = All-push (λ q. ComesBefore key_less q next) ks k (all_before ks k next h.below g) g;
}

-- what comes after a key: a greater one, or the same where keys may come twice, or no row
abbrev pub GoesOnTo : Bool → List ℕ → Option (List ℕ) → Type 0
GoesOnTo unique key None = ⊤
GoesOnTo unique key (Some next) = GoesOn unique key next

pub on_behind : (unique : Bool) (key : List ℕ) (next : Option (List ℕ)) → GoesOnTo unique key next → ComesBehind key_less (Some key) next
on_behind unique key None h = tt
on_behind unique key (Some next) h = elim h [
  | inl same ↦ inl same.1
  | inr less ↦ inr less
]

on_before : (unique : Bool) (key : List ℕ) (next : Option (List ℕ)) → unique ≡ true → GoesOnTo unique key next → ComesBefore key_less key next
on_before unique key None is h = tt
on_before unique key (Some next) is h = elim h [
  | inl same ↦ let clash : false ≡ true = sym same.0 ∙ is in absurd (cc clash)
  | inr less ↦ less
]

keys_push : (keys : List ℕ) (rows : List Seen) (r : Seen) → keys_of keys (rows ++ r ∷ []) ≡ keys_of keys rows ++ row_key keys r.cells ∷ []
keys_push keys rows r = map-append (λ (s : Seen). row_key keys s.cells) rows (r ∷ [])

cells_push : (rows : List Seen) (r : Seen) → all_cells (rows ++ r ∷ []) ≡ all_cells rows ++ r.cells ∷ []
cells_push rows r = map-append (λ (s : Seen). s.cells) rows (r ∷ [])

-- the line of a row that there is
some_line : (o : Option ℕ) → IsSome o → o ≡ Some (unwrap_or o 0)
some_line None h = cc h
some_line (Some x) h = refl

-- a fact of a value that there is
pub if_some : (o : Option ℕ) (P : Type 0) → IsSome o → IfSome o (λ _. P) → P
if_some None P some h = cc some
if_some (Some x) P some h = h

pub key_next : (o : Option ℕ) (k : List ℕ) → IsSome o → option_map (λ _. k) o ≡ Some k
key_next None k some = cc some
key_next (Some x) k some = refl

-- a fact where there is a value
pub any_if : (o : Option ℕ) (P : Type 0) → P → IfSome o (λ _. P)
any_if None P h = tt
any_if (Some x) P h = h

pub none_if : (o : Option ℕ) (P : Type 0) → o ≡ None → IfSome o (λ _. P)
none_if None P e = tt
none_if (Some x) P e = cc e

pub none_goes : (o : Option ℕ) (unique : Bool) (before key : List ℕ) → o ≡ None → GoesOnTo unique before (option_map (λ _. key) o)
none_goes None unique before key e = tt
none_goes (Some x) unique before key e = cc e

pub none_below : (next : Option (List ℕ)) → AreBelow [] next
none_below next = record {
  differ = λ i j less within same. omega (arith, within);
  below = λ k d within. absurd (omega (arith, within));
}

pub same_items : {X Z : Type 0} (v w : Vec X Z) → v ≡ w → v.items ≡ w.items
same_items {X} {Z} v w e = ap (λ (u : Vec X Z). u.items) e

-- the rows that were read, with the last one
pub read_so_far : {R : Type 0} (rem : R → Option (List ℕ)) (options : CsvOptions) (text : List ℕ) (rows : List Seen) (c : Cursor R) → IsSome c.line → (h : IsAt rem options text rows c)
    → HasGiven rem options text c.reader (h.records ++ fields_of c.row.value ∷ [])
read_so_far rem options text rows c some h = subst (λ l. GivesOne rem options text c.reader h.records (fields_of c.row.value) l) (some_line c.line some) h.given

-- one row more is passed
pub one_on : {R : Type 0} (rem : R → Option (List ℕ)) (options : CsvOptions) (text : List ℕ) (rows : List Seen) (old new : Cursor R) (key : List ℕ) → IsSome old.line → IsAlike old new
    → new.number ≡ suc old.number → key ≡ old.key.items → IfSome new.line (λ _. new.key.items ≡ row_key new.keys.now (last_cells new))
    → ((read : List (List (List ℕ))) → HasGiven rem options text old.reader read → GivesOne rem options text new.reader read (fields_of new.row.value) new.line)
    → GoesOnTo old.unique key (next_key new) → IsAt rem options text rows old → IsAt rem options text (rows ++ next_seen old ∷ []) new
one_on rem options text rows old new key some alike number is own gives on h =
    let here : old.key.items ≡ row_key old.keys.now (last_cells old) = if_some old.line (old.key.items ≡ row_key old.keys.now (last_cells old)) some h.key in
    let keys : new.keys.now ≡ old.keys.now = ap (λ (k : Bor (List ℕ)). k.now) alike.keys in
    let columns : new.columns.now ≡ old.columns.now = ap (λ (k : Bor (List ℕ)). k.now) alike.columns in
    record {
      records = h.records ++ fields_of old.row.value ∷ [];
      given = gives (h.records ++ fields_of old.row.value ∷ []) (read_so_far rem options text rows old some h);
      cells = cells_push rows (next_seen old) ∙ (ap (λ l. l ++ last_cells old ∷ []) h.cells
          ∙ (sym (map-append (cells_at old.columns.now) h.records (fields_of old.row.value ∷ [])) ∙ ap (λ l. map (cells_at l) (h.records ++ fields_of old.row.value ∷ [])) (sym columns)));
      number = let n = length_push rows (next_seen old) in let before = h.number in omega (arith, n, before, number);
      key = own;
      unique = λ asked.
          let was : old.unique ≡ true = sym alike.unique ∙ asked in
          let before : AreBelow (keys_of old.keys.now rows) (Some old.key.items) = subst (λ o. AreBelow (keys_of old.keys.now rows) o) (key_next old.line old.key.items some) (h.unique was) in
          let pushed : AreBelow (keys_of old.keys.now rows ++ old.key.items ∷ []) (next_key new) =
          below_push (keys_of old.keys.now rows) old.key.items (next_key new) before (subst (λ k. ComesBefore key_less k (next_key new)) is (on_before old.unique key (next_key new) was on)) in
          let all : keys_of old.keys.now rows ++ old.key.items ∷ [] ≡ keys_of new.keys.now (rows ++ next_seen old ∷ []) =
          ap (λ k. keys_of old.keys.now rows ++ k ∷ []) here ∙ (sym (keys_push old.keys.now rows (next_seen old)) ∙ ap (λ k. keys_of k (rows ++ next_seen old ∷ [])) (sym keys)) in
          subst (λ ks. AreBelow ks (next_key new)) all pushed;
    }
