-- Parts of strings as columns, and arrays that stand for them.
use Rattle.std.proofs.Common.{◌≡◌, ◌↔◌, ℕ, ◌-◌, ◌^◌, ◌<◌, ◌≤◌, ℤ, pos, negsuc, Bool, true, false, List, [], ◌∷◌, length, get_or, map, take, drop, refl, sym, ap, ap₂, subst, ◌∙◌, arith}
use Rattle.std.specs.Prelude.{Option, Some, None, Result, IfErr, IfOk, IfSome, min, slice_index_or}
use Rattle.std.specs.Str.{IsUtf8, bytes_eq}
use Rattle.std.proofs.Math.Nat.{min-le_left}
use Rattle.std.proofs.lemmas.List.{get_or-map, length-map}
use Rattle.std.proofs.lemmas.Result.{IfErr-weaker, IfOk-weaker}
use Rattle.std.proofs.lemmas.Slice.Eq.{bytes_eq-Decides}
use Rattle.polars_arrays_bytes.proofs.OffsetWindows.{length-strings}
use Rattle.polars_arrays_bytes.specs.OffsetStrings.{OffsetStrings, offset_rows, places, row_count, strings_between}
use Rattle.polars_arrays_flat.specs.Kind.{Kind, LargeBinaryKind, LargeUtf8Kind}
use Rattle.polars_arrays_flat.specs.Row.{Row, Bytes, Null}
use Rattle.polars_arrays_flat.specs.StoredRows.{byte_slots, kept}
use Rattle.polars_arrays_flat.specs.StoredRows.{row as row_at}
use Rattle.polars_arrays_flat.specs.Validity.{is_present}
use Rattle.polars_arrays_nested.specs.AnyRows.{row}
use Rattle.polars_arrays_nested.specs.GoodParts.{IsGood}
use Rattle.polars_arrays_nested.specs.Leaves.{leaves}
use Rattle.polars_arrays_nested.specs.Lengths.{len_of}
use Rattle.polars_arrays_nested.specs.Types.{type_of}
use Rattle.polars_arrays_nested.specs.declared.any_array.AnyArray.{AnyArray}
use Rattle.polars_arrays_nested.specs.declared.any_array.AnyArray as of
use Rattle.polars_arrays_numbers.specs.Naturals.{natural_of}
use Rattle.polars_arrays_words.proofs.Firsts.{get_or-first, length-first}
use Rattle.polars_compare_leaves.specs.Joining.{joined_bit}
use Rattle.polars_compare_nested.specs.Tally.{tally}
use Rattle.arrow_parts.specs.Kinds.{kind_number}
use Rattle.arrow_parts.specs.Lent.{present_in}
use Rattle.arrow_parts.specs.Refusals.{IsHonest}
use Rattle.arrow_parts.specs.declared.part.Part.{Part}
use Rattle.arrow_parts.specs.declared.part.PartKind.{PartKind}
use Rattle.arrow_parts.specs.declared.part.PartKind.TheVariants as kind
use Rattle.arrow_parts.specs.declared.refused.Refused.{Refused}
use Rattle.arrow_parts.specs.declared.refused.Refused.TheVariants.{Parts, Types, Room, Memory}
use Rattle.arrow_arrays.proofs.MaskedRows.{row-under}
use Rattle.arrow_arrays.specs.Columns.{Column, column_of, column_with, far_ends, near_ends, only, rows_of_parts, strings_in}
use Rattle.arrow_arrays.specs.Good.{AreGoodParts, GoodKind, GoodRows, HoldRows}
use Rattle.arrow_arrays.specs.Stands.{Stands}
use Rattle.arrow_equality.specs.Compared.{IsCounted}
use Rattle.arrow_equality.specs.Equal.{IsComparison, IsRefusedComparison}
use Rattle.arrow_equality.specs.PartStrings.{ArePartStrings, same_strings}
use Rattle.arrow_equality.specs.Strings.{AreComparedStrings}
use Rattle.arrow_equality.specs.declared.compared.Compared.{Compared}

-- ---- one part

-- the column of strings of a part between places
abbrev pub string_column : Kind → Part → List (Option ℕ) → Column
string_column type p all = column_with p type (strings_in all p) (λ from n. n)

-- one part alone is a column
pub one-column : (k : PartKind) (p : Part) → kind_number p.kind ≡ Some k → p.children ≡ 0 → rows_of_parts (p ∷ []) ≡ column_of (Some k) p []
one-column k p is alone =
    ap (λ (n : ℕ). only (column_of (kind_number p.kind) p (take n []) ∷ drop n [])) alone
    ∙ ap (λ (o : Option PartKind). column_of o p []) is

-- it is good if its name is a text, and if it is good for its kind
pub one-good : (k : PartKind) (p : Part) → kind_number p.kind ≡ Some k → p.children ≡ 0 → IsUtf8 p.name.now → GoodKind k p [] → AreGoodParts (p ∷ [])
one-good k p is alone name good = record {
  all = (
    record {
      name = name;
      children = omega (arith, alone);
      rows = subst (λ (n : ℕ). GoodRows (kind_number p.kind) p (take n [])) (sym alone) (subst (λ (o : Option PartKind). GoodRows o p []) (sym is) good);
    },
    tt,
  );
  one = ap (λ (n : ℕ). length (column_of (kind_number p.kind) p (take n []) ∷ drop n [])) alone;
}

-- and only then
pub one-kind : (k : PartKind) (p : Part) → kind_number p.kind ≡ Some k → AreGoodParts (p ∷ []) → GoodKind k p []
one-kind k p is good =
    let alone : p.children ≡ 0 = omega (arith, good.all.0.children) in
    subst (λ (o : Option PartKind). GoodRows o p []) is (subst (λ (n : ℕ). GoodRows (kind_number p.kind) p (take n [])) alone good.all.0.rows)

-- ---- a lone part of a list

lone : (parts : List Part) (other : Part) → length parts ≡ 1 → get_or parts 0 other ∷ [] ≡ parts
lone [] other one = cc
lone (p ∷ []) other one = refl
lone (p ∷ q ∷ parts) other one = absurd (omega (arith, one))

pub lone-good : (left right : List Part) (l r : Part) (found : Option Compared) (c : Compared) → length left ≡ 1 → length right ≡ 1 → found ≡ Some c → IfSome found (λ _. AreGoodParts (get_or left 0 l ∷ []) × AreGoodParts (get_or right 0 r ∷ [])) → AreGoodParts left × AreGoodParts right
lone-good left right l r found c one other is told =
    let both : AreGoodParts (get_or left 0 l ∷ []) × AreGoodParts (get_or right 0 r ∷ []) = subst (λ (o : Option Compared). IfSome o (λ _. AreGoodParts (get_or left 0 l ∷ []) × AreGoodParts (get_or right 0 r ∷ []))) is told in (
      subst (λ (parts : List Part). AreGoodParts parts) (lone left l one) both.0,
      subst (λ (parts : List Part). AreGoodParts parts) (lone right r other) both.1,
    )

-- ---- pairs of strings

pub pair-in : (p : Part) (n : ℕ) (all : List (Option ℕ)) (texts : Bool) (strings : List (List ℕ)) → strings ≡ strings_between all p.u8s.now → ArePartStrings p all texts → n ≡ p.rows → n ≤ length strings
pair-in p n all texts strings is are one =
    omega (arith, one, are.count, ap length is, length-strings all p.u8s.now)

-- pairs of the same strings
pub same-pairs : (xs ys us vs : List (List ℕ)) (n m : ℕ) → xs ≡ us → ys ≡ vs → n ≡ m → same_strings xs ys n ≡ same_strings us vs m
same-pairs xs ys us vs n m left right long =
    ap (λ (zs : List (List ℕ)). same_strings zs ys n) left ∙ (ap (λ (zs : List (List ℕ)). same_strings us zs n) right ∙ ap (same_strings us vs) long)

pub pairs-size : (xs ys us vs : List (List ℕ)) (n m : ℕ) → same_strings xs ys n ≡ same_strings us vs m → length (same_strings xs ys n) ≡ m
pairs-size xs ys us vs n m is =
    ap length is ∙ length-first (λ i. bytes_eq (slice_index_or us i []) (slice_index_or vs i [])) m

pub ruleset pairs = (same-pairs)

-- ---- the array of strings

abbrev pub whole : Option ℕ → ℤ
whole (Some at) = pos at
whole None = negsuc 0

whole-place : (p : Option ℕ) → natural_of (whole p) ≡ p
whole-place (Some at) = refl
whole-place None = refl

pub whole-places : (all : List (Option ℕ)) → places (λ (x : ℤ). x) (map whole all) ≡ all
whole-places [] = refl
whole-places (p ∷ all) =
    ap₂ (λ (q : Option ℕ) (rest : List (Option ℕ)). q ∷ rest) (whole-place p) (whole-places all)

-- the strings of a part between places, with offsets of 64 bits
abbrev array_of : Part → List (Option ℕ) → OffsetStrings ℤ
array_of p all = record { offsets = map whole all; values = p.u8s.now; validity = present_in p }

-- ---- rows

-- the bit of two rows
pub bit-told : (bit raw pl pr : Bool) (xs ys : List ℕ) → bit ≡ joined_bit true raw pl pr → raw ≡ bytes_eq xs ys → (bit ≡ true) ↔ (kept pl (Bytes xs) ≡ kept pr (Bytes ys))
bit-told bit raw true true xs ys is told = (
  (λ set. ap (λ (bs : List ℕ). Bytes bs) ((bytes_eq-Decides xs ys).0 (sym told ∙ sym is ∙ set))),
  (λ e. let bytes : Bytes xs ≡ Bytes ys = e in let same : xs ≡ ys = cc in is ∙ told ∙ (bytes_eq-Decides xs ys).1 same),
)
bit-told bit raw true false xs ys is told = ((λ set. cc), (λ e. cc))
bit-told bit raw false true xs ys is told = ((λ set. cc), (λ e. cc))
bit-told bit raw false false xs ys is told = ((λ set. refl), (λ e. is))

-- a string's row
string-row : (all : List (Option ℕ)) (bytes : List ℕ) (i : ℕ) → i < row_count all → row_at (byte_slots (strings_between all bytes)) i ≡ Bytes (slice_index_or (strings_between all bytes) i [])
string-row all bytes i low =
    get_or-map Bytes (strings_between all bytes) i [] Null (omega (arith, low, length-strings all bytes))

-- ---- the kinds

-- what is common to the kinds of parts that store strings between offsets: the type, the places, and
-- the array that has their rows
pub record IsStringKind (k : PartKind) (type : Kind) (ends : Part → List (Option ℕ)) (texts : Bool) (make : OffsetStrings ℤ → AnyArray) : Type 0 where
  pub column : (p : Part) → column_of (Some k) p [] ≡ string_column type p (ends p)
  pub good : (p : Part) → ArePartStrings p (ends p) texts → HoldRows p → GoodKind k p []
  pub held : (p : Part) → GoodKind k p [] → HoldRows p
  pub made : (a : OffsetStrings ℤ) → IsGood (make a)
  pub type_is : (a : OffsetStrings ℤ) → type_of (make a) ≡ type
  pub len_is : (a : OffsetStrings ℤ) → len_of (make a) ≡ row_count a.offsets
  pub row_is : (a : OffsetStrings ℤ) (i : ℕ) → row (make a) i ≡ row_at (offset_rows (λ (x : ℤ). x) a) i
  pub leaves_are : (a : OffsetStrings ℤ) (from n : ℕ) → leaves (make a) from n ≡ n
  pub tally_is : (a : OffsetStrings ℤ) (b : AnyArray) (n : ℕ) → tally (make a) b 0 0 n ≡ n

pub string-Binary : IsStringKind kind.Binary LargeBinaryKind near_ends false (λ a. of.LargeBinary a)
string-Binary = record {
  column = λ p. refl;
  good = λ p are held. record { present = held; count = are.count; good = are.good };
  held = λ p good. good.present;
  made = λ a. tt;
  type_is = λ a. refl;
  len_is = λ a. refl;
  row_is = λ a i. refl;
  leaves_are = λ a from n. refl;
  tally_is = λ a b n. refl;
}

pub string-LargeBinary : IsStringKind kind.LargeBinary LargeBinaryKind far_ends false (λ a. of.LargeBinary a)
string-LargeBinary = record {
  column = λ p. refl;
  good = λ p are held. record { present = held; count = are.count; good = are.good };
  held = λ p good. good.present;
  made = λ a. tt;
  type_is = λ a. refl;
  len_is = λ a. refl;
  row_is = λ a i. refl;
  leaves_are = λ a from n. refl;
  tally_is = λ a b n. refl;
}

pub string-Utf8 : IsStringKind kind.Utf8 LargeUtf8Kind near_ends true (λ a. of.LargeUtf8 a)
string-Utf8 = record {
  column = λ p. refl;
  good = λ p are held. record { rows = record { present = held; count = are.count; good = are.good }; texts = are.utf8 refl };
  held = λ p good. good.rows.present;
  made = λ a. tt;
  type_is = λ a. refl;
  len_is = λ a. refl;
  row_is = λ a i. refl;
  leaves_are = λ a from n. refl;
  tally_is = λ a b n. refl;
}

pub string-LargeUtf8 : IsStringKind kind.LargeUtf8 LargeUtf8Kind far_ends true (λ a. of.LargeUtf8 a)
string-LargeUtf8 = record {
  column = λ p. refl;
  good = λ p are held. record { rows = record { present = held; count = are.count; good = are.good }; texts = are.utf8 refl };
  held = λ p good. good.rows.present;
  made = λ a. tt;
  type_is = λ a. refl;
  len_is = λ a. refl;
  row_is = λ a i. refl;
  leaves_are = λ a from n. refl;
  tally_is = λ a b n. refl;
}

pub if-some : {A : Type 0} (P Q : A → Type 0) → ((x : A) → P x → Q x) → (o : Option A) → IfSome o P → IfSome o Q
if-some P Q f (Some x) told = f x told
if-some P Q f None told = tt

module _ (k : PartKind) (type : Kind) (ends : Part → List (Option ℕ)) (texts : Bool) (make : OffsetStrings ℤ → AnyArray) (is : IsStringKind k type ends texts make) where
  -- an array stands for the strings of a part
  strings-stand : (p : Part) → row_count (ends p) ≡ p.rows → Stands (make (array_of p (ends p))) (string_column type p (ends p))
  strings-stand p count =
      let a = array_of p (ends p) in
      record {
        good = is.made a;
        kind = is.type_is a;
        len = is.len_is a ∙ ap (λ (n : ℕ). n - 1) (length-map (ends p) whole) ∙ count;
        rows = λ i.
            is.row_is a i
            ∙ row-under (present_in p) (byte_slots (strings_between (places (λ (x : ℤ). x) (map whole (ends p))) p.u8s.now)) i
            ∙ ap (λ (all : List (Option ℕ)). kept (is_present (present_in p) i) (row_at (byte_slots (strings_between all p.u8s.now)) i)) (whole-places (ends p));
        leaves = is.leaves_are a;
      }

  -- one comparison for each row
  strings-counted : (l r : Part) (n : ℕ) → row_count (ends l) ≡ l.rows → n ≡ min l.rows (2 ^ 64 - 1) → IsCounted (make (array_of l (ends l))) (make (array_of r (ends r))) n
  strings-counted l r n count told =
      let a = array_of l (ends l) in
      let b = make (array_of r (ends r)) in
      let long : tally (make a) b 0 0 (len_of (make a)) ≡ l.rows = is.tally_is a b (len_of (make a)) ∙ is.len_is a ∙ ap (λ (m : ℕ). m - 1) (length-map (ends l) whole) ∙ count in
      told ∙ ap (λ (m : ℕ). min m (2 ^ 64 - 1)) (sym long)

  strings-compared : (l r : Part) (c : Compared) → AreComparedStrings l r (ends l) (ends r) texts c → IsComparison (string_column type l (ends l)) (string_column type r (ends r)) c
  strings-compared l r c are =
      let xs = strings_between (ends l) l.u8s.now in
      let ys = strings_between (ends r) r.u8s.now in
      let size : length (same_strings xs ys l.rows) ≡ l.rows = length-first (λ i. bytes_eq (slice_index_or xs i []) (slice_index_or ys i [])) l.rows in
      record {
        one_type = refl;
        one_length = are.one_length;
        size = are.joined.size ∙ size;
        at_each = λ i low.
            let bit = are.joined.at_each i (omega (arith, low, size)) in
            let raw = get_or-first (λ j. bytes_eq (slice_index_or xs j []) (slice_index_or ys j [])) l.rows i false low in
            let left = string-row (ends l) l.u8s.now i (omega (arith, low, are.left_good.count)) in
            let right = string-row (ends r) r.u8s.now i (omega (arith, low, are.right_good.count, are.one_length)) in
            subst (λ (x : Row). (slice_index_or c.bits i false ≡ true) ↔ (kept (is_present (present_in l) i) x ≡ kept (is_present (present_in r) i) (row_at (byte_slots ys) i))) (sym left)
            (subst (λ (y : Row). (slice_index_or c.bits i false ≡ true) ↔ (kept (is_present (present_in l) i) (Bytes (slice_index_or xs i [])) ≡ kept (is_present (present_in r) i) y)) (sym right)
            (bit-told (slice_index_or c.bits i false) (slice_index_or (same_strings xs ys l.rows) i false) (is_present (present_in l) i) (is_present (present_in r) i) (slice_index_or xs i []) (slice_index_or ys i []) bit raw));
        count = record {
          left_array = make (array_of l (ends l));
          right_array = make (array_of r (ends r));
          one_type = is.type_is (array_of l (ends l)) ∙ sym (is.type_is (array_of r (ends r)));
          left_stands = strings-stand l are.left_good.count;
          right_stands = strings-stand r are.right_good.count;
          counted = strings-counted l r c.comparisons are.left_good.count are.count;
          bound = omega (arith, are.count, min-le_left l.rows (2 ^ 64 - 1));
        };
      }

  -- ---- of calls

  pub found-compared : (l r : Part) (result : Result (Option Compared) Refused) → kind_number l.kind ≡ Some k → kind_number r.kind ≡ Some k → IfOk result (λ found. IfSome found (AreComparedStrings l r (ends l) (ends r) texts)) → IfOk result (λ found. IfSome found (IsComparison (rows_of_parts (l ∷ [])) (rows_of_parts (r ∷ []))))
  found-compared l r result left right told =
      IfOk-weaker result (λ found. IfSome found (AreComparedStrings l r (ends l) (ends r) texts)) (λ found. IfSome found (IsComparison (rows_of_parts (l ∷ [])) (rows_of_parts (r ∷ []))))
      (λ found. if-some (AreComparedStrings l r (ends l) (ends r) texts) (IsComparison (rows_of_parts (l ∷ [])) (rows_of_parts (r ∷ [])))
      (λ c are.
      subst (λ (x : Column). IsComparison x (rows_of_parts (r ∷ [])) c) (sym (one-column k l left are.left_good.children ∙ is.column l))
      (subst (λ (y : Column). IsComparison (string_column type l (ends l)) y c) (sym (one-column k r right are.right_good.children ∙ is.column r)) (strings-compared l r c are))) found)
      told

  pub found-good : (l r : Part) (result : Result (Option Compared) Refused) → kind_number l.kind ≡ Some k → kind_number r.kind ≡ Some k → IfOk result (λ found. IfSome found (AreComparedStrings l r (ends l) (ends r) texts)) → IfOk result (λ found. IfSome found (λ _. AreGoodParts (l ∷ []) × AreGoodParts (r ∷ [])))
  found-good l r result left right told =
      IfOk-weaker result (λ found. IfSome found (AreComparedStrings l r (ends l) (ends r) texts)) (λ found. IfSome found (λ _. AreGoodParts (l ∷ []) × AreGoodParts (r ∷ [])))
      (λ found. if-some (AreComparedStrings l r (ends l) (ends r) texts) (λ _. AreGoodParts (l ∷ []) × AreGoodParts (r ∷ []))
      (λ c are. (
        one-good k l left are.left_good.children are.left_good.name (is.good l are.left_good are.left_held),
        one-good k r right are.right_good.children are.right_good.name (is.good r are.right_good are.right_held),
      )) found)
      told

  refused-as : (l r : Part) (e : Refused) → kind_number l.kind ≡ Some k → kind_number r.kind ≡ Some k → IsHonest (HoldRows l × HoldRows r) e → IsRefusedComparison (l ∷ []) (r ∷ []) e
  refused-as l r Parts left right honest = λ good. honest (is.held l (one-kind k l left good.0), is.held r (one-kind k r right good.1))
  refused-as l r Types left right honest = absurd honest
  refused-as l r Room left right honest = honest
  refused-as l r Memory left right honest = tt

  pub found-refused : (l r : Part) (result : Result (Option Compared) Refused) → kind_number l.kind ≡ Some k → kind_number r.kind ≡ Some k → IfErr result (IsHonest (HoldRows l × HoldRows r)) → IfErr result (IsRefusedComparison (l ∷ []) (r ∷ []))
  found-refused l r result left right told =
      IfErr-weaker result (IsHonest (HoldRows l × HoldRows r)) (IsRefusedComparison (l ∷ []) (r ∷ [])) (λ e. refused-as l r e left right) told
