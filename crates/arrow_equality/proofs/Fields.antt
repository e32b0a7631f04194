-- Columns of structs that are compared field by field.
use Rattle.std.proofs.Common.{◌≡◌, ◌↔◌, ◌∙◌, ◌<◌, ◌≤◌, ◌+◌, ◌-◌, ◌^◌, ◌++◌, ◌&&◌, ◌==◌, ℕ, Bool, true, false, List, [], ◌∷◌, length, get_or, take, drop, refl, sym, ap, ap₂, subst, arith}
use Rattle.std.specs.Prelude.{Option, Some, None, Result, IfOk, IfSome, min, slice_index_or}
use Rattle.std.proofs.lemmas.Result.{IfOk-weaker}
use Rattle.std.specs.Str.{IsUtf8}
use Rattle.std.proofs.lemmas.List.{drop-append-le, length-append, take-append-le}
use Rattle.std.proofs.lemmas.List.Elements.{All-cons}
use Rattle.std.proofs.lemmas.Simd.{get_or-zip2, length-zip2}
use Rattle.polars_arrays_flat.specs.Kind.{more_kinds}
use Rattle.polars_arrays_flat.specs.Row.{Row, RowList, more_rows}
use Rattle.polars_arrays_nested.specs.Lengths.{len_of}
use Rattle.polars_compare_nested.specs.Tally.{tally}
use Rattle.polars_compare_nested.specs.TallyColumns.{columns_tally}
use Rattle.arrow_parts.specs.Kinds.{kind_number}
use Rattle.arrow_parts.specs.declared.part.Part.{Part}
use Rattle.arrow_parts.specs.declared.part.PartKind.{PartKind}
use Rattle.arrow_parts.specs.declared.refused.Refused.{Refused}
use Rattle.arrow_arrays.specs.Columns.{Column, across, column_of, columns_of, named_kinds, only, rows_of_parts, stacked}
use Rattle.arrow_arrays.specs.Good.{AllGood, AllLong, AreGoodParts, GoodPart, GoodRows}
use Rattle.arrow_equality.specs.Equal.{IsCount}
use Rattle.arrow_equality.specs.Structs.{AddsField, AreBoth, AreCounted, AreFieldsCompared, HaveOneName, IsFieldCompared, first_name}
use Rattle.arrow_equality.specs.declared.compared.Compared.{Compared}
use Rattle.arrow_equality.proofs.FieldWitnesses.{array-type, field}
use Rattle.arrow_equality.proofs.StringColumns.{if-some}

-- ---- parts that follow one another

-- the columns of good parts come before those of the parts after them
columns-append : (xs ys : List Part) → AllGood xs → columns_of (xs ++ ys) ≡ columns_of xs ++ columns_of ys
columns-append [] ys good = refl
columns-append (p ∷ xs) ys good =
    let cs = columns_of xs in
    let ds = columns_of ys in
    ap (stacked p) (columns-append xs ys good.1)
    ∙ ap (λ (es : List Column). column_of (kind_number p.kind) p es ∷ drop p.children (cs ++ ds)) (take-append-le p.children cs ds good.0.children)
    ∙ ap (λ (es : List Column). column_of (kind_number p.kind) p (take p.children cs) ∷ es) (drop-append-le p.children cs ds good.0.children)

part-append : (p : Part) (cs ds : List Column) → GoodPart p cs → GoodPart p (cs ++ ds)
part-append p cs ds good = record {
  name = good.name;
  children = omega (arith, good.children, length-append cs ds);
  rows = subst (λ (es : List Column). GoodRows (kind_number p.kind) p es) (sym (take-append-le p.children cs ds good.children)) good.rows;
}

good-append : (xs ys : List Part) → AllGood xs → AllGood ys → AllGood (xs ++ ys)
good-append [] ys good more = more
good-append (p ∷ xs) ys good more = (
  subst (GoodPart p) (sym (columns-append xs ys good.1)) (part-append p (columns_of xs) (columns_of ys) good.0),
  good-append xs ys good.1 more,
)

pub only-one : (cs : List Column) → length cs ≡ 1 → cs ≡ only cs ∷ []
only-one [] one = cc
only-one (c ∷ []) one = refl
only-one (c ∷ d ∷ cs) one = absurd (omega (arith, one))

-- the column of parts that make one array comes before those of the parts after them
array-append : (xs ys : List Part) → AreGoodParts xs → columns_of (xs ++ ys) ≡ rows_of_parts xs ∷ columns_of ys
array-append xs ys good =
    columns-append xs ys good.all ∙ ap (λ (cs : List Column). cs ++ columns_of ys) (only-one (columns_of xs) good.one)

-- ---- names

column-name : (o : Option PartKind) (p : Part) (cs : List Column) → (column_of o p cs).name ≡ p.name.now
column-name None p cs = refl
column-name (Some k) p cs = refl

only-name : (c : Column) (cs : List Column) → length (c ∷ cs) ≡ 1 → (only (c ∷ cs)).name ≡ c.name
only-name c [] one = refl
only-name c (d ∷ cs) one = absurd (omega (arith, one))

parts-name : (parts : List Part) → AreGoodParts parts → (rows_of_parts parts).name ≡ first_name parts
parts-name [] good = let one : length {A = Column} [] ≡ 1 = good.one in cc
parts-name (p ∷ rest) good =
    only-name (column_of (kind_number p.kind) p (take p.children (columns_of rest))) (drop p.children (columns_of rest)) good.one
    ∙ column-name (kind_number p.kind) p (take p.children (columns_of rest))

parts-text : (parts : List Part) → AreGoodParts parts → IsUtf8 (first_name parts)
parts-text [] good = let one : length {A = Column} [] ≡ 1 = good.one in cc
parts-text (p ∷ rest) good = good.all.0.name

pub some-parts : (parts : List Part) (none : Bool) → none ≡ (length parts == 0) → none ≡ false → 0 < length parts
some-parts [] none is told = cc
some-parts (p ∷ parts) none is told = omega arith

-- the name of the part at place 0
first-named : (parts : List Part) (d : Part) → 0 < length parts → (get_or parts 0 d).name.now ≡ first_name parts
first-named [] d some = absurd (omega (arith, some))
first-named (p ∷ parts) d some = refl

pub one-name : (left right : List Part) (d e : Part) → 0 < length left → 0 < length right → length (get_or left 0 d).name.now < 2 ^ 62 → (get_or left 0 d).name.now ≡ (get_or right 0 e).name.now → HaveOneName left right
one-name left right d e some other short same = record {
  same = sym (first-named left d some) ∙ same ∙ first-named right e other;
  short = let long = ap length (first-named left d some) in omega (arith, short, long);
}

-- ---- counts

-- a sum of numbers of 64 bits that stop at the greatest
pub sum-stops : (a b m : ℕ) → min (min a m + min b m) m ≡ min (a + b) m
sum-stops a b m = omega arith

-- one field more
count-more : (l r : Column) (ls rs : List Column) (rows first rest n : ℕ) (name : List ℕ) (utf8 : IsUtf8 name) (short : length name < 2 ^ 63) → l.len ≡ rows → name ≡ l.name → name ≡ r.name → IsCount l r first → AreCounted ls rs rows rest → n ≡ min (first + rest) (2 ^ 64 - 1) → AreCounted (l ∷ ls) (r ∷ rs) rows n
count-more l r ls rs rows first rest n name utf8 short long left right one others sum =
    let a = one.left_array in
    let b = one.right_array in
    let type = (array-type a).is in
    let long' : len_of a ≡ rows = one.left_stands.len ∙ long in
    let stop = 2 ^ 64 - 1 in
    let first' : first ≡ min (tally a b 0 0 rows) stop = one.counted ∙ ap (λ (m : ℕ). min (tally a b 0 0 m) stop) long' in
    let slots : first ≤ l.leaves 0 rows = subst (λ (m : ℕ). first ≤ l.leaves 0 m) long one.bound in
    record {
      fields = field name utf8 short a ∷ others.fields;
      left_arrays = a ∷ others.left_arrays;
      right_arrays = b ∷ others.right_arrays;
      left_stand = (one.left_stands, others.left_stand);
      right_stand = (one.right_stands, others.right_stand);
      left_typed = (type, others.left_typed);
      right_typed = (sym one.one_type ∙ type, others.right_typed);
      left_named = (left, others.left_named);
      right_named = (right, others.right_named);
      counted =
          sum
          ∙ ap₂ (λ (x y : ℕ). min (x + y) stop) first' others.counted
          ∙ sum-stops (tally a b 0 0 rows) (columns_tally others.left_arrays others.right_arrays 0 0 rows) stop;
      bound = omega (arith, sum, slots, others.bound);
    }

-- ---- bits

both-true : (a b : Bool) → a && b ≡ true → (a ≡ true) × (b ≡ true)
both-true true true set = (refl, refl)
both-true true false set = cc
both-true false b set = cc

both-set : (a b : Bool) → a ≡ true → b ≡ true → a && b ≡ true
both-set a b set other = ap₂ (λ (x y : Bool). x && y) set other

head-same : (x y : Row) (xs ys : RowList) → more_rows x xs ≡ more_rows y ys → x ≡ y
head-same x y xs ys e = cc

rest-same : (x y : Row) (xs ys : RowList) → more_rows x xs ≡ more_rows y ys → xs ≡ ys
rest-same x y xs ys e = cc

and-told : (bit rest field : Bool) (x y : Row) (xs ys : RowList) → bit ≡ rest && field → (rest ≡ true) ↔ (xs ≡ ys) → (field ≡ true) ↔ (x ≡ y) → (bit ≡ true) ↔ (more_rows x xs ≡ more_rows y ys)
and-told bit rest field x y xs ys is others first = (
  (λ set. let both = both-true rest field (sym is ∙ set) in ap₂ (λ (z : Row) (zs : RowList). more_rows z zs) (first.0 both.1) (others.0 both.0)),
  (λ e. is ∙ both-set rest field (others.1 (rest-same x y xs ys e)) (first.1 (head-same x y xs ys e))),
)

-- ---- one field more

kinds-more : (l r : Column) (ls rs : List Column) → l.name ≡ r.name → l.kind ≡ r.kind → named_kinds ls ≡ named_kinds rs → named_kinds (l ∷ ls) ≡ named_kinds (r ∷ rs)
kinds-more l r ls rs name kind rest =
    ap (λ (n : List ℕ). more_kinds n l.kind (named_kinds ls)) name
    ∙ ap (λ k. more_kinds r.name k (named_kinds ls)) kind
    ∙ ap (more_kinds r.name r.kind) rest

module _ (lt rt ls rs : List Part) (k : ℕ) (one rest c : Compared) (are : AreBoth one rest c) (first : IsFieldCompared lt rt one) (others : AreFieldsCompared k ls rs rest) where
  abbrev l : Column
  l = rows_of_parts lt

  abbrev r : Column
  r = rows_of_parts rt

  abbrev cs : List Column
  cs = columns_of ls

  abbrev ds : List Column
  ds = columns_of rs

  abbrev n : ℕ
  n = length c.bits

  left-is : columns_of (lt ++ ls) ≡ l ∷ cs
  left-is = array-append lt ls first.left_good

  right-is : columns_of (rt ++ rs) ≡ r ∷ ds
  right-is = array-append rt rs first.right_good

  pub size-is : n ≡ length rest.bits
  size-is = ap length are.bits ∙ length-zip2 (λ (x y : Bool). x && y) rest.bits one.bits (sym are.one_length)

  left-name : l.name ≡ first_name lt
  left-name = parts-name lt first.left_good

  right-name : r.name ≡ first_name lt
  right-name = parts-name rt first.right_good ∙ sym first.names.same

  rows-is : l.len ≡ n
  rows-is = sym first.compared.size ∙ are.one_length ∙ sym size-is

  bits-told : (i : ℕ) → i < n → (slice_index_or c.bits i false ≡ true) ↔ (across (l ∷ cs) i ≡ across (r ∷ ds) i)
  bits-told i low =
      let low' : i < length rest.bits = omega (arith, low, size-is) in
      let low'' : i < length one.bits = omega (arith, low', are.one_length) in
      let here : i < l.len = omega (arith, low, rows-is) in
      let bit : slice_index_or c.bits i false ≡ slice_index_or rest.bits i false && slice_index_or one.bits i false = ap (λ (bs : List Bool). slice_index_or bs i false) are.bits ∙ get_or-zip2 (λ (x y : Bool). x && y) rest.bits one.bits i false false false low' low'' in
      and-told (slice_index_or c.bits i false) (slice_index_or rest.bits i false) (slice_index_or one.bits i false) (l.row i) (r.row i) (across cs i) (across ds i) bit (others.at_each i low') (first.compared.at_each i here)

  pub field-added : AreFieldsCompared (k + 1) (lt ++ ls) (rt ++ rs) c
  field-added = record {
    left_good = good-append lt ls first.left_good.all others.left_good;
    right_good = good-append rt rs first.right_good.all others.right_good;
    left_count = ap length left-is ∙ omega (arith, others.left_count);
    right_count = ap length right-is ∙ omega (arith, others.right_count);
    one_type = ap named_kinds left-is ∙ kinds-more l r cs ds (left-name ∙ sym right-name) first.compared.one_type others.one_type ∙ ap named_kinds (sym right-is);
    left_long = subst (AllLong n) (sym left-is) (All-cons (λ (x : Column). x.len ≡ n) l cs rows-is (subst (λ (m : ℕ). AllLong m cs) (sym size-is) others.left_long));
    right_long = subst (AllLong n) (sym right-is) (All-cons (λ (x : Column). x.len ≡ n) r ds (sym first.compared.one_length ∙ rows-is) (subst (λ (m : ℕ). AllLong m ds) (sym size-is) others.right_long));
    at_each = λ i low.
        subst (λ (es : List Column). (slice_index_or c.bits i false ≡ true) ↔ (across es i ≡ across (columns_of (rt ++ rs)) i)) (sym left-is)
        (subst (λ (es : List Column). (slice_index_or c.bits i false ≡ true) ↔ (across (l ∷ cs) i ≡ across es i)) (sym right-is) (bits-told i low));
    count =
        subst (λ (es : List Column). AreCounted es (columns_of (rt ++ rs)) n c.comparisons) (sym left-is)
        (subst (λ (es : List Column). AreCounted (l ∷ cs) es n c.comparisons) (sym right-is)
        (count-more l r cs ds n one.comparisons rest.comparisons c.comparisons (first_name lt) (parts-text lt first.left_good) first.names.short rows-is (sym left-name) (sym right-name) first.compared.count (subst (λ (m : ℕ). AreCounted cs ds m rest.comparisons) (sym size-is) others.count) are.count));
  }

adds-field : (lt rt : List Part) (one rest c : Compared) → AreBoth one rest c → IsFieldCompared lt rt one → AddsField lt rt rest c
adds-field lt rt one rest c are first = record {
  one_length = ap length are.bits ∙ length-zip2 (λ (x y : Bool). x && y) rest.bits one.bits (sym are.one_length);
  more = λ k ls rs others. field-added lt rt ls rs k one rest c are first others;
}

pub found-added : (lt rt : List Part) (one rest : Compared) (result : Result (Option Compared) Refused) → IsFieldCompared lt rt one → IfOk result (λ found. IfSome found (AreBoth one rest)) → IfOk result (λ found. IfSome found (AddsField lt rt rest))
found-added lt rt one rest result first told =
    IfOk-weaker result (λ found. IfSome found (AreBoth one rest)) (λ found. IfSome found (AddsField lt rt rest))
    (λ found. if-some (AreBoth one rest) (AddsField lt rt rest) (λ c are. adds-field lt rt one rest c are first) found) told
