-- Parts of numbers as columns, and arrays that stand for them.
use Rattle.std.proofs.Common.{◌≡◌, ◌↔◌, ◌∙◌, ◌-◌, ◌^◌, ◌<◌, ℕ, ℤ, pos, Bool, true, false, List, [], ◌∷◌, length, get_or, refl, sym, ap, subst, arith}
use Rattle.std.specs.Ordering.{int_eq}
use Rattle.std.specs.Prelude.{Option, Some, Result, IfErr, IfOk, IfSome, min, slice_index_or}
use Rattle.std.specs.Simd.Lanes.{zip2}
use Rattle.std.proofs.Math.Nat.{min-le_left}
use Rattle.std.proofs.lemmas.Bool.Decides.{Decides-int_eq}
use Rattle.std.proofs.lemmas.List.{get_or-map}
use Rattle.std.proofs.lemmas.Result.{IfErr-weaker, IfOk-weaker}
use Rattle.std.proofs.lemmas.Simd.{get_or-zip2, length-zip2}
use Rattle.polars_arrays_flat.specs.ArrayRows.{number_rows}
use Rattle.polars_arrays_flat.specs.Kind.{Kind, Int8Kind, Int16Kind, Int32Kind, Int64Kind, UInt8Kind, UInt16Kind, UInt32Kind, UInt64Kind}
use Rattle.polars_arrays_flat.specs.Numbers.{Numbers}
use Rattle.polars_arrays_flat.specs.Row.{Row, Int, Null}
use Rattle.polars_arrays_flat.specs.StoredRows.{kept, number_slots}
use Rattle.polars_arrays_flat.specs.StoredRows.{row as row_at}
use Rattle.polars_arrays_flat.specs.Validity.{is_present}
use Rattle.polars_arrays_nested.specs.AnyRows.{row}
use Rattle.polars_arrays_nested.specs.GoodParts.{IsGood}
use Rattle.polars_arrays_nested.specs.Leaves.{leaves}
use Rattle.polars_arrays_nested.specs.Lengths.{len_of}
use Rattle.polars_arrays_nested.specs.Types.{type_of}
use Rattle.polars_arrays_nested.specs.declared.any_array.AnyArray.{AnyArray}
use Rattle.polars_arrays_nested.specs.declared.any_array.AnyArray as of
use Rattle.polars_compare_leaves.specs.Joining.{joined_bit}
use Rattle.polars_compare_nested.specs.Tally.{tally}
use Rattle.arrow_parts.specs.Kinds.{kind_number}
use Rattle.arrow_parts.specs.Lent.{present_in}
use Rattle.arrow_parts.specs.Refusals.{IsHonest}
use Rattle.arrow_parts.specs.declared.part.Part.{Part}
use Rattle.arrow_parts.specs.declared.part.PartKind.{PartKind}
use Rattle.arrow_parts.specs.declared.part.PartKind.TheVariants as kind
use Rattle.arrow_parts.specs.declared.refused.Refused.{Refused}
use Rattle.arrow_parts.specs.declared.refused.Refused.TheVariants.{Parts, Types, Room, Memory}
use Rattle.arrow_arrays.proofs.MaskedRows.{row-under}
use Rattle.arrow_arrays.specs.Columns.{Column, column_of, column_with, rows_of_parts}
use Rattle.arrow_arrays.specs.Good.{AreGoodParts, AreNumbers, GoodKind, HoldRows}
use Rattle.arrow_arrays.specs.Stands.{Stands}
use Rattle.arrow_equality.proofs.StringColumns.{if-some, one-column, one-good, one-kind}
use Rattle.arrow_equality.specs.Equal.{IsComparison, IsRefusedComparison}
use Rattle.arrow_equality.specs.Numbers.{AreComparedNumbers}
use Rattle.arrow_equality.specs.declared.compared.Compared.{Compared}

-- the bit of two rows
number-told : (bit raw pl pr : Bool) (x y : ℤ) → bit ≡ joined_bit true raw pl pr → raw ≡ int_eq x y → (bit ≡ true) ↔ (kept pl (Int x) ≡ kept pr (Int y))
number-told bit raw true true x y is told = (
  (λ set. ap (λ (z : ℤ). Int z) ((Decides-int_eq x y).0 (sym told ∙ sym is ∙ set))),
  (λ e. let rows : Int x ≡ Int y = e in let same : x ≡ y = cc in is ∙ told ∙ (Decides-int_eq x y).1 same),
)
number-told bit raw true false x y is told = ((λ set. cc), (λ e. cc))
number-told bit raw false true x y is told = ((λ set. cc), (λ e. cc))
number-told bit raw false false x y is told = ((λ set. refl), (λ e. is))

-- what is common to the kinds of parts that store numbers: the type, the numbers, and the array
-- that has their rows
pub record IsNumberKind (A : Type 0) (k : PartKind) (type : Kind) (value : A → ℤ) (values : Part → List A) (make : Numbers A → AnyArray) : Type 0 where
  pub some : A
  pub column : (p : Part) → column_of (Some k) p [] ≡ column_with p type (row_at (number_slots value (values p))) (λ from n. n)
  pub good : (p : Part) → AreNumbers p (length (values p)) → GoodKind k p []
  pub held : (p : Part) → GoodKind k p [] → HoldRows p
  pub made : (a : Numbers A) → IsGood (make a)
  pub type_is : (a : Numbers A) → type_of (make a) ≡ type
  pub len_is : (a : Numbers A) → len_of (make a) ≡ length a.values
  pub row_is : (a : Numbers A) (i : ℕ) → row (make a) i ≡ row_at (number_rows value a) i
  pub leaves_are : (a : Numbers A) (from n : ℕ) → leaves (make a) from n ≡ n
  pub tally_is : (a : Numbers A) (b : AnyArray) (n : ℕ) → tally (make a) b 0 0 n ≡ n

pub number-Int8 : IsNumberKind ℤ kind.Int8 Int8Kind (λ x. x) (λ p. p.i8s.now) (λ a. of.Int8 a)
number-Int8 = record {
  some = pos 0;
  column = λ p. refl;
  good = λ p are. are;
  held = λ p good. good.present;
  made = λ a. tt;
  type_is = λ a. refl;
  len_is = λ a. refl;
  row_is = λ a i. refl;
  leaves_are = λ a from n. refl;
  tally_is = λ a b n. refl;
}

pub number-Int16 : IsNumberKind ℤ kind.Int16 Int16Kind (λ x. x) (λ p. p.i16s.now) (λ a. of.Int16 a)
number-Int16 = record {
  some = pos 0;
  column = λ p. refl;
  good = λ p are. are;
  held = λ p good. good.present;
  made = λ a. tt;
  type_is = λ a. refl;
  len_is = λ a. refl;
  row_is = λ a i. refl;
  leaves_are = λ a from n. refl;
  tally_is = λ a b n. refl;
}

pub number-Int32 : IsNumberKind ℤ kind.Int32 Int32Kind (λ x. x) (λ p. p.i32s.now) (λ a. of.Int32 a)
number-Int32 = record {
  some = pos 0;
  column = λ p. refl;
  good = λ p are. are;
  held = λ p good. good.present;
  made = λ a. tt;
  type_is = λ a. refl;
  len_is = λ a. refl;
  row_is = λ a i. refl;
  leaves_are = λ a from n. refl;
  tally_is = λ a b n. refl;
}

pub number-Int64 : IsNumberKind ℤ kind.Int64 Int64Kind (λ x. x) (λ p. p.i64s.now) (λ a. of.Int64 a)
number-Int64 = record {
  some = pos 0;
  column = λ p. refl;
  good = λ p are. are;
  held = λ p good. good.present;
  made = λ a. tt;
  type_is = λ a. refl;
  len_is = λ a. refl;
  row_is = λ a i. refl;
  leaves_are = λ a from n. refl;
  tally_is = λ a b n. refl;
}

pub number-UInt8 : IsNumberKind ℕ kind.UInt8 UInt8Kind (λ x. pos x) (λ p. p.u8s.now) (λ a. of.UInt8 a)
number-UInt8 = record {
  some = 0;
  column = λ p. refl;
  good = λ p are. are;
  held = λ p good. good.present;
  made = λ a. tt;
  type_is = λ a. refl;
  len_is = λ a. refl;
  row_is = λ a i. refl;
  leaves_are = λ a from n. refl;
  tally_is = λ a b n. refl;
}

pub number-UInt16 : IsNumberKind ℕ kind.UInt16 UInt16Kind (λ x. pos x) (λ p. p.u16s.now) (λ a. of.UInt16 a)
number-UInt16 = record {
  some = 0;
  column = λ p. refl;
  good = λ p are. are;
  held = λ p good. good.present;
  made = λ a. tt;
  type_is = λ a. refl;
  len_is = λ a. refl;
  row_is = λ a i. refl;
  leaves_are = λ a from n. refl;
  tally_is = λ a b n. refl;
}

pub number-UInt32 : IsNumberKind ℕ kind.UInt32 UInt32Kind (λ x. pos x) (λ p. p.u32s.now) (λ a. of.UInt32 a)
number-UInt32 = record {
  some = 0;
  column = λ p. refl;
  good = λ p are. are;
  held = λ p good. good.present;
  made = λ a. tt;
  type_is = λ a. refl;
  len_is = λ a. refl;
  row_is = λ a i. refl;
  leaves_are = λ a from n. refl;
  tally_is = λ a b n. refl;
}

pub number-UInt64 : IsNumberKind ℕ kind.UInt64 UInt64Kind (λ x. pos x) (λ p. p.u64s.now) (λ a. of.UInt64 a)
number-UInt64 = record {
  some = 0;
  column = λ p. refl;
  good = λ p are. are;
  held = λ p good. good.present;
  made = λ a. tt;
  type_is = λ a. refl;
  len_is = λ a. refl;
  row_is = λ a i. refl;
  leaves_are = λ a from n. refl;
  tally_is = λ a b n. refl;
}

module _ (A : Type 0) (k : PartKind) (type : Kind) (value : A → ℤ) (values : Part → List A) (make : Numbers A → AnyArray) (is : IsNumberKind A k type value values make) where
  -- the array of the numbers of a part
  abbrev array_of : Part → Numbers A
  array_of p = record { values = values p; validity = present_in p; owned = true }

  abbrev number_column : Part → Column
  number_column p = column_with p type (row_at (number_slots value (values p))) (λ from n. n)

  abbrev are_equal : A → A → Bool
  are_equal x y = int_eq (value x) (value y)

  numbers-stand : (p : Part) → length (values p) ≡ p.rows → Stands (make (array_of p)) (number_column p)
  numbers-stand p count = record {
    good = is.made (array_of p);
    kind = is.type_is (array_of p);
    len = is.len_is (array_of p) ∙ count;
    rows = λ i. is.row_is (array_of p) i ∙ row-under (present_in p) (number_slots value (values p)) i;
    leaves = is.leaves_are (array_of p);
  }

  number-row : (p : Part) (i : ℕ) → i < length (values p) → row_at (number_slots value (values p)) i ≡ Int (value (get_or (values p) i is.some))
  number-row p i low = get_or-map (λ (x : A). Int (value x)) (values p) i is.some Null low

  numbers-compared : (l r : Part) (c : Compared) → AreComparedNumbers value l r (values l) (values r) c → IsComparison (number_column l) (number_column r) c
  numbers-compared l r c are =
      let xs = values l in
      let ys = values r in
      let alike : length xs ≡ length ys = are.left_good.count ∙ are.one_length ∙ sym are.right_good.count in
      let size : length (zip2 are_equal xs ys) ≡ l.rows = length-zip2 are_equal xs ys alike ∙ are.left_good.count in
      record {
        one_type = refl;
        one_length = are.one_length;
        size = are.joined.size ∙ size;
        at_each = λ i low.
            let there : i < length xs = omega (arith, low, are.left_good.count) in
            let there' : i < length ys = omega (arith, there, alike) in
            let bit = are.joined.at_each i (omega (arith, low, size)) in
            let raw = get_or-zip2 are_equal xs ys i is.some is.some false there there' in
            subst (λ (x : Row). (slice_index_or c.bits i false ≡ true) ↔ (kept (is_present (present_in l) i) x ≡ kept (is_present (present_in r) i) (row_at (number_slots value ys) i))) (sym (number-row l i there))
            (subst (λ (y : Row). (slice_index_or c.bits i false ≡ true) ↔ (kept (is_present (present_in l) i) (Int (value (get_or xs i is.some))) ≡ kept (is_present (present_in r) i) y)) (sym (number-row r i there'))
            (number-told (slice_index_or c.bits i false) (slice_index_or (zip2 are_equal xs ys) i false) (is_present (present_in l) i) (is_present (present_in r) i) (value (get_or xs i is.some)) (value (get_or ys i is.some)) bit raw));
        count = record {
          left_array = make (array_of l);
          right_array = make (array_of r);
          one_type = is.type_is (array_of l) ∙ sym (is.type_is (array_of r));
          left_stands = numbers-stand l are.left_good.count;
          right_stands = numbers-stand r are.right_good.count;
          counted = are.count ∙ ap (λ (m : ℕ). min m (2 ^ 64 - 1)) (sym (is.tally_is (array_of l) (make (array_of r)) (len_of (make (array_of l))) ∙ is.len_is (array_of l) ∙ are.left_good.count));
          bound = omega (arith, are.count, min-le_left l.rows (2 ^ 64 - 1));
        };
      }

  -- ---- of calls

  module _ (l r : Part) (result : Result (Option Compared) Refused) (left : kind_number l.kind ≡ Some k) (right : kind_number r.kind ≡ Some k) where
    abbrev are_compared : Compared → Type 0
    are_compared = AreComparedNumbers value l r (values l) (values r)

    pub compared-numbers : IfOk result (λ found. IfSome found are_compared) → IfOk result (λ found. IfSome found (IsComparison (rows_of_parts (l ∷ [])) (rows_of_parts (r ∷ []))))
    compared-numbers told =
        IfOk-weaker result (λ found. IfSome found are_compared) (λ found. IfSome found (IsComparison (rows_of_parts (l ∷ [])) (rows_of_parts (r ∷ []))))
        (if-some are_compared (IsComparison (rows_of_parts (l ∷ [])) (rows_of_parts (r ∷ [])))
        (λ c are.
        subst (λ (x : Column). IsComparison x (rows_of_parts (r ∷ [])) c) (sym (one-column k l left are.left_good.children ∙ is.column l))
        (subst (λ (y : Column). IsComparison (number_column l) y c) (sym (one-column k r right are.right_good.children ∙ is.column r)) (numbers-compared l r c are))))
        told

    pub good-numbers : IfOk result (λ found. IfSome found are_compared) → IfOk result (λ found. IfSome found (λ _. AreGoodParts (l ∷ []) × AreGoodParts (r ∷ [])))
    good-numbers told =
        IfOk-weaker result (λ found. IfSome found are_compared) (λ found. IfSome found (λ _. AreGoodParts (l ∷ []) × AreGoodParts (r ∷ [])))
        (if-some are_compared (λ _. AreGoodParts (l ∷ []) × AreGoodParts (r ∷ []))
        (λ c are. (
          one-good k l left are.left_good.children are.left_good.name (is.good l (record { present = are.left_held; count = are.left_good.count })),
          one-good k r right are.right_good.children are.right_good.name (is.good r (record { present = are.right_held; count = are.right_good.count })),
        )))
        told

    refused-as : (e : Refused) → IsHonest (HoldRows l × HoldRows r) e → IsRefusedComparison (l ∷ []) (r ∷ []) e
    refused-as Parts honest = λ good. honest (is.held l (one-kind k l left good.0), is.held r (one-kind k r right good.1))
    refused-as Types honest = absurd honest
    refused-as Room honest = honest
    refused-as Memory honest = tt

    pub refused-numbers : IfErr result (IsHonest (HoldRows l × HoldRows r)) → IfErr result (IsRefusedComparison (l ∷ []) (r ∷ []))
    refused-numbers told = IfErr-weaker result (IsHonest (HoldRows l × HoldRows r)) (IsRefusedComparison (l ∷ []) (r ∷ [])) refused-as told
