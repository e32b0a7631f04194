-- Parts of views as columns, and arrays that stand for them.
use Rattle.std.proofs.Common.{◌≡◌, ◌↔◌, ℕ, zero, suc, ◌-◌, ◌^◌, ◌<◌, ℤ, pos, Bool, true, false, List, [], ◌∷◌, ◌++◌, length, refl, sym, ap, subst, ◌∙◌, arith}
use Rattle.std.specs.Prelude.{Option, Some, Result, IfErr, IfOk, IfSome, min, slice_index_or}
use Rattle.std.specs.Str.{bytes_eq}
use Rattle.std.proofs.Math.Nat.{min-le_left}
use Rattle.std.proofs.lemmas.List.{get_or-map, length-map}
use Rattle.std.proofs.lemmas.Result.{IfErr-weaker, IfOk-weaker}
use Rattle.polars_arrays_bytes.proofs.Windows.{length-sized, string_of-sized}
use Rattle.polars_arrays_bytes.specs.OffsetStrings.{OffsetStrings, places}
use Rattle.polars_arrays_bytes.specs.SizedStrings.{sized_strings}
use Rattle.polars_arrays_flat.specs.Kind.{Kind, LargeBinaryKind, LargeUtf8Kind}
use Rattle.polars_arrays_flat.specs.Row.{Row, Bytes, Null}
use Rattle.polars_arrays_flat.specs.StoredRows.{kept}
use Rattle.polars_arrays_nested.specs.Lengths.{len_of}
use Rattle.polars_arrays_nested.specs.declared.any_array.AnyArray.{AnyArray}
use Rattle.polars_arrays_views.specs.Parts.{strings_of}
use Rattle.polars_arrays_views.specs.Views.{row_bytes}
use Rattle.polars_arrays_words.proofs.Firsts.{get_or-first, length-first}
use Rattle.polars_compare_nested.specs.Tally.{tally}
use Rattle.arrow_parts.specs.Kinds.{kind_number}
use Rattle.arrow_parts.specs.Lent.{buffers_in, present_in}
use Rattle.arrow_parts.specs.Refusals.{IsHonest}
use Rattle.arrow_parts.specs.declared.part.Part.{Part}
use Rattle.arrow_parts.specs.declared.part.PartKind.{PartKind}
use Rattle.arrow_parts.specs.declared.part.PartKind.TheVariants as kind
use Rattle.arrow_parts.specs.declared.refused.Refused.{Refused}
use Rattle.arrow_parts.specs.declared.refused.Refused.TheVariants.{Parts, Types, Room, Memory}
use Rattle.arrow_arrays.proofs.ViewRows.{none-gathered, one-gathered}
use Rattle.arrow_arrays.proofs.ViewStanding.{gathered-count, gathered-rows}
use Rattle.arrow_arrays.specs.Columns.{Column, column_of, column_with, far_ends, rows_of_parts, viewed_strings}
use Rattle.arrow_arrays.specs.Good.{AreGoodParts, GoodKind, HoldRows}
use Rattle.arrow_arrays.specs.Stands.{Stands}
use Rattle.arrow_arrays.specs.Views.{AreGathered, bytes_if, has_row, viewed_row}
use Rattle.arrow_equality.proofs.StringColumns.{IsStringKind, bit-told, if-some, one-column, one-good, one-kind}
use Rattle.arrow_equality.specs.Compared.{IsCounted}
use Rattle.arrow_equality.specs.Equal.{IsComparison, IsRefusedComparison}
use Rattle.arrow_equality.specs.Views.{AreComparedViews, ArePartViews, same_rows}
use Rattle.arrow_equality.specs.declared.compared.Compared.{Compared}

-- ---- the array of the rows of views, one after the other

gathered_bytes : Part → ℕ → List ℕ
gathered_bytes p zero = []
gathered_bytes p (suc n) = gathered_bytes p n ++ bytes_if (has_row p n) (viewed_row p n)

gathered_ends : Part → ℕ → List ℤ
gathered_ends p zero = pos 0 ∷ []
gathered_ends p (suc n) = gathered_ends p n ++ pos (length (gathered_bytes p (suc n))) ∷ []

all-gathered : (p : Part) (n : ℕ) → AreGathered p n (places (λ (x : ℤ). x) (gathered_ends p n)) (gathered_bytes p n)
unfolding gathered_ends gathered_bytes
all-gathered p zero = none-gathered p
all-gathered p (suc n) =
    subst (λ (m : ℕ). AreGathered p m (places (λ (x : ℤ). x) (gathered_ends p (suc n))) (gathered_bytes p (suc n))) (omega arith)
    (one-gathered p n (gathered_ends p n) (gathered_ends p (suc n)) (gathered_bytes p n) (gathered_bytes p (suc n)) (pos (length (gathered_bytes p (suc n)))) refl refl refl (all-gathered p n))

-- the rows of a part, with offsets of 64 bits
abbrev array_of : Part → OffsetStrings ℤ
array_of p = record { offsets = gathered_ends p p.rows; values = gathered_bytes p p.rows; validity = present_in p }

-- ---- rows

viewed-at : (p : Part) (i : ℕ) → i < p.rows → viewed_strings p i ≡ Bytes (viewed_row p i)
viewed-at p i low =
    let views = sized_strings 16 p.rows p.u8s.now in
    let strings = strings_of (buffers_in p) views in
    let many : length views ≡ p.rows = length-sized 16 p.rows p.u8s.now in
    let all : length strings ≡ length views = length-map views (row_bytes (buffers_in p)) in
    get_or-map (λ (bytes : List ℕ). Bytes bytes) strings i [] Null (omega (arith, all, many, low))
    ∙ ap (λ (bytes : List ℕ). Bytes bytes) (get_or-map (row_bytes (buffers_in p)) views i [] [] (omega (arith, many, low)) ∙ ap (row_bytes (buffers_in p)) (sym (string_of-sized 16 p.rows p.u8s.now i low)))

-- ---- the kinds

-- the column of the rows of a part of views
abbrev pub view_column : Kind → Part → Column
view_column type p = column_with p type (viewed_strings p) (λ from n. n)

-- what is common to the kinds of parts that store views
pub record IsViewKind (k : PartKind) (type : Kind) (texts : Bool) : Type 0 where
  pub column : (p : Part) → column_of (Some k) p [] ≡ view_column type p
  pub good : (p : Part) → ArePartViews p texts → HoldRows p → GoodKind k p []
  pub held : (p : Part) → GoodKind k p [] → HoldRows p

pub view-Binary : IsViewKind kind.BinaryView LargeBinaryKind false
view-Binary = record {
  column = λ p. refl;
  good = λ p are held. record { present = held; size = are.size; rows = λ i low present. (are.rows i low).leads };
  held = λ p good. good.present;
}

pub view-Utf8 : IsViewKind kind.Utf8View LargeUtf8Kind true
view-Utf8 = record {
  column = λ p. refl;
  good = λ p are held. record {
    views = record { present = held; size = are.size; rows = λ i low present. (are.rows i low).leads };
    texts = λ i low present. (are.rows i low).utf8 refl;
  };
  held = λ p good. good.views.present;
}

module _ (k other : PartKind) (type : Kind) (texts other_texts : Bool) (make : OffsetStrings ℤ → AnyArray) (is : IsViewKind k type texts) (array : IsStringKind other type far_ends other_texts make) where
  -- an array stands for the rows of a part
  views-stand : (p : Part) → Stands (make (array_of p)) (view_column type p)
  views-stand p =
      let are = all-gathered p p.rows in
      record {
        good = array.made (array_of p);
        kind = array.type_is (array_of p);
        len = array.len_is (array_of p) ∙ gathered-count p (array_of p) are;
        rows = λ i. array.row_is (array_of p) i ∙ gathered-rows p (array_of p) are refl i;
        leaves = array.leaves_are (array_of p);
      }

  -- one comparison for each row
  views-counted : (l r : Part) (n : ℕ) → n ≡ min l.rows (2 ^ 64 - 1) → IsCounted (make (array_of l)) (make (array_of r)) n
  views-counted l r n told =
      let a = make (array_of l) in
      let b = make (array_of r) in
      let long : tally a b 0 0 (len_of a) ≡ l.rows = array.tally_is (array_of l) b (len_of a) ∙ (views-stand l).len in
      told ∙ ap (λ (m : ℕ). min m (2 ^ 64 - 1)) (sym long)

  views-compared : (l r : Part) (c : Compared) → AreComparedViews l r texts c → IsComparison (view_column type l) (view_column type r) c
  views-compared l r c are =
      let test = λ (i : ℕ). bytes_eq (viewed_row l i) (viewed_row r i) in
      let size = length-first test l.rows in
      record {
        one_type = refl;
        one_length = are.one_length;
        size = are.joined.size ∙ size;
        at_each = λ i low.
            let bit = are.joined.at_each i (omega (arith, low, size)) in
            let raw = get_or-first test l.rows i false low in
            let left = viewed-at l i low in
            let right = viewed-at r i (omega (arith, low, are.one_length)) in
            subst (λ (x : Row). (slice_index_or c.bits i false ≡ true) ↔ (kept (has_row l i) x ≡ kept (has_row r i) (viewed_strings r i))) (sym left)
            (subst (λ (y : Row). (slice_index_or c.bits i false ≡ true) ↔ (kept (has_row l i) (Bytes (viewed_row l i)) ≡ kept (has_row r i) y)) (sym right)
            (bit-told (slice_index_or c.bits i false) (slice_index_or (same_rows (buffers_in l) l.u8s.now (buffers_in r) r.u8s.now l.rows) i false) (has_row l i) (has_row r i) (viewed_row l i) (viewed_row r i) bit raw));
        count = record {
          left_array = make (array_of l);
          right_array = make (array_of r);
          one_type = array.type_is (array_of l) ∙ sym (array.type_is (array_of r));
          left_stands = views-stand l;
          right_stands = views-stand r;
          counted = views-counted l r c.comparisons are.count;
          bound = omega (arith, are.count, min-le_left l.rows (2 ^ 64 - 1));
        };
      }

  -- ---- of calls

  module _ (l r : Part) (result : Result (Option Compared) Refused) (left : kind_number l.kind ≡ Some k) (right : kind_number r.kind ≡ Some k) where
    pub compared-views : IfOk result (λ found. IfSome found (AreComparedViews l r texts)) → IfOk result (λ found. IfSome found (IsComparison (rows_of_parts (l ∷ [])) (rows_of_parts (r ∷ []))))
    compared-views told =
        IfOk-weaker result (λ found. IfSome found (AreComparedViews l r texts)) (λ found. IfSome found (IsComparison (rows_of_parts (l ∷ [])) (rows_of_parts (r ∷ []))))
        (if-some (AreComparedViews l r texts) (IsComparison (rows_of_parts (l ∷ [])) (rows_of_parts (r ∷ [])))
        (λ c are.
        subst (λ (x : Column). IsComparison x (rows_of_parts (r ∷ [])) c) (sym (one-column k l left are.left_good.children ∙ is.column l))
        (subst (λ (y : Column). IsComparison (view_column type l) y c) (sym (one-column k r right are.right_good.children ∙ is.column r)) (views-compared l r c are))))
        told

    pub good-views : IfOk result (λ found. IfSome found (AreComparedViews l r texts)) → IfOk result (λ found. IfSome found (λ _. AreGoodParts (l ∷ []) × AreGoodParts (r ∷ [])))
    good-views told =
        IfOk-weaker result (λ found. IfSome found (AreComparedViews l r texts)) (λ found. IfSome found (λ _. AreGoodParts (l ∷ []) × AreGoodParts (r ∷ [])))
        (if-some (AreComparedViews l r texts) (λ _. AreGoodParts (l ∷ []) × AreGoodParts (r ∷ []))
        (λ c are. (
          one-good k l left are.left_good.children are.left_good.name (is.good l are.left_good are.left_held),
          one-good k r right are.right_good.children are.right_good.name (is.good r are.right_good are.right_held),
        )))
        told

    refused-as : (e : Refused) → IsHonest (HoldRows l × HoldRows r) e → IsRefusedComparison (l ∷ []) (r ∷ []) e
    refused-as Parts honest = λ good. honest (is.held l (one-kind k l left good.0), is.held r (one-kind k r right good.1))
    refused-as Types honest = absurd honest
    refused-as Room honest = honest
    refused-as Memory honest = tt

    pub refused-views : IfErr result (IsHonest (HoldRows l × HoldRows r)) → IfErr result (IsRefusedComparison (l ∷ []) (r ∷ []))
    refused-views told = IfErr-weaker result (IsHonest (HoldRows l × HoldRows r)) (IsRefusedComparison (l ∷ []) (r ∷ [])) refused-as told
