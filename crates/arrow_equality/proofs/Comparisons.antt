-- Comparisons of arrays are those of the columns that they stand for.
use Rattle.std.proofs.Common.{◌≡◌, ◌↔◌, ℕ, ◌-◌, ◌*◌, ◌^◌, ◌<◌, ◌≤◌, true, false, List, length, sym, ap, subst, ◌∙◌, arith}
use Rattle.std.specs.Prelude.{min, slice_index_or, IfErr, OnErr, OnOk, Result, Ok, Err}
use Rattle.std.proofs.Math.Nat.{min-le_left}
use Rattle.std.proofs.lemmas.List.{get_or_past}
use Rattle.polars_arrays_nested.specs.AnyRows.{row}
use Rattle.polars_arrays_nested.specs.Leaves.{leaves}
use Rattle.polars_arrays_nested.specs.Lengths.{len_of}
use Rattle.polars_arrays_nested.specs.Types.{type_of}
use Rattle.polars_arrays_nested.specs.declared.any_array.AnyArray.{AnyArray}
use Rattle.polars_compare_nested.specs.Tally.{tally}
use Rattle.arrow_parts.specs.Refusals.{IsHonest}
use Rattle.arrow_parts.specs.Written.{AreWritten}
use Rattle.arrow_parts.specs.declared.part.Part.{Part}
use Rattle.arrow_parts.specs.declared.refused.Refused.{Refused}
use Rattle.arrow_parts.specs.declared.refused.Refused.TheVariants.{Parts, Types, Room, Memory}
use Rattle.arrow_arrays.specs.Columns.{Column, rows_of_parts}
use Rattle.arrow_arrays.specs.Good.{AreGoodParts}
use Rattle.arrow_arrays.specs.Stands.{Stands}
use Rattle.arrow_equality.specs.Compared.{AreComparable, AreCompared, IsCounted, IsRefusedPair}
use Rattle.arrow_equality.specs.Equal.{AreEqualRows, HaveRoom, IsComparison, IsCount, IsRefusedComparison, IsTrueRefusal}
use Rattle.arrow_equality.specs.declared.compared.Compared.{Compared}

-- the count is at most the leaf slots of the left array
pub within-leaves : (left right : AnyArray) (n : ℕ) → tally left right 0 0 (len_of left) ≤ leaves left 0 (len_of left) → IsCounted left right n → n ≤ leaves left 0 (len_of left)
within-leaves left right n low is =
    let least : min (tally left right 0 0 (len_of left)) (2 ^ 64 - 1) ≤ tally left right 0 0 (len_of left) = min-le_left (tally left right 0 0 (len_of left)) (2 ^ 64 - 1) in
    omega (arith, is, low, least)

-- and of the column that the array stands for
within-column : (a : AnyArray) (l : Column) (n : ℕ) → Stands a l → n ≤ leaves a 0 (len_of a) → n ≤ l.leaves 0 l.len
within-column a l n stands =
    subst (λ m. n ≤ m) (stands.leaves 0 (len_of a) ∙ ap (l.leaves 0) stands.len)

pub columns-compared : (a b : AnyArray) (l r : Column) (c : Compared) → Stands a l → Stands b r → AreCompared a b c → IsComparison l r c
columns-compared a b l r c left right are = record {
  one_type = sym left.kind ∙ are.one_type ∙ right.kind;
  one_length = sym left.len ∙ are.one_length ∙ right.len;
  size = are.same.size ∙ left.len;
  at_each = λ i low.
      let below : i < len_of a = omega (arith, low, left.len) in
      subst (λ y. (slice_index_or c.bits i false ≡ true) ↔ (l.row i ≡ y)) (right.rows i) (subst (λ x. (slice_index_or c.bits i false ≡ true) ↔ (x ≡ row b i)) (left.rows i) (are.same.at_each i below));
  count = record { left_array = a; right_array = b; one_type = are.one_type; left_stands = left; right_stands = right; counted = are.counted; bound = within-column a l c.comparisons left are.bound };
}

pub rows-written : (l r : Column) (c : Compared) (words : List ℕ) → IsComparison l r c → AreWritten c.bits words → AreEqualRows l r words
rows-written l r c words is written = record {
  one_type = is.one_type;
  one_length = is.one_length;
  room = omega (arith, is.size, written.room);
  at_each = λ i low. subst (λ bit. (bit ≡ true) ↔ (l.row i ≡ r.row i)) (sym (written.each i)) (is.at_each i low);
  behind = λ i past. written.each i ∙ get_or_past c.bits i false (omega (arith, past, is.size));
}

pub count-written : (l r : Column) (c : Compared) (n : ℕ) → IsComparison l r c → n ≡ c.comparisons → IsCount l r n
count-written l r c n is same = subst (IsCount l r) (sym same) is.count

pub if-ok : {A E : Type 0} (result : Result A E) (P Q : Type 0) → (P → Q) → OnOk result P → OnOk result Q
if-ok (Ok x) P Q f p = f p
if-ok (Err e) P Q f p = p

-- ---- refusals

pub other-type : (a b : AnyArray) → ¬ (type_of a ≡ type_of b) → ¬ (AreComparable a b)
other-type a b other are = other are.one_type

pub other-length : (a b : AnyArray) → ¬ (len_of a ≡ len_of b) → ¬ (AreComparable a b)
other-length a b other are = other are.one_length

pub memory-pair : (a b : AnyArray) (r : Refused) → r ≡ Memory → IsRefusedPair a b r
memory-pair a b r is = subst (IsRefusedPair a b) (sym is) tt

pub left-refused : (left right : List Part) (r : Refused) → IsHonest (AreGoodParts left) r → IsRefusedComparison left right r
left-refused left right Parts honest = λ good. honest good.0
left-refused left right Types honest = absurd honest
left-refused left right Room honest = honest
left-refused left right Memory honest = tt

pub right-refused : (left right : List Part) (r : Refused) → IsHonest (AreGoodParts right) r → IsRefusedComparison left right r
right-refused left right Parts honest = λ good. honest good.1
right-refused left right Types honest = absurd honest
right-refused left right Room honest = honest
right-refused left right Memory honest = tt

pub pair-refused : (left right : List Part) (a b : AnyArray) (r : Refused) → Stands a (rows_of_parts left) → Stands b (rows_of_parts right) → IsRefusedPair a b r → IsRefusedComparison left right r
pair-refused left right a b Parts stands stands' told = absurd told
pair-refused left right a b Types stands stands' told = λ alike. told (record {
  one_type = stands.kind ∙ alike.one_type ∙ sym stands'.kind;
  one_length = stands.len ∙ alike.one_length ∙ sym stands'.len;
})
pair-refused left right a b Room stands stands' told = told
pair-refused left right a b Memory stands stands' told = tt

pub no-count : (n : ℕ) (words counts : List ℕ) → length counts ≡ 0 → ¬ (HaveRoom n words counts)
no-count n words counts none room = let some = room.count in absurd (omega (arith, none, some))

pub no-bits : (n : ℕ) (words counts : List ℕ) → ¬ (n ≤ 64 * length words) → ¬ (HaveRoom n words counts)
no-bits n words counts none room = none room.bits

pub comparison-refused : (left right : List Part) (words counts : List ℕ) (r : Refused) → IsRefusedComparison left right r → IsTrueRefusal left right words counts r
comparison-refused left right words counts Parts told = told
comparison-refused left right words counts Types told = told
comparison-refused left right words counts Room told = absurd told
comparison-refused left right words counts Memory told = tt

pub room-refused : {A : Type 0} (left right : List Part) (words counts : List ℕ) (n : ℕ) (result : Result A Refused) → n ≡ (rows_of_parts left).len → IfErr result (λ r. r ≡ Room) → OnErr result (¬ (HaveRoom n words counts)) → IfErr result (IsTrueRefusal left right words counts)
room-refused left right words counts n (Ok x) long is none = tt
room-refused left right words counts n (Err r) long is none =
    subst (IsTrueRefusal left right words counts) (sym is) (subst (λ m. ¬ (HaveRoom m words counts)) long none)

pub ruleset comparisons = (within-leaves, columns-compared, rows-written, count-written, other-type, other-length, memory-pair, left-refused, right-refused, pair-refused, no-count, no-bits, comparison-refused)
