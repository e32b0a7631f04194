-- The columns of two structs of one type, side by side.
use Rattle.std.proofs.Common.{◌≡◌, ℕ, zero, suc, ◌+◌, ◌<◌, ◌≤◌, ◌&&◌, Bool, true, false, IsTrue, List, [], ◌∷◌, ◌++◌, length, get_or, take, refl, ap, sym, ◌∙◌, arith, add-one, length-take, replicate}
use Rattle.std.proofs.Math.Seq.{take-suc}
use Rattle.std.proofs.lemmas.List.{get_or-replicate, length-replicate, take_all}
use Rattle.std.proofs.lemmas.Simd.{get_or-zip2, length-zip2}
use Rattle.std.specs.Simd.Lanes.{zip2}
use Rattle.polars_arrays_flat.specs.DataType.{kind_of, kinds_of}
use Rattle.polars_arrays_flat.specs.Row.{Row, RowList, Fields}
use Rattle.polars_arrays_flat.specs.StoredRows.{kept}
use Rattle.polars_arrays_flat.specs.Validity.{is_present}
use Rattle.polars_arrays_flat.specs.declared.data_type.Field.{Field}
use Rattle.polars_arrays_nested.specs.AnyRows.{row}
use Rattle.polars_arrays_nested.specs.Columns.{AreColumns, rows_at}
use Rattle.polars_arrays_nested.specs.ColumnLaws.{good-struct, leaves-struct, row-struct}
use Rattle.polars_arrays_nested.specs.GoodParts.{IsGood}
use Rattle.polars_arrays_nested.specs.Parts.{columns, struct_fields, struct_validity}
use Rattle.polars_arrays_nested.specs.Types.{type_of}
use Rattle.polars_arrays_nested.specs.declared.any_array.AnyArray.{AnyArray, Struct, Row_of-AnyArray, end_of-AnyArray, more_of-AnyArray, items-the_row-AnyArray, items_hidden-the_row-AnyArray-0}
use Rattle.polars_arrays_nested.specs.declared.any_array.AnyArray.TheBlock.{hidden-the_row-AnyArray-0}
use Rattle.polars_arrays_nested.specs.declared.struct_array.StructArray.{StructArray}
use Rattle.polars_compare_leaves.specs.Sameness.{same, same_rows}
use Rattle.polars_compare_nested.specs.Bits.{RawBits, SameBits}
use Rattle.polars_compare_nested.specs.Tally.{tally, tally_across}
use Rattle.polars_compare_nested.specs.TallyColumns.{columns_tally}
use Rattle.polars_compare_nested.specs.TallyLaws.{StructLeavesAreColumns, StructTallyIsColumns}

columns_count : (fs fs' : List Field) (n m : ℕ) (ls rs : List AnyArray) → AreColumns fs n ls → AreColumns fs' m rs → kinds_of fs ≡ kinds_of fs' → length ls ≡ length rs
columns_count fs fs' n m [] [] h k e = refl
columns_count fs [] n m [] (y ∷ ys) h k e = absurd k
columns_count [] (f ∷ fs') n m [] (y ∷ ys) h k e = cc
columns_count (f ∷ fs) (f' ∷ fs') n m [] (y ∷ ys) h k e = absurd h
columns_count [] fs' n m (x ∷ xs) [] h k e = absurd h
columns_count (f ∷ fs) [] n m (x ∷ xs) [] h k e = cc
columns_count (f ∷ fs) (f' ∷ fs') n m (x ∷ xs) [] h k e = absurd k
columns_count [] fs' n m (x ∷ xs) (y ∷ ys) h k e = absurd h
columns_count (f ∷ fs) [] n m (x ∷ xs) (y ∷ ys) h k e = absurd k
columns_count (f ∷ fs) (f' ∷ fs') n m (x ∷ xs) (y ∷ ys) h k e =
    let rest : kinds_of fs ≡ kinds_of fs' = cc in
    ap suc (columns_count fs fs' n m xs ys h.3 k.3 rest)

columns_types : (fs fs' : List Field) (n m : ℕ) (ls rs : List AnyArray) → AreColumns fs n ls → AreColumns fs' m rs → kinds_of fs ≡ kinds_of fs' → (i : ℕ) → i < length ls → (d : AnyArray) → type_of (get_or ls i d) ≡ type_of (get_or rs i d)
columns_types fs fs' n m [] rs h k e i low d = absurd (omega arith)
columns_types [] fs' n m (x ∷ xs) rs h k e i low d = absurd h
columns_types (f ∷ fs) [] n m (x ∷ xs) [] h k e i low d = cc
columns_types (f ∷ fs) (f' ∷ fs') n m (x ∷ xs) [] h k e i low d = absurd k
columns_types (f ∷ fs) [] n m (x ∷ xs) (y ∷ ys) h k e i low d = absurd k
columns_types (f ∷ fs) (f' ∷ fs') n m (x ∷ xs) (y ∷ ys) h k e zero low d =
    let kind : kind_of f.dtype ≡ kind_of f'.dtype = cc in
    h.1 ∙ kind ∙ sym k.1
columns_types (f ∷ fs) (f' ∷ fs') n m (x ∷ xs) (y ∷ ys) h k e (suc i) low d =
    let rest : kinds_of fs ≡ kinds_of fs' = cc in
    columns_types fs fs' n m xs ys h.3 k.3 rest i (omega arith) d

struct_kinds : (l r : StructArray) → type_of (Struct l) ≡ type_of (Struct r) → kinds_of (struct_fields l) ≡ kinds_of (struct_fields r)
struct_kinds l r e = cc

-- two structs of one type have equally many columns
pub struct_count : (l r : StructArray) → IsGood (Struct l) → IsGood (Struct r) → type_of (Struct l) ≡ type_of (Struct r) → length (columns l) ≡ length (columns r)
struct_count l r h k e =
    columns_count (struct_fields l) (struct_fields r) l.len r.len (columns l) (columns r) (good-struct l h).1 (good-struct r k).1 (struct_kinds l r e)

-- and their columns are of one type, place by place
pub struct_types : (l r : StructArray) (i : ℕ) (x y : AnyArray) → IsGood (Struct l) → IsGood (Struct r) → type_of (Struct l) ≡ type_of (Struct r) → i < length (columns l) → ((d : AnyArray) → get_or (columns l) i d ≡ x) → ((d : AnyArray) → get_or (columns r) i d ≡ y) → type_of x ≡ type_of y
struct_types l r i x y h k e low ex ey =
    rw (ex x, ey x) at (columns_types (struct_fields l) (struct_fields r) l.len r.len (columns l) (columns r) (good-struct l h).1 (good-struct r k).1 (struct_kinds l r e) i low x)

and_true : (x : Bool) → x && true ≡ x
and_true true = refl
and_true false = refl

and_assoc : (x y z : Bool) → (x && y) && z ≡ x && (y && z)
and_assoc true y z = refl
and_assoc false y z = refl

rows_at-more : (agree : Row → Row → Bool) (ls rs : List AnyArray) (x y : AnyArray) (i j : ℕ) → length ls ≡ length rs → same_rows agree (rows_at (ls ++ x ∷ []) i) (rows_at (rs ++ y ∷ []) j) ≡ same_rows agree (rows_at ls i) (rows_at rs j) && same agree (row x i) (row y j)
rows_at-more agree [] [] x y i j e = and_true _
rows_at-more agree [] (r ∷ rs) x y i j e = absurd (omega arith)
rows_at-more agree (l ∷ ls) [] x y i j e = absurd (omega arith)
rows_at-more agree (l ∷ ls) (r ∷ rs) x y i j e =
    ap (λ z. same agree (row l i) (row r j) && z) (rows_at-more agree ls rs x y i j (omega arith)) ∙ sym (and_assoc (same agree (row l i) (row r j)) _ _)

columns_tally-more : (ls rs : List AnyArray) (x y : AnyArray) (i j n : ℕ) → length ls ≡ length rs → columns_tally (ls ++ x ∷ []) (rs ++ y ∷ []) i j n ≡ columns_tally ls rs i j n + tally x y i j n
columns_tally-more [] [] x y i j n e = omega arith
columns_tally-more [] (r ∷ rs) x y i j n e = absurd (omega arith)
columns_tally-more (l ∷ ls) [] x y i j n e = absurd (omega arith)
columns_tally-more (l ∷ ls) (r ∷ rs) x y i j n e = omega (arith, columns_tally-more ls rs x y i j n (omega arith))

-- the first columns are the same in two rows where the first but one are, and that one is
pub same_columns-take : (agree : Row → Row → Bool) (ls rs : List AnyArray) (x y : AnyArray) (i p q : ℕ) → i < length ls → length ls ≡ length rs → ((d : AnyArray) → get_or ls i d ≡ x) → ((d : AnyArray) → get_or rs i d ≡ y) → same_rows agree (rows_at (take (i + 1) ls) p) (rows_at (take (i + 1) rs) q) ≡ same_rows agree (rows_at (take i ls) p) (rows_at (take i rs) q) && same agree (row x p) (row y q)
same_columns-take agree ls rs x y i p q low many ex ey =
    let low' : i < length rs = omega arith in
    rw (add-one, take-suc ls i x low, take-suc rs i x low', ex x, ey x)
    (rows_at-more agree (take i ls) (take i rs) x y p q (omega (arith, length-take {A = AnyArray})))

-- and they cost what the first but one cost, and that one
pub columns_tally-take : (ls rs : List AnyArray) (x y : AnyArray) (i p q n : ℕ) → i < length ls → length ls ≡ length rs → ((d : AnyArray) → get_or ls i d ≡ x) → ((d : AnyArray) → get_or rs i d ≡ y) → columns_tally (take (i + 1) ls) (take (i + 1) rs) p q n ≡ columns_tally (take i ls) (take i rs) p q n + tally x y p q n
columns_tally-take ls rs x y i p q n low many ex ey =
    let low' : i < length rs = omega arith in
    rw (add-one, take-suc ls i x low, take-suc rs i x low', ex x, ey x)
    (columns_tally-more (take i ls) (take i rs) x y p q n (omega (arith, length-take {A = AnyArray})))

-- each bit says whether the first m columns of two rows are the same
pub record ColumnBits (agree : Row → Row → Bool) (ls : List AnyArray) (a : ℕ) (rs : List AnyArray) (b n m : ℕ) (bits : List Bool) : Type 0 where
  pub size : length bits ≡ n
  pub at_each : (i : ℕ) → i < n → get_or bits i false ≡ same_rows agree (rows_at (take m ls) (a + i)) (rows_at (take m rs) (b + i))

both_fields : (agree : Row → Row → Bool) (p q : Bool) (xs ys : RowList) → IsTrue p → IsTrue q → same agree (kept p (Fields xs)) (kept q (Fields ys)) ≡ same_rows agree xs ys
both_fields agree true true xs ys h k = refl
both_fields agree false q xs ys h k = cc
both_fields agree true false xs ys h k = cc

-- two structs that are both present are the same where all their columns are
pub struct_bits : (agree : Row → Row → Bool) (l r : StructArray) (a b n m : ℕ) (bits : List Bool) → length (columns l) ≤ m → length (columns r) ≤ m → ColumnBits agree (columns l) a (columns r) b n m bits → RawBits agree (Struct l) a (Struct r) b n bits
struct_bits agree l r a b n m bits all all' h = record {
  size = h.size;
  at_present = λ i low both.
      let at : get_or bits i false ≡ same_rows agree (rows_at (columns l) (a + i)) (rows_at (columns r) (b + i)) =
      rw (take_all m (columns l) all, take_all m (columns r) all') at (h.at_each i low) in
      at
      ∙ sym (both_fields agree (is_present (struct_validity l) (a + i)) (is_present (struct_validity r) (b + i)) _ _ both.0 both.1)
      ∙ ap (λ x. same agree x (kept (is_present (struct_validity r) (b + i)) (Fields (rows_at (columns r) (b + i))))) (sym (row-struct l (a + i)))
      ∙ ap (λ y. same agree (row (Struct l) (a + i)) y) (sym (row-struct r (b + i)));
}

tally_across_is : (m : _) (all : Row_of-AnyArray m) (others : List AnyArray) (a b n : ℕ) → tally_across all others a b n ≡ columns_tally (items-the_row-AnyArray m all) others a b n
tally_across_is m end_of-AnyArray others a b n = refl
tally_across_is m (more_of-AnyArray first rest) [] a b n = refl
tally_across_is m (more_of-AnyArray first rest) (other ∷ others) a b n =
    ap (λ r. tally first other a b n + r) (tally_across_is _ rest others a b n)

-- the comparisons of two structs are those of their columns
pub tally-struct : StructTallyIsColumns
tally-struct s t a b n =
    ap (λ l. tally_across (hidden-the_row-AnyArray-0 s.values) l a b n) (items_hidden-the_row-AnyArray-0 t.values)
    ∙ tally_across_is _ (hidden-the_row-AnyArray-0 s.values) (columns t) a b n
    ∙ ap (λ l. columns_tally l (columns t) a b n) (items_hidden-the_row-AnyArray-0 s.values)

-- as its leaf slots are
pub struct-leaves : StructLeavesAreColumns
struct-leaves s a n = leaves-struct s a n

-- and they cost what all columns cost
pub struct_tally : (l r : StructArray) (a b n m : ℕ) → length (columns l) ≤ m → length (columns r) ≤ m → tally (Struct l) (Struct r) a b n ≡ columns_tally (take m (columns l)) (take m (columns r)) a b n
struct_tally l r a b n m all all' =
    tally-struct l r a b n ∙ rw (take_all m (columns l) all, take_all m (columns r) all') refl

-- where no columns were compared, all bits are set
pub no_columns : (agree : Row → Row → Bool) (ls : List AnyArray) (a : ℕ) (rs : List AnyArray) (b n : ℕ) (bits : List Bool) → bits ≡ replicate n true → ColumnBits agree ls a rs b n 0 bits
no_columns agree ls a rs b n bits e = record {
  size = rw e (length-replicate n true);
  at_each = λ i low. rw e (get_or-replicate n i true false low);
}

-- where one column was compared, its bits are those of the first columns
pub first_column : (agree : Row → Row → Bool) (ls : List AnyArray) (a : ℕ) (rs : List AnyArray) (b n : ℕ) (x y : AnyArray) (same_bits bits : List Bool) → SameBits agree x a y b n same_bits → bits ≡ same_bits → 0 < length ls → length ls ≡ length rs → ((d : AnyArray) → get_or ls 0 d ≡ x) → ((d : AnyArray) → get_or rs 0 d ≡ y) → ColumnBits agree ls a rs b n 1 bits
first_column agree ls a rs b n x y same_bits bits k e low many ex ey = record {
  size = rw e k.size;
  at_each = λ i within. rw e (k.at_each i within ∙ sym (same_columns-take agree ls rs x y 0 (a + i) (b + i) low many ex ey));
}

-- one more column is compared
pub more_columns : (agree : Row → Row → Bool) (ls : List AnyArray) (a : ℕ) (rs : List AnyArray) (b n m : ℕ) (x y : AnyArray) (bits same_bits new : List Bool) → ColumnBits agree ls a rs b n m bits → SameBits agree x a y b n same_bits → new ≡ zip2 ◌&&◌ bits same_bits → m < length ls → length ls ≡ length rs → ((d : AnyArray) → get_or ls m d ≡ x) → ((d : AnyArray) → get_or rs m d ≡ y) → ColumnBits agree ls a rs b n (m + 1) new
more_columns agree ls a rs b n m x y bits same_bits new h k e low many ex ey = record {
  size = rw e (length-zip2 ◌&&◌ bits same_bits (h.size ∙ sym k.size) ∙ h.size);
  at_each = λ i within.
      let bit : get_or (zip2 ◌&&◌ bits same_bits) i false ≡ get_or bits i false && get_or same_bits i false = get_or-zip2 ◌&&◌ bits same_bits i false false false (omega (arith, within, h.size)) (omega (arith, within, k.size)) in
      rw e (bit ∙ rw (h.at_each i within, k.at_each i within) (sym (same_columns-take agree ls rs x y m (a + i) (b + i) low many ex ey)));
}
