-- The comparisons stay when the sides are exchanged.
use Rattle.std.proofs.Common.{◌≡◌, ◌+◌, ◌*◌, ◌&&◌, ℕ, zero, suc, eqb, Bool, true, false, cond, List, [], ◌∷◌, refl, ap, sym, ◌∙◌, arith, inl, inr}
use Rattle.std.specs.Prelude.{Option}
use Rattle.std.proofs.lemmas.Bool.{eq-eqb, ne_eqb}
use Rattle.std.proofs.lemmas.Bool.Decides.{eqb_tells}
use Rattle.polars_arrays_flat.specs.DataType.{kind_of, kinds_of}
use Rattle.polars_arrays_flat.specs.Kind.{Kind, NullKind}
use Rattle.polars_arrays_flat.specs.Validity.{is_present}
use Rattle.polars_arrays_flat.specs.declared.data_type.Field.{Field}
use Rattle.polars_arrays_nested.specs.DictKeys.{key_validity}
use Rattle.polars_arrays_nested.specs.GoodParts.{AreFields}
use Rattle.polars_arrays_nested.specs.ListOffsets.{offset_at, span}
use Rattle.polars_arrays_nested.specs.Types.{kind_of_lists, type_of}
use Rattle.polars_arrays_nested.specs.declared.any_array.AnyArray.{AnyArray, Null, List', FixedSizeList', Struct', Dictionary', Row_of-AnyArray, end_of-AnyArray, more_of-AnyArray, items-the_row-AnyArray}
use Rattle.polars_arrays_nested.specs.declared.dict_keys.DictKeys.{DictKeys}
use Rattle.polars_arrays_nested.specs.declared.list_offsets.ListOffsets.{ListOffsets}
use Rattle.polars_arrays_nested.specs.declared.list_offsets.ListOffsets.TheVariants.{Small, Large}
use Rattle.polars_compare_nested.specs.KindSorts.{is_list}
use Rattle.polars_compare_nested.specs.Leaf.{is_leaf}
use Rattle.polars_compare_nested.specs.Tally.{entry_tally, pair_tally, tally, tally_across, total_pairs}
use Rattle.polars_compare_nested.specs.TallyLaws.{TallyIsSymmetric}

pairs-swap : (f g : ℕ → ℕ → ℕ) → ((i j : ℕ) → f i j ≡ g j i) → (a b n : ℕ) → total_pairs f a b n ≡ total_pairs g b a n
pairs-swap f g swap a b zero = refl
pairs-swap f g swap a b (suc n) = omega (arith, pairs-swap f g swap a b n, swap (a + n) (b + n))

match-swap : (p q : Bool) (n m c d : ℕ) → (n ≡ m → c ≡ d) → cond (p && q && eqb n m) c 0 ≡ cond (q && p && eqb m n) d 0
match-swap true true n m c d h = elim (eqb_tells n m) [
  | inl k ↦ rw (k.0, eq-eqb m n (sym k.1)) (h k.1)
  | inr k ↦ rw (k.0, ne_eqb m n (λ e. k.1 (sym e))) refl
]
match-swap true false n m c d h = refl
match-swap false true n m c d h = refl
match-swap false false n m c d h = refl

both-swap : (p q : Bool) (c d : ℕ) → c ≡ d → cond (p && q) c 0 ≡ cond (q && p) d 0
both-swap true true c d h = h
both-swap true false c d h = refl
both-swap false true c d h = refl
both-swap false false c d h = refl

-- `child` counts what `child'` counts the other way round
abbrev Swaps : (ℕ → ℕ → ℕ → ℕ) → (ℕ → ℕ → ℕ → ℕ) → Type 0
Swaps child child' = (i j m : ℕ) → child i j m ≡ child' j i m

pair-swap : (child child' : ℕ → ℕ → ℕ → ℕ) → Swaps child child' → (o : ListOffsets) (v : Option (List Bool)) (o' : ListOffsets) (v' : Option (List Bool)) (i j : ℕ) → pair_tally child o v o' v' i j ≡ pair_tally child' o' v' o v j i
pair-swap child child' swap o v o' v' i j =
    match-swap (is_present v i) (is_present v' j) (span o i) (span o' j) _ _ (λ e. swap _ _ _ ∙ ap (λ (k : ℕ). child' (offset_at o' j) (offset_at o i) k) e)

entry-swap : (child child' : ℕ → ℕ → ℕ → ℕ) → Swaps child child' → (keys keys' : DictKeys) (i j : ℕ) → entry_tally child keys keys' i j ≡ entry_tally child' keys' keys j i
entry-swap child child' swap keys keys' i j =
    both-swap (is_present (key_validity keys) i) (is_present (key_validity keys') j) _ _ (swap _ _ 1)

-- leaves compared with anything are compared one by one
leaf-tally : (x y : AnyArray) → is_leaf (type_of x) ≡ true → (a b n : ℕ) → tally x y a b n ≡ n
leaf-tally (Null x) y leaf a b n = cc
leaf-tally (List' (Small offsets) p values validity) y leaf a b n = cc
leaf-tally (List' (Large offsets) p values validity) y leaf a b n = cc
leaf-tally (FixedSizeList' width len p values validity) y leaf a b n = cc
leaf-tally (Struct' fields len p values validity) y leaf a b n = cc
leaf-tally (Dictionary' keys p values) y leaf a b n = cc
leaf-tally _ y leaf a b n = refl

-- nulls compared with anything cost nothing
null-tally : (x y : AnyArray) → type_of x ≡ NullKind → (a b n : ℕ) → tally x y a b n ≡ 0
null-tally (Null x) y null a b n = refl
null-tally (List' (Small offsets) p values validity) y null a b n = cc
null-tally (List' (Large offsets) p values validity) y null a b n = cc
null-tally _ y null a b n = cc

lists-are-lists : (offsets : ListOffsets) (item : Kind) → is_list (kind_of_lists offsets item) ≡ true
lists-are-lists (Small offsets) item = refl
lists-are-lists (Large offsets) item = refl

-- lists of one type hold items of one type
one_item : (o o' : ListOffsets) (item item' : Kind) → kind_of_lists o item ≡ kind_of_lists o' item' → item ≡ item'
one_item (Small o) (Small o') item item' one = cc
one_item (Small o) (Large o') item item' one = cc
one_item (Large o) (Small o') item item' one = cc
one_item (Large o) (Large o') item item' one = cc

mutual
  pub tally-swap : TallyIsSymmetric
  tally-swap (Null x) y good good' one a b n = sym (null-tally y (Null x) (sym one) b a n)
  tally-swap (List' o p values v) (List' o' p' values' v') good good' one a b n =
      let item = one_item o o' (type_of values) (type_of values') one in
      pairs-swap _ _ (pair-swap (λ i j m. tally values values' i j m) (λ i j m. tally values' values i j m) (λ i j m. tally-swap values values' good.1 good'.1 item i j m) o v o' v') a b n
  tally-swap (List' o p values v) y good good' one a b n =
      let list : is_list (type_of y) ≡ true = ap is_list (sym one) ∙ lists-are-lists o (type_of values) in
      cc
  tally-swap (FixedSizeList' w len p values v) (FixedSizeList' w' len' p' values' v') good good' one a b n =
      let wide : w ≡ w' = cc in
      let item : type_of values ≡ type_of values' = cc in
      tally-swap values values' good.1 good'.1 item (w * a) (w * b) (w * n)
      ∙ ap (λ (k : ℕ). tally values' values (k * b) (k * a) (k * n)) wide
  tally-swap (FixedSizeList' w len p values v) (List' (Small o) p' values' v') good good' one a b n = cc
  tally-swap (FixedSizeList' w len p values v) (List' (Large o) p' values' v') good good' one a b n = cc
  tally-swap (FixedSizeList' w len p values v) _ good good' one a b n = cc
  tally-swap (Struct' fields len p values v) (Struct' fields' len' p' values' v') good good' one a b n =
      let kinds : kinds_of fields.items ≡ kinds_of fields'.items = cc in
      across-swap fields.items fields'.items len len' values values' good.1 good'.1 kinds a b n
  tally-swap (Struct' fields len p values v) (List' (Small o) p' values' v') good good' one a b n = cc
  tally-swap (Struct' fields len p values v) (List' (Large o) p' values' v') good good' one a b n = cc
  tally-swap (Struct' fields len p values v) _ good good' one a b n = cc
  tally-swap (Dictionary' keys p values) (Dictionary' keys' p' values') good good' one a b n =
      let item : type_of values ≡ type_of values' = cc in
      pairs-swap _ _ (entry-swap (λ i j m. tally values values' i j m) (λ i j m. tally values' values i j m) (λ i j m. tally-swap values values' good.1 good'.1 item i j m) keys keys') a b n
  tally-swap (Dictionary' keys p values) (List' (Small o) p' values' v') good good' one a b n = cc
  tally-swap (Dictionary' keys p values) (List' (Large o) p' values' v') good good' one a b n = cc
  tally-swap (Dictionary' keys p values) _ good good' one a b n = cc
  tally-swap x y good good' one a b n = sym (leaf-tally y x (ap is_leaf (sym one)) b a n)

  across-swap : {c : _} {c' : _} (fields fields' : List Field) (len len' : ℕ) (all : Row_of-AnyArray c) (all' : Row_of-AnyArray c') → AreFields fields len all → AreFields fields' len' all' → kinds_of fields ≡ kinds_of fields' → (a b n : ℕ) → tally_across all (items-the_row-AnyArray _ all') a b n ≡ tally_across all' (items-the_row-AnyArray _ all) b a n
  across-swap fields fields' len len' end_of-AnyArray end_of-AnyArray good good' one a b n = refl
  across-swap fields fields' len len' end_of-AnyArray (more_of-AnyArray first' rest') good good' one a b n = refl
  across-swap fields fields' len len' (more_of-AnyArray first rest) end_of-AnyArray good good' one a b n = refl
  across-swap [] fields' len len' (more_of-AnyArray first rest) (more_of-AnyArray first' rest') good good' one a b n = absurd good
  across-swap (field ∷ fields) [] len len' (more_of-AnyArray first rest) (more_of-AnyArray first' rest') good good' one a b n = absurd good'
  across-swap (field ∷ fields) (field' ∷ fields') len len' (more_of-AnyArray first rest) (more_of-AnyArray first' rest') good good' one a b n =
      let kind : kind_of field.dtype ≡ kind_of field'.dtype = cc in
      let kinds : kinds_of fields ≡ kinds_of fields' = cc in
      let here = tally-swap first first' good.2 good'.2 (good.1 ∙ kind ∙ sym good'.1) a b n in
      let there = across-swap fields fields' len len' rest rest' good.3 good'.3 kinds a b n in
      omega (arith, here, there)
