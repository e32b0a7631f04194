-- From the bits of two whole windows to what the kernels say of two whole arrays.
use Rattle.std.proofs.Common.{◌≡◌, ◌≢◌, ◌≤◌, ◌<◌, ◌+◌, ◌↔◌, ◌⊎◌, ◌∙◌, ℕ, Bool, true, false, not, List, length, map, slice_index_or, MatchResult, refl, ap, sym, subst, inl, inr, arith}
use Rattle.std.specs.Prelude.{Result}
use Rattle.std.proofs.lemmas.List.{get_or-map, length-map}
use Rattle.std.proofs.lemmas.List.FromFn.{length-map-range_with_len, get_or-map-range_with_len}
use Rattle.std.proofs.lemmas.Result.{MatchResult-weaker}
use Rattle.polars_arrays_bits.specs.Errors.{IsMemory}
use Rattle.polars_arrays_bits.specs.declared.error.ComputeError.{ComputeError}
use Rattle.polars_arrays_flat.specs.Row.{Row, Null, Int, Truth, Bytes, Rows, Fields, Entry}
use Rattle.polars_arrays_flat.specs.StoredRows.{row as row_at}
use Rattle.polars_arrays_nested.proofs.LeafSlots.{leaves-add}
use Rattle.polars_arrays_nested.specs.AnyRows.{row, rows}
use Rattle.polars_arrays_nested.specs.GoodParts.{IsGood}
use Rattle.polars_arrays_nested.specs.Leaves.{leaves}
use Rattle.polars_arrays_nested.specs.Lengths.{len_of}
use Rattle.polars_arrays_nested.specs.Types.{type_of}
use Rattle.polars_arrays_nested.specs.declared.any_array.AnyArray.{AnyArray}
use Rattle.polars_compare_leaves.specs.Equality.{EqualRows, MissingEquality}
use Rattle.polars_compare_leaves.specs.Sameness.{same}
use Rattle.polars_compare_nested.specs.Bits.{SameBits}
use Rattle.polars_compare_nested.specs.Headline.{IsEquality, SameRows, SameTrees}
use Rattle.polars_compare_nested.specs.Tally.{tally}
use Rattle.polars_compare_nested.proofs.TallySwap.{tally-swap}
use Rattle.polars_compare_nested.proofs.TallyWithin.{tally-within}
use Rattle.polars_compare_nested.proofs.Trees.{equality-trees}

-- each bit of two whole arrays
bit-at : (agree : Row → Row → Bool) (l r : AnyArray) (bits : List Bool) → SameBits agree l 0 r 0 (len_of l) bits → (i : ℕ) → i < len_of l → slice_index_or bits i false ≡ same agree (row l i) (row r i)
bit-at agree l r bits told i below =
    let place : 0 + i ≡ i = omega arith in
    told.at_each i below ∙ ap (λ (k : ℕ). same agree (row l k) (row r k)) place

turned : (x : Bool) → (not x ≡ false) ↔ (x ≡ true)
turned true = ((λ e. refl), (λ e. refl))
turned false = ((λ e. sym e), (λ e. sym e))

-- the bits say where two rows are the same
rows-same : (agree : Row → Row → Bool) (l r : AnyArray) (bits : List Bool) → SameBits agree l 0 r 0 (len_of l) bits → SameRows true agree l r bits
rows-same agree l r bits told = record {
  size = told.size;
  at_each = λ i below.
      let bit = bit-at agree l r bits told i below in
      ((λ set. sym bit ∙ set), (λ one. bit ∙ one));
}

-- turned, they say where two rows are not the same
rows-other : (agree : Row → Row → Bool) (l r : AnyArray) (bits : List Bool) → SameBits agree l 0 r 0 (len_of l) bits → SameRows false agree l r (map not bits)
rows-other agree l r bits told = record {
  size = length-map bits not ∙ told.size;
  at_each = λ i below.
      let bit = bit-at agree l r bits told i below in
      let there : slice_index_or (map not bits) i false ≡ not (same agree (row l i) (row r i)) =
      get_or-map not bits i false false (omega (arith, below, told.size)) ∙ ap not bit in
      let turn = turned (same agree (row l i) (row r i)) in
      ((λ unset. turn.0 (sym there ∙ unset)), (λ one. there ∙ turn.1 one));
}

-- a kernel whose test is equality says which rows are the same tree
trees-told : (told : Bool) (agree : Row → Row → Bool) (l r : AnyArray) (bits : List Bool) → IsEquality agree → SameRows told agree l r bits → SameTrees told l r bits
trees-told told agree l r bits equality rows_told = record {
  size = rows_told.size;
  at_each = λ i below.
      let here = rows_told.at_each i below in
      let tree = equality-trees agree equality (row l i) (row r i) in
      ((λ bit. tree.0 (here.0 bit)), (λ one. here.1 (tree.1 one)));
}

null_or_not : (x : Row) → (x ≡ Null) ⊎ (x ≢ Null)
null_or_not Null = inl refl
null_or_not (Int n) = inr (λ e. cc)
null_or_not (Truth b) = inr (λ e. cc)
null_or_not (Bytes xs) = inr (λ e. cc)
null_or_not (Rows xs) = inr (λ e. cc)
null_or_not (Fields xs) = inr (λ e. cc)
null_or_not (Entry x) = inr (λ e. cc)

-- rows of one type are equal, null to null alone, where they are one tree
equal-rows : (one_type : Type 0) → one_type → (x y : Row) → EqualRows one_type x y ↔ (x ≡ y)
equal-rows one_type one x y = (
  (λ either. elim either [ inl nulls ↦ nulls.0 ∙ sym nulls.1 | inr others ↦ others.3 ]),
  (λ e. elim (null_or_not x) [
    | inl null ↦ inl (null, sym e ∙ null)
    | inr some ↦ inr (some, (λ null. some (e ∙ null)), one, e)
  ]),
)

length-rows : (a : AnyArray) → length (rows a) ≡ len_of a
length-rows a = length-map-range_with_len (row a) 0 (len_of a)

row-rows : (a : AnyArray) (i : ℕ) → i < len_of a → row_at (rows a) i ≡ row a i
row-rows a i below = get_or-map-range_with_len (row a) 0 (len_of a) i i Null below (omega arith)

-- rows that are the same tree are the same in the two lists of rows
missing-told : (told : Bool) (l r : AnyArray) (bits : List Bool) → type_of l ≡ type_of r → len_of l ≡ len_of r → SameTrees told l r bits → MissingEquality told (type_of l ≡ type_of r) (rows l) (rows r) bits
missing-told told l r bits one_type one_length trees = record {
  size = trees.size ∙ sym (length-rows l);
  at_each = λ i below.
      let within : i < len_of l = omega (arith, below, length-rows l) in
      let here = trees.at_each i within in
      let equal = equal-rows (type_of l ≡ type_of r) one_type (row l i) (row r i) in
      rw (row-rows l i within, row-rows r i (omega (arith, within, one_length))) ((λ bit. equal.1 (here.0 bit)), (λ e. here.1 (equal.0 e)));
}

-- the same, of the results of calls: of the bits of two whole windows
pub result-same : (agree : Row → Row → Bool) (l r : AnyArray) (result : Result (List Bool) ComputeError) → MatchResult result (SameBits agree l 0 r 0 (len_of l)) IsMemory → MatchResult result (SameRows true agree l r) IsMemory
result-same agree l r result told =
    MatchResult-weaker result told (λ bits here. rows-same agree l r bits here) (λ e memory. memory)

-- of those bits turned
pub result-other : (agree : Row → Row → Bool) (l r : AnyArray) (bits : List Bool) (result : Result (List Bool) ComputeError) → SameBits agree l 0 r 0 (len_of l) bits → MatchResult result (λ unset. unset ≡ map not bits) IsMemory → MatchResult result (SameRows false agree l r) IsMemory
result-other agree l r bits result told turn =
    MatchResult-weaker result turn (λ unset is. subst (SameRows false agree l r) (sym is) (rows-other agree l r bits told)) (λ e memory. memory)

-- the bits of a kernel whose test is equality
pub result-trees : (told : Bool) (agree : Row → Row → Bool) (l r : AnyArray) (result : Result (List Bool) ComputeError) → IsEquality agree → MatchResult result (SameRows told agree l r) IsMemory → MatchResult result (SameTrees told l r) IsMemory
result-trees told agree l r result equality rows_told =
    MatchResult-weaker result rows_told (λ bits here. trees-told told agree l r bits equality here) (λ e memory. memory)

-- of the two lists of rows
pub result-missing : (told : Bool) (l r : AnyArray) (result : Result (List Bool) ComputeError) → type_of l ≡ type_of r → len_of l ≡ len_of r → MatchResult result (SameTrees told l r) IsMemory → MatchResult result (MissingEquality told (type_of l ≡ type_of r) (rows l) (rows r)) IsMemory
result-missing told l r result one_type one_length trees =
    MatchResult-weaker result trees (λ bits here. missing-told told l r bits one_type one_length here) (λ e memory. memory)

-- the comparisons of two whole arrays are no more than the leaf slots of the left one
pub within-left : (l r : AnyArray) → IsGood l → tally l r 0 0 (len_of l) ≤ leaves l 0 (len_of l)
within-left l r good = tally-within leaves-add l r good 0 0 (len_of l) (omega arith)

-- nor, by symmetry, than those of the right one
pub within-right : (l r : AnyArray) → IsGood l → IsGood r → type_of l ≡ type_of r → len_of l ≡ len_of r → tally l r 0 0 (len_of l) ≤ leaves r 0 (len_of r)
within-right l r good good' one_type one_length =
    let turned_round = tally-swap l r good good' one_type 0 0 (len_of l) in
    let whole : tally r l 0 0 (len_of l) ≤ leaves r 0 (len_of l) = tally-within leaves-add r l good' 0 0 (len_of l) (omega (arith, one_length)) in
    let same_leaves : leaves r 0 (len_of l) ≡ leaves r 0 (len_of r) = ap (λ (n : ℕ). leaves r 0 n) one_length in
    omega (arith, turned_round, whole, same_leaves)

pub ruleset bounds = (within-left, within-right)
