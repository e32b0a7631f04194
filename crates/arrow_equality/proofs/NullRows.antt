-- Null rows of the columns that arrays stand for.
use Rattle.std.proofs.Common.{◌≡◌, ◌∙◌, ◌↔◌, ◌≤◌, ◌+◌, ◌*◌, ◌++◌, ℕ, Bool, true, false, List, [], ◌∷◌, length, refl, sym, ap, ap₂, subst, arith}
use Rattle.std.specs.Prelude.{count_by, slice_index_or}
use Rattle.std.proofs.lemmas.List.{get_or_past}
use Rattle.std.proofs.lemmas.List.FromFn.{map-range_with_len_more}
use Rattle.arrow_arrays.specs.Columns.{Column, rows_of_parts}
use Rattle.arrow_arrays.specs.Good.{AreGoodParts}
use Rattle.arrow_arrays.specs.Stands.{Stands}
use Rattle.arrow_parts.specs.Refusals.{IsHonest}
use Rattle.arrow_parts.specs.Written.{AreWritten}
use Rattle.arrow_parts.specs.declared.part.Part.{Part}
use Rattle.arrow_parts.specs.declared.refused.Refused.{Refused}
use Rattle.arrow_parts.specs.declared.refused.Refused.TheVariants.{Parts, Types, Room, Memory}
use Rattle.arrow_equality.specs.Nulls.{AreNullRows, IsTrueNullRefusal, null_bits}
use Rattle.polars_arrays_flat.specs.ArrayRows.{is_null}
use Rattle.polars_arrays_flat.specs.Row.{Row, Null, Int, Truth, Bytes, Rows, Fields, Entry}
use Rattle.polars_arrays_nested.specs.AnyRows.{row}
use Rattle.polars_arrays_nested.specs.Lengths.{len_of}
use Rattle.polars_arrays_nested.specs.declared.any_array.AnyArray.{AnyArray}
use Rattle.polars_arrays_words.proofs.Firsts.{first_same, get_or-first, length-first}
use Rattle.polars_arrays_words.specs.Bits.{bit_of}

-- the bits of one more row
pub nulls-more : (rows : ℕ → Row) (i : ℕ) → null_bits rows (i + 1) ≡ null_bits rows i ++ (is_null (rows i) ∷ [])
nulls-more rows i = map-range_with_len_more (λ k. is_null (rows k)) 0 i i (omega arith)

-- bits, and that of the next row
pub nulls-pushed : (rows : ℕ → Row) (i : ℕ) (bits : List Bool) (null : Bool) → bits ≡ null_bits rows i → null ≡ is_null (rows i) → bits ++ (null ∷ []) ≡ null_bits rows (i + 1)
nulls-pushed rows i bits null e told =
    ap₂ (λ (all : List Bool) (b : Bool). all ++ (b ∷ [])) e told ∙ sym (nulls-more rows i)

-- the rows of an array are those of the column that it stands for
pub stands-nulls : (a : AnyArray) (c : Column) → Stands a c → null_bits (row a) (len_of a) ≡ null_bits c.row c.len
stands-nulls a c stands =
    ap (null_bits (row a)) stands.len
    ∙ first_same (λ i. is_null (row a i)) (λ i. is_null (c.row i)) c.len (λ i low. ap is_null (stands.rows i))

-- a bit that says whether a row is null
pub null-told : (r : Row) (b : Bool) → b ≡ is_null r → (b ≡ true) ↔ (r ≡ Null)
null-told Null b e = (λ _. refl, λ _. e)
null-told (Int x) b e = (λ set. cc, λ null. cc)
null-told (Truth x) b e = (λ set. cc, λ null. cc)
null-told (Bytes x) b e = (λ set. cc, λ null. cc)
null-told (Rows x) b e = (λ set. cc, λ null. cc)
null-told (Fields x) b e = (λ set. cc, λ null. cc)
null-told (Entry x) b e = (λ set. cc, λ null. cc)

-- words that hold the bits of a column, and their count
pub nulls-written : (c : Column) (bits : List Bool) (words : List ℕ) (n : ℕ) → bits ≡ null_bits c.row c.len → AreWritten bits words → n ≡ count_by (λ b. b) bits → AreNullRows c words n
nulls-written c bits words n is written count =
    let long : length bits ≡ c.len = ap length is ∙ length-first (λ i. is_null (c.row i)) c.len in
    record {
      room = omega (arith, long, written.room);
      at_each = λ i low. null-told (c.row i) (bit_of words i) (written.each i ∙ ap (λ (all : List Bool). slice_index_or all i false) is ∙ get_or-first (λ k. is_null (c.row k)) c.len i false low);
      behind = λ i past. written.each i ∙ get_or_past bits i false (omega (arith, past, long));
      total = count ∙ ap (count_by (λ b. b)) is;
    }

-- a refusal to make an array
pub nulls-refused : (words : ℕ) (parts : List Part) (r : Refused) → IsHonest (AreGoodParts parts) r → IsTrueNullRefusal words parts r
nulls-refused words parts Parts told = told
nulls-refused words parts Types told = told
nulls-refused words parts Room told = absurd told
nulls-refused words parts Memory told = tt

-- a refusal for want of room
pub nulls-no-room : (words : ℕ) (parts : List Part) (bits : List Bool) (r : Refused) → bits ≡ null_bits (rows_of_parts parts).row (rows_of_parts parts).len → r ≡ Room → ¬ (length bits ≤ 64 * words) → IsTrueNullRefusal words parts r
nulls-no-room words parts bits r is room none =
    let long : length bits ≡ (rows_of_parts parts).len = ap length is ∙ length-first (λ i. is_null ((rows_of_parts parts).row i)) (rows_of_parts parts).len in
    subst (IsTrueNullRefusal words parts) (sym room) (subst (λ n. ¬ (n ≤ 64 * words)) long none)

pub ruleset nulls = (stands-nulls, nulls-written, nulls-refused)
