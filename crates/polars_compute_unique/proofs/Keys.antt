-- The keys of a finalised state name entries where those that were seen do.
use Rattle.std.proofs.Common.{◌≡◌, ◌<◌, ◌≤◌, ◌-◌, ◌∙◌, ℕ, zero, suc, Bool, true, false, cond, not, List, [], ◌∷◌, length, map, get_or, pos, refl, sym, ap, subst, arith}
use Rattle.std.specs.Prelude.{ℤ, ◌<ℤ◌, Option, Some, None, All, filter, slice_index_or}
use Rattle.std.proofs.lemmas.Bool.{cases_lt}
use Rattle.std.proofs.lemmas.Int.{ints}
use Rattle.std.proofs.lemmas.List.Elements.{All-cons}
use Rattle.std.proofs.lemmas.List.{get_or-append_right, get_or_append_left, get_or-map, get_or_past, length-map}
use Rattle.polars_arrays_bits.specs.Errors.{IsMemory}
use Rattle.polars_arrays_bits.specs.declared.error.ComputeError.{ComputeError}
use Rattle.polars_arrays_bits.specs.declared.error.ComputeError.TheVariants.{Memory, Unsupported, KeyOutOfRange}
use Rattle.polars_arrays_bytes.specs.OffsetStrings.{places}
use Rattle.polars_arrays_flat.specs.Row.{Row, Null, Int}
use Rattle.polars_arrays_flat.specs.StoredRows.{kept, masked, number_slots, row, rows_under}
use Rattle.polars_arrays_flat.specs.Validity.{is_present}
use Rattle.polars_arrays_nested.specs.DictKeys.{IsEntry, NameEntries}
use Rattle.polars_arrays_nested.specs.Lengths.{len_of}
use Rattle.polars_arrays_nested.specs.declared.any_array.AnyArray.{AnyArray}
use Rattle.polars_compute_slots.specs.State.{State, finalised, read_by, set_of}
use Rattle.polars_compute_unique.specs.Dictionaries.{IsFinalFault, NamesEntries}
use mathlib.Core.Logic.{⊎_elim}

tail-null : (b : Bool) (k : ℕ) → get_or (cond b (Null ∷ []) []) k Null ≡ Null
tail-null true zero = refl
tail-null true (suc k) = refl
tail-null false k = refl

-- a number among finalised rows is one of the set
member : (s : State) (n i x : ℕ) → NamesEntries n s → row (finalised (λ v. Int v) s) i ≡ Int (pos x) → x < n
member s n i x named e =
    let tail = cond s.has_null (Null ∷ []) [] in
    let front = map (λ (v : ℤ). Int v) (set_of s) in
    ⊎_elim
    (λ (below : i < length (set_of s)).
    let there : i < length front = omega (arith, length-map (set_of s) (λ (v : ℤ). Int v)) in
    let is : Int (get_or (set_of s) i (pos 0)) ≡ Int (pos x) = sym (get_or_append_left front tail Null i there ∙ get_or-map (λ (v : ℤ). Int v) (set_of s) i (pos 0) Null below) ∙ e in
    let same : get_or (set_of s) i (pos 0) ≡ pos x = cc in
    let less : get_or (set_of s) i (pos 0) <ℤ pos n = named i (pos 0) below in
    omega (arith, ints))
    (λ (past : length (set_of s) ≤ i).
    let is : Null ≡ Int (pos x) = sym (get_or-append_right front tail (length (set_of s)) i Null (length-map (set_of s) (λ (v : ℤ). Int v)) past ∙ tail-null s.has_null (i - length (set_of s))) ∙ e in
    cc)
    (cases_lt i (length (set_of s)))

row-masked : (bits : List Bool) (rows : List Row) (i : ℕ) → i < length bits → i < length rows → row (masked bits rows) i ≡ kept (slice_index_or bits i false) (row rows i)
row-masked [] rows i h k = absurd (omega arith)
row-masked (b ∷ bits) [] i h k = absurd (omega arith)
row-masked (b ∷ bits) (x ∷ rows) zero h k = refl
row-masked (b ∷ bits) (x ∷ rows) (suc i) h k = row-masked bits rows i (omega arith) (omega arith)

-- a present row is the stored one
row-present : (validity : Option (List Bool)) (rows : List Row) (i : ℕ) → i < length rows → is_present validity i ≡ true → row (rows_under validity rows) i ≡ row rows i
row-present None rows i h present = refl
row-present (Some bits) rows i h present =
    ⊎_elim
    (λ (below : i < length bits). row-masked bits rows i below h ∙ ap (λ b. kept b (row rows i)) present)
    (λ (past : length bits ≤ i). let masked_out = get_or_past bits i false past in cc)
    (cases_lt i (length bits))

pub keys-named : (values : List ℕ) (validity : Option (List Bool)) (s : State) (n : ℕ) → rows_under validity (number_slots (λ (x : ℕ). pos x) values) ≡ finalised (λ v. Int v) s → NamesEntries n s → NameEntries n validity (places (λ (x : ℕ). pos x) values)
keys-named values validity s n rows named i lt present =
    let within : i < length values = omega (arith, length-map values (λ (x : ℕ). Some x)) in
    let stored : i < length (number_slots (λ (x : ℕ). pos x) values) = omega (arith, length-map values (λ (x : ℕ). Int (pos x))) in
    let is : row (finalised (λ v. Int v) s) i ≡ Int (pos (get_or values i 0)) = ap (λ (rs : List Row). row rs i) (sym rows) ∙ row-present validity (number_slots (λ (x : ℕ). pos x) values) i stored present ∙ get_or-map (λ (x : ℕ). Int (pos x)) values i 0 Null within in
    subst (IsEntry n) (sym (get_or-map (λ (x : ℕ). Some x) values i 0 None within)) (member s n i (get_or values i 0) named is)

abbrev names_less : ℕ → List (ℤ × Bool) → Type 0
names_less n vs = All (λ (key : ℤ). key <ℤ pos n) (map {B = ℤ} (λ (v : ℤ × Bool). v.0) (filter (λ (v : ℤ × Bool). v.1) vs))

all-tail : (P : ℤ → Type 0) (x : ℤ) (xs : List ℤ) → All P (x ∷ xs) → All P xs
all-tail P x xs all = λ i d low. all (suc i) d (omega (arith, low))

named-one : (n : ℕ) (null : ℤ → Bool) (v : ℤ) (seen : Bool) (vs : List (ℤ × Bool)) (b : Bool) → null v ≡ b → names_less n ((v, seen) ∷ vs) → (names_less n vs → names_less n (filter (λ (w : ℤ × Bool). not (null w.0)) vs)) → names_less n (filter (λ (w : ℤ × Bool). not (null w.0)) ((v, seen) ∷ vs))
named-one n null v false vs true is all rest = rw is (rest all)
named-one n null v false vs false is all rest = rw is (rest all)
named-one n null v true vs true is all rest = rw is (rest (all-tail (λ (key : ℤ). key <ℤ pos n) v _ all))
named-one n null v true vs false is all rest = rw is (All-cons (λ (key : ℤ). key <ℤ pos n) v _ (all 0 (pos 0) (omega arith)) (rest (all-tail (λ (key : ℤ). key <ℤ pos n) v _ all)))

-- keys that name entries do so too where the state is read with some of them as nulls
named-values : (n : ℕ) (null : ℤ → Bool) (vs : List (ℤ × Bool)) → names_less n vs → names_less n (filter (λ (w : ℤ × Bool). not (null w.0)) vs)
named-values n null [] all = all
named-values n null ((v, seen) ∷ vs) all = named-one n null v seen vs (null v) refl all (named-values n null vs)

pub read-named : (n : ℕ) (null : ℤ → Bool) (s : State) → NamesEntries n s → NamesEntries n (read_by null s)
read-named n null s all = named-values n null s.values all

-- if the keys seen name entries, a failed allocation is the only error
pub memory-final : (entries : AnyArray) (s : State) → NamesEntries (len_of entries) s → (e : ComputeError) → IsMemory e → IsFinalFault (Some entries) s e
memory-final entries s named (Memory e) is = named
memory-final entries s named Unsupported is = absurd is
memory-final entries s named (KeyOutOfRange key len) is = absurd is
