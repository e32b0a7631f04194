-- Laws of bits of presence: they are set exactly for the rows that are not Null.
use Rattle.std.proofs.Common.{◌≡◌, ◌≢◌, ◌-◌, ◌<◌, ◌&&◌, ℕ, ℤ, zero, suc, Bool, true, false, not}
use Rattle.std.proofs.Common.{List, [], ◌∷◌, length, map, get_or, replicate, refl, ap, sym, ◌∙◌}
use Rattle.std.proofs.Common.{arith}
use Rattle.std.specs.Prelude.{Option, Some, None}
use Rattle.std.proofs.lemmas.List.{length-map}
use Rattle.std.proofs.lemmas.List.FromFn.{length-map-range_with_len, get_or-map-range_with_len}
use Rattle.polars_arrays_bytes.specs.OffsetStrings.{place_at, places, row_count, string_between}
use Rattle.polars_arrays_bytes.specs.OffsetStrings.{strings_between}
use Rattle.polars_arrays_bytes.specs.SizedStrings.{sized_string, sized_strings}
use Rattle.polars_arrays_flat.specs.ArrayRows.{is_null}
use Rattle.polars_arrays_flat.specs.Kind.{NullKind}
use Rattle.polars_arrays_flat.specs.Row.{Row, Int, Truth, Bytes, Rows, Fields, Entry}
use Rattle.polars_arrays_flat.specs.Row.{Null as Missing}
use Rattle.polars_arrays_flat.specs.StoredRows.{byte_slots, kept, masked, number_slots, rows_under}
use Rattle.polars_arrays_flat.specs.StoredRows.{row as row_at}
use Rattle.polars_arrays_flat.specs.Validity.{is_present}
use Rattle.polars_arrays_nested.specs.AnyRows.{entry_row, row}
use Rattle.polars_arrays_nested.specs.DictKeys.{IsEntry, key_at, key_count, key_places}
use Rattle.polars_arrays_nested.specs.DictKeys.{key_validity}
use Rattle.polars_arrays_nested.specs.GoodParts.{IsGood}
use Rattle.polars_arrays_nested.specs.Lengths.{len_of}
use Rattle.polars_arrays_nested.specs.Masks.{entry_mask, mask_of, names_present, presence_of}
use Rattle.polars_arrays_nested.specs.Parts.{dictionary_keys, dictionary_values}
use Rattle.polars_arrays_nested.specs.Places.{place_or_zero}
use Rattle.polars_arrays_nested.specs.Types.{type_of}
use Rattle.polars_arrays_nested.specs.declared.any_array.AnyArray.{AnyArray, Null, Boolean, Int8}
use Rattle.polars_arrays_nested.specs.declared.any_array.AnyArray.{Int16, Int32, Int64, Int128}
use Rattle.polars_arrays_nested.specs.declared.any_array.AnyArray.{UInt8, UInt16, UInt32, UInt64}
use Rattle.polars_arrays_nested.specs.declared.any_array.AnyArray.{UInt128, Binary, LargeBinary}
use Rattle.polars_arrays_nested.specs.declared.any_array.AnyArray.{Utf8, LargeUtf8, BinaryView}
use Rattle.polars_arrays_nested.specs.declared.any_array.AnyArray.{Utf8View, FixedSizeBinary, List'}
use Rattle.polars_arrays_nested.specs.declared.any_array.AnyArray.{FixedSizeList', Struct'}
use Rattle.polars_arrays_nested.specs.declared.any_array.AnyArray.{Dictionary, Dictionary'}
use Rattle.polars_arrays_nested.specs.declared.dict_keys.DictKeys.{DictKeys}
use Rattle.polars_arrays_nested.specs.declared.dictionary.DictionaryArray.{DictionaryArray}
use Rattle.polars_arrays_views.specs.Parts.{strings_of}
use Rattle.polars_arrays_views.specs.Views.{row_bytes}

nothing_kept : (bit : Bool) → Missing ≡ kept bit Missing
nothing_kept true = refl
nothing_kept false = refl

row-masked : (bits : List Bool) (slots : List Row) (i : ℕ) → row_at (masked bits slots) i
    ≡ kept (get_or bits i false) (row_at slots i)
row-masked [] slots i = refl
row-masked (bit ∷ bits) [] i = nothing_kept (get_or (bit ∷ bits) i false)
row-masked (bit ∷ bits) (slot ∷ slots) zero = refl
row-masked (bit ∷ bits) (slot ∷ slots) (suc i) = row-masked bits slots i

-- a row under a validity is the stored row if it is present, else Null
under_is : (validity : Option (List Bool)) (slots : List Row) (i : ℕ)
    → row_at (rows_under validity slots) i ≡ kept (is_present validity i) (row_at slots i)
under_is None slots i = refl
under_is (Some bits) slots i = row-masked bits slots i

-- if the stored row is not Null, a row is Null exactly if it is masked
kept_told : (bit : Bool) (x : Row) → is_null x ≡ false → bit ≡ not (is_null (kept bit x))
kept_told true x there = rw there refl
kept_told false x there = refl

under_told : (validity : Option (List Bool)) (slots : List Row) (i : ℕ) → is_null (row_at slots i)
    ≡ false → is_present validity i ≡ not (is_null (row_at (rows_under validity slots) i))
under_told validity slots i there =
    kept_told (is_present validity i) (row_at slots i) there ∙ ap
    (λ r. not (is_null r)) (sym (under_is validity slots i))

slot_there : {A : Type 0} (f : A → Row) → ((x : A) → is_null (f x) ≡ false) → (xs : List A) (i : ℕ)
    → i < length xs → is_null (row_at (map f xs) i) ≡ false
slot_there f there [] i low = absurd (omega (arith, low))
slot_there f there (x ∷ xs) zero low = there x
slot_there f there (x ∷ xs) (suc i) low = slot_there f there xs i (omega (arith, low))

number_there : {A : Type 0} (value : A → ℤ) (xs : List A) (i : ℕ) → i < length xs
    → is_null (row_at (number_slots value xs) i) ≡ false
number_there value xs i low = slot_there (λ x. Int (value x)) (λ x. refl) xs i low

bytes_there : (strings : List (List ℕ)) (i : ℕ) → i < length strings
    → is_null (row_at (byte_slots strings) i) ≡ false
bytes_there strings i low = slot_there Bytes (λ x. refl) strings i low

between_there : {A : Type 0} (value : A → ℤ) (offsets : List A) (values : List ℕ) (i : ℕ)
    → i < row_count offsets
    → is_null (row_at (byte_slots (strings_between (places value offsets) values)) i) ≡ false
between_there value offsets values i low =
    let size : length (strings_between (places value offsets) values) ≡ row_count offsets =
    length-map-range_with_len (string_between (places value offsets) values) 0
    (row_count (places value offsets))
    ∙ ap (λ (k : ℕ). k - 1) (length-map {A = _} offsets _) in
    bytes_there (strings_between (places value offsets) values) i (omega (arith, low, size))

sized_there : (size count : ℕ) (values : List ℕ) (i : ℕ) → i < count
    → is_null (row_at (byte_slots (sized_strings size count values)) i) ≡ false
sized_there size count values i low =
    bytes_there (sized_strings size count values) i
    (omega (arith, low, length-map-range_with_len (sized_string size values) 0 count))

views_there : (buffers views : List (List ℕ)) (i : ℕ) → i < length views
    → is_null (row_at (byte_slots (strings_of buffers views)) i) ≡ false
views_there buffers views i low =
    bytes_there (strings_of buffers views) i
    (omega (arith, low, length-map views (row_bytes buffers)))

none_there : (n i : ℕ) → get_or (replicate n false) i false ≡ false
none_there zero i = refl
none_there (suc n) zero = refl
none_there (suc n) (suc i) = none_there n i

-- the row of an entry is null exactly if the entry is
entry-null : (x : Row) → is_null (entry_row x) ≡ is_null x
entry-null Missing = refl
entry-null (Int n) = refl
entry-null (Truth b) = refl
entry-null (Bytes xs) = refl
entry-null (Rows xs) = refl
entry-null (Fields xs) = refl
entry-null (Entry x) = refl

-- the row of an entry that is not null is the entry
pub entry-there : (x : Row) → is_null x ≡ false → entry_row x ≡ Entry x
entry-there Missing there = cc
entry-there (Int n) there = refl
entry-there (Truth b) there = refl
entry-there (Bytes xs) there = refl
entry-there (Rows xs) there = refl
entry-there (Fields xs) there = refl
entry-there (Entry x) there = refl

both-told : (here there : Bool) (x : Row) → (here ≡ true → there ≡ not (is_null x)) → here && there
    ≡ not (is_null (kept here (entry_row x)))
both-told false there x told = refl
both-told true there x told = told refl ∙ ap not (sym (entry-null x))

and_true : (x : Bool) → x && true ≡ x
and_true true = refl
and_true false = refl

-- bits of presence of the entries give those of the keys' rows
entries-told : (keys : DictKeys) (entries : Option (List Bool)) (f : ℕ → Row) (i : ℕ)
    → i < key_count keys
    → (is_present (key_validity keys) i ≡ true → is_present entries (key_at keys i)
    ≡ not (is_null (f (key_at keys i)))) → is_present (entry_mask keys entries) i
    ≡ not (is_null (kept (is_present (key_validity keys) i) (entry_row (f (key_at keys i)))))
entries-told keys None f i low told =
    sym (and_true (is_present (key_validity keys) i)) ∙ both-told (is_present (key_validity keys) i)
    true (f (key_at keys i)) told
entries-told keys (Some bits) f i low told =
    get_or-map-range_with_len (names_present keys (Some bits)) 0 (key_count keys) i i false low
    (omega arith)
    ∙ both-told (is_present (key_validity keys) i) (is_present (Some bits) (key_at keys i))
    (f (key_at keys i)) told

-- the entry that a good present key names exists
named : (n : ℕ) (at : Option ℕ) → IsEntry n at → place_or_zero at < n
named n (Some at) is = is
named n None is = absurd is

-- bit i of presence is set exactly if row i is not Null
pub presence-told : (x : AnyArray) (i : ℕ) → IsGood x → i < len_of x → is_present (presence_of x) i
    ≡ not (is_null (row x i))
presence-told (Null a) i good low = none_there a i
presence-told (Boolean a) i good low =
    under_told a.validity _ i (slot_there Truth (λ x. refl) a.values i low)
presence-told (Int8 a) i good low = under_told a.validity _ i (number_there _ a.values i low)
presence-told (Int16 a) i good low = under_told a.validity _ i (number_there _ a.values i low)
presence-told (Int32 a) i good low = under_told a.validity _ i (number_there _ a.values i low)
presence-told (Int64 a) i good low = under_told a.validity _ i (number_there _ a.values i low)
presence-told (Int128 a) i good low = under_told a.validity _ i (number_there _ a.values i low)
presence-told (UInt8 a) i good low = under_told a.validity _ i (number_there _ a.values i low)
presence-told (UInt16 a) i good low = under_told a.validity _ i (number_there _ a.values i low)
presence-told (UInt32 a) i good low = under_told a.validity _ i (number_there _ a.values i low)
presence-told (UInt64 a) i good low = under_told a.validity _ i (number_there _ a.values i low)
presence-told (UInt128 a) i good low = under_told a.validity _ i (number_there _ a.values i low)
presence-told (Binary a) i good low =
    under_told a.validity _ i (between_there _ a.offsets a.values i low)
presence-told (LargeBinary a) i good low =
    under_told a.validity _ i (between_there _ a.offsets a.values i low)
presence-told (Utf8 a) i good low =
    under_told a.validity _ i (between_there _ a.offsets a.values i low)
presence-told (LargeUtf8 a) i good low =
    under_told a.validity _ i (between_there _ a.offsets a.values i low)
presence-told (BinaryView a) i good low =
    under_told a.validity _ i (views_there a.buffers a.views i low)
presence-told (Utf8View a) i good low =
    under_told a.validity _ i (views_there a.buffers a.views i low)
presence-told (FixedSizeBinary a) i good low =
    under_told a.validity _ i (sized_there a.size a.count a.values i low)
presence-told (List' offsets p values validity) i good low =
    kept_told (is_present validity i) _ refl
presence-told (FixedSizeList' width len p values validity) i good low =
    kept_told (is_present validity i) _ refl
presence-told (Struct' fields len p values validity) i good low =
    kept_told (is_present validity i) _ refl
presence-told (Dictionary' keys p values) i good low =
    entries-told keys (presence_of values) (row values) i low
    (λ here. presence-told values (key_at keys i) good.1
    (named (len_of values) (place_at (key_places keys) i) (good.0.named i low here)))

-- the row of a key is the entry itself, if the row is not Null
kept-entry : (here there : Bool) (x : Row) → there ≡ not (is_null (kept here (entry_row x)))
    → kept here (entry_row x) ≡ kept there (Entry x)
kept-entry false there x told = rw told refl
kept-entry true there Missing told = rw told refl
kept-entry true there (Int n) told = rw told refl
kept-entry true there (Truth b) told = rw told refl
kept-entry true there (Bytes xs) told = rw told refl
kept-entry true there (Rows xs) told = rw told refl
kept-entry true there (Fields xs) told = rw told refl
kept-entry true there (Entry x) told = rw told refl

-- row i of a dictionary is the entry that its key names if the row is present, else Null
pub dictionary-row : (a : DictionaryArray) (i : ℕ) → IsGood (Dictionary a)
    → i < key_count (dictionary_keys a) → row (Dictionary a) i
    ≡ kept (is_present (mask_of (Dictionary a)) i)
    (Entry (row (dictionary_values a) (key_at (dictionary_keys a) i)))
dictionary-row a i good low =
    kept-entry (is_present (key_validity (dictionary_keys a)) i)
    (is_present (mask_of (Dictionary a)) i)
    (row (dictionary_values a) (key_at (dictionary_keys a) i))
    (presence-told (Dictionary a) i good low)

-- the mask differs from the bits of presence for null arrays only
pub mask-presence : (x : AnyArray) → NullKind ≢ type_of x → mask_of x ≡ presence_of x
mask-presence (Null a) other = absurd (other refl)
mask-presence _ other = refl
