-- Arrays of byte strings that stand for columns of views.
use Rattle.std.proofs.Common.{◌≡◌, ℕ, ◌≤◌, ◌<◌, ℤ, Bool, true, false, List, [], length, refl, sym, ap, ◌∙◌, inl, inr, arith}
use Rattle.std.specs.Prelude.{Option}
use Rattle.std.proofs.lemmas.Bool.{cases_lt}
use Rattle.std.proofs.lemmas.List.{get_or-map, get_or_past, length-map}
use Rattle.std.proofs.lemmas.List.FromFn.{get_or-map-range_with_len, length-map-range_with_len}
use Rattle.polars_arrays_bytes.specs.OffsetStrings.{OffsetStrings, offset_rows, places, row_count, string_between, strings_between}
use Rattle.polars_arrays_bytes.specs.SizedStrings.{sized_string, sized_strings}
use Rattle.polars_arrays_flat.specs.Row.{Row, Bytes}
use Rattle.polars_arrays_flat.specs.Row.{Null as Missing}
use Rattle.polars_arrays_flat.specs.StoredRows.{byte_slots, kept}
use Rattle.polars_arrays_flat.specs.StoredRows.{row as row_at}
use Rattle.polars_arrays_flat.specs.Validity.{is_present}
use Rattle.polars_arrays_nested.specs.declared.any_array.AnyArray as of
use Rattle.polars_arrays_numbers.specs.Naturals.{natural_of}
use Rattle.polars_arrays_views.specs.Parts.{strings_of}
use Rattle.polars_arrays_views.specs.Views.{row_bytes}
use Rattle.arrow_parts.specs.Lent.{buffers_in, present_in}
use Rattle.arrow_parts.specs.declared.part.Part.{Part}
use Rattle.arrow_parts.specs.declared.part.PartKind.TheVariants as kind
use Rattle.arrow_arrays.proofs.MaskedRows.{row-under}
use Rattle.arrow_arrays.specs.Views.{AreGathered, bytes_if, has_row, viewed_row}

kept-same : (b : Bool) (x y : Row) → (b ≡ true → x ≡ y) → kept b x ≡ kept b y
kept-same true x y same = same refl
kept-same false x y same = refl

-- the strings that views lead to
length-viewed : (p : Part) → length (strings_of (buffers_in p) (sized_strings 16 p.rows p.u8s.now)) ≡ p.rows
length-viewed p =
    length-map (sized_strings 16 p.rows p.u8s.now) (row_bytes (buffers_in p))
    ∙ length-map-range_with_len (sized_string 16 p.u8s.now) 0 p.rows

viewed-at : (p : Part) (i : ℕ) → i < p.rows → row_at (byte_slots (strings_of (buffers_in p) (sized_strings 16 p.rows p.u8s.now))) i ≡ Bytes (viewed_row p i)
viewed-at p i low =
    let views = sized_strings 16 p.rows p.u8s.now in
    let strings = strings_of (buffers_in p) views in
    let many : length views ≡ p.rows = length-map-range_with_len (sized_string 16 p.u8s.now) 0 p.rows in
    let all : length strings ≡ p.rows = length-viewed p in
    get_or-map (λ bytes. Bytes bytes) strings i [] Missing (omega (arith, all, low))
    ∙ ap (λ bytes. Bytes bytes) (get_or-map (row_bytes (buffers_in p)) views i [] [] (omega (arith, many, low)))
    ∙ ap (λ view. Bytes (row_bytes (buffers_in p) view)) (get_or-map-range_with_len (sized_string 16 p.u8s.now) 0 p.rows i i [] low (omega arith))

-- the strings between places
between-at : (all : List (Option ℕ)) (bytes : List ℕ) (n i : ℕ) → row_count all ≡ n → i < n → row_at (byte_slots (strings_between all bytes)) i ≡ Bytes (string_between all bytes i)
between-at all bytes n i rows low =
    let strings = strings_between all bytes in
    let long : length strings ≡ row_count all = length-map-range_with_len (string_between all bytes) 0 (row_count all) in
    get_or-map (λ string. Bytes string) strings i [] Missing (omega (arith, long, rows, low))
    ∙ ap (λ string. Bytes string) (get_or-map-range_with_len (string_between all bytes) 0 (row_count all) i i [] (omega (arith, rows, low)) (omega arith))

slots-past : (strings : List (List ℕ)) (n i : ℕ) → length strings ≡ n → n ≤ i → row_at (byte_slots strings) i ≡ Missing
slots-past strings n i long past =
    get_or_past (byte_slots strings) i Missing (omega (arith, length-map strings (λ string. Bytes string), long, past))

-- gathered rows are those that views lead to, where these are present
gathered-at : (p : Part) (all : List (Option ℕ)) (bytes : List ℕ) → AreGathered p p.rows all bytes → (i : ℕ) → kept (has_row p i) (row_at (byte_slots (strings_between all bytes)) i) ≡ kept (has_row p i) (row_at (byte_slots (strings_of (buffers_in p) (sized_strings 16 p.rows p.u8s.now))) i)
gathered-at p all bytes are i =
    let rows : row_count all ≡ p.rows = omega (arith, are.count) in
    let long : length (strings_between all bytes) ≡ p.rows = length-map-range_with_len (string_between all bytes) 0 (row_count all) ∙ rows in
    kept-same (has_row p i) (row_at (byte_slots (strings_between all bytes)) i) (row_at (byte_slots (strings_of (buffers_in p) (sized_strings 16 p.rows p.u8s.now))) i)
    (λ present. elim (cases_lt i p.rows) [
      | inl low ↦
          between-at all bytes p.rows i rows low
          ∙ ap (λ string. Bytes string) (are.each i low ∙ ap (λ b. bytes_if b (viewed_row p i)) present)
          ∙ sym (viewed-at p i low)
      | inr past ↦
          slots-past (strings_between all bytes) p.rows i long past
          ∙ sym (slots-past (strings_of (buffers_in p) (sized_strings 16 p.rows p.u8s.now)) p.rows i (length-viewed p) past)
    ])

pub gathered-count : (p : Part) (a : OffsetStrings ℤ) → AreGathered p p.rows (places (λ x. x) a.offsets) a.values → row_count a.offsets ≡ p.rows
gathered-count p a are =
    let long : length (places (λ x. x) a.offsets) ≡ length a.offsets = length-map a.offsets (λ x. natural_of x) in
    omega (arith, long, are.count)

pub gathered-rows : (p : Part) (a : OffsetStrings ℤ) → AreGathered p p.rows (places (λ x. x) a.offsets) a.values → a.validity ≡ present_in p → (i : ℕ) → row_at (offset_rows (λ x. x) a) i ≡ kept (has_row p i) (row_at (byte_slots (strings_of (buffers_in p) (sized_strings 16 p.rows p.u8s.now))) i)
gathered-rows p a are mask i =
    let slots = byte_slots (strings_between (places (λ x. x) a.offsets) a.values) in
    row-under a.validity slots i
    ∙ ap (λ v. kept (is_present v i) (row_at slots i)) mask
    ∙ gathered-at p (places (λ x. x) a.offsets) a.values are i
