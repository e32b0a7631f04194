-- Gathered rows make arrays of byte strings.
use Rattle.std.proofs.Common.{◌≡◌, ℕ, ◌+◌, ◌*◌, ◌<◌, ℤ, Bool, true, false, List, [], ◌∷◌, length, get_or, refl, sym, ap, subst, ◌∙◌, arith}
use Rattle.std.specs.Str.{IsUtf8}
use Rattle.std.proofs.lemmas.List.{length-map}
use Rattle.std.proofs.lemmas.List.Elements.{All-from_get_or, All-get_or}
use Rattle.std.proofs.lemmas.List.FromFn.{get_or-map-range_with_len, length-map-range_with_len}
use Rattle.std.proofs.lemmas.Str.{IsUtf8-nil}
use Rattle.polars_arrays_bytes.specs.OffsetStrings.{AreBounded, OffsetStrings, places, row_count, string_between, strings_between}
use Rattle.polars_arrays_bytes.specs.Texts.{AreTextParts}
use Rattle.polars_arrays_numbers.specs.Naturals.{natural_of}
use Rattle.arrow_parts.specs.ByteBits.{HoldPresence}
use Rattle.arrow_parts.specs.Lent.{present_in}
use Rattle.arrow_parts.specs.Refusals.{IsHonest}
use Rattle.arrow_parts.specs.declared.part.Part.{Part}
use Rattle.arrow_parts.specs.declared.refused.Refused.{Refused}
use Rattle.arrow_arrays.proofs.Honest.{honest-more}
use Rattle.arrow_arrays.proofs.SlotLemmas.{rows-bits}
use Rattle.arrow_arrays.specs.Views.{AllLead, AreGathered, AreTextViews, AreViews, bytes_if, has_row, viewed_row}

-- gathered rows are good offsets into their bytes, with a bit for each row
pub gathered-bounded : (p : Part) (a : OffsetStrings ℤ) → AreGathered p p.rows (places (λ x. x) a.offsets) a.values → a.validity ≡ present_in p → AreBounded (λ x. x) a
gathered-bounded p a are mask =
    let long : length (places (λ x. x) a.offsets) ≡ length a.offsets = length-map a.offsets (λ x. natural_of x) in
    let rows : p.rows ≡ row_count a.offsets = omega (arith, long, are.count) in
    record {
      bits = rows-bits p (row_count a.offsets) a.validity (sym rows) mask;
      good = are.good;
    }

text-if : (b : Bool) (bytes : List ℕ) → (b ≡ true → IsUtf8 bytes) → IsUtf8 (bytes_if b bytes)
text-if true bytes text = text refl
text-if false bytes text = IsUtf8-nil

-- and texts, where the present rows are
pub gathered-texts : (p : Part) (a : OffsetStrings ℤ) → AreGathered p p.rows (places (λ x. x) a.offsets) a.values → a.validity ≡ present_in p → AreTextViews p → AreTextParts (λ x. x) a
gathered-texts p a are mask texts =
    let all = places (λ x. x) a.offsets in
    let count : row_count all ≡ p.rows = omega (arith, are.count) in
    let long : length (strings_between all a.values) ≡ row_count all = length-map-range_with_len (string_between all a.values) 0 (row_count all) in
    record {
      bounded = gathered-bounded p a are mask;
      texts = All-from_get_or IsUtf8 (strings_between all a.values) [] (λ i low.
          let within : i < p.rows = omega (arith, low, long, count) in
          let string : bytes_if (has_row p i) (viewed_row p i) ≡ get_or (strings_between all a.values) i [] = sym (get_or-map-range_with_len (string_between all a.values) 0 (row_count all) i i [] (omega (arith, within, count)) (omega arith) ∙ are.each i within) in
          subst IsUtf8 string (text-if (has_row p i) (viewed_row p i) (texts.texts i within)));
    }

-- what is gathered as texts is a text where it is present
pub viewed-texts : (p : Part) (a : OffsetStrings ℤ) → AreViews p → AreGathered p p.rows (places (λ x. x) a.offsets) a.values → AreTextParts (λ x. x) a → AreTextViews p
viewed-texts p a views are parts =
    let all = places (λ x. x) a.offsets in
    let count : row_count all ≡ p.rows = omega (arith, are.count) in
    let long : length (strings_between all a.values) ≡ row_count all = length-map-range_with_len (string_between all a.values) 0 (row_count all) in
    record {
      views = views;
      texts = λ i low present.
          let text : IsUtf8 (get_or (strings_between all a.values) i []) = All-get_or IsUtf8 (strings_between all a.values) i [] (omega (arith, low, long, count)) parts.texts in
          let string : get_or (strings_between all a.values) i [] ≡ bytes_if (has_row p i) (viewed_row p i) = get_or-map-range_with_len (string_between all a.values) 0 (row_count all) i i [] (omega (arith, low, count)) (omega arith) ∙ are.each i low in
          subst IsUtf8 (ap (λ b. bytes_if b (viewed_row p i)) present) (subst IsUtf8 string text);
    }

-- ---- refusals

pub size-refused : (p : Part) → ¬ (length p.u8s.now ≡ 16 * p.rows) → ¬ (AreViews p)
size-refused p other views = other views.size

pub presence-refused : (p : Part) (r : Refused) → IsHonest (HoldPresence p.first_bit p.rows p.present.now) r → IsHonest (AreViews p) r
presence-refused p r honest =
    honest-more (HoldPresence p.first_bit p.rows p.present.now) (AreViews p) r honest (λ views. views.present)

pub rows-refused : (p : Part) (r : Refused) → IsHonest (AllLead p p.rows) r → IsHonest (AreViews p) r
rows-refused p r honest =
    honest-more (AllLead p p.rows) (AreViews p) r honest (λ views. views.rows)

pub texts-refused : (p : Part) (r : Refused) → IsHonest (AreViews p) r → IsHonest (AreTextViews p) r
texts-refused p r honest = honest-more (AreViews p) (AreTextViews p) r honest (λ texts. texts.views)

pub ruleset arrays = (size-refused, presence-refused, rows-refused, texts-refused)
