-- Slots of parts, and what refuses them.
use Rattle.std.proofs.Common.{◌≡◌, ◌≢◌, ℕ, zero, suc, ◌+◌, ◌-◌, ◌*◌, ◌<◌, ◌≤◌, ℤ, Bool, List, [], ◌∷◌, length, map, refl, sym, ap, subst, ◌∙◌, arith}
use Rattle.std.specs.List.{All}
use Rattle.std.specs.Prelude.{Option, Some, None}
use Rattle.std.specs.Str.{IsUtf8}
use Rattle.std.proofs.lemmas.List.{length-map}
use Rattle.std.proofs.lemmas.List.Elements.{All-from_get_or}
use Rattle.std.proofs.lemmas.List.FromFn.{length-map-range_with_len}
use Rattle.polars_arrays_bytes.specs.OffsetStrings.{AreBounded, AreGood, Bounds, IsWithin, OffsetStrings, place_at, places, row_count, strings_between}
use Rattle.polars_arrays_bytes.specs.SizedStrings.{IsSized}
use Rattle.polars_arrays_bytes.specs.Texts.{AreTextParts}
use Rattle.polars_arrays_flat.specs.Validity.{HasBits}
use Rattle.polars_arrays_numbers.specs.Naturals.{natural_of}
use Rattle.arrow_parts.specs.ByteBits.{HoldBits, byte_bit, presence}
use Rattle.arrow_parts.specs.Lent.{present_in, signed_wide}
use Rattle.arrow_parts.specs.Refusals.{IsHonest}
use Rattle.arrow_parts.specs.declared.part.Part.{Part}
use Rattle.arrow_parts.specs.declared.refused.Refused.{Refused}
use Rattle.arrow_arrays.proofs.Honest.{honest-more}
use Rattle.arrow_arrays.specs.Good.{AreNumbers, ArePlaced, AreRows, AreSized, AreTextRows, AreTruths, GoodStrings, HoldRows}

-- ---- validity

presence-bits : (at n : ℕ) (bytes : List ℕ) → HasBits n (presence at n bytes)
presence-bits at n [] = tt
presence-bits at n (byte ∷ bytes) =
    length-map-range_with_len (λ i. byte_bit (byte ∷ bytes) (at + i)) 0 n

-- there is a bit for each of a part's rows
pub rows-bits : (p : Part) (n : ℕ) (validity : Option (List Bool)) → n ≡ p.rows → validity ≡ present_in p → HasBits n validity
rows-bits p n validity count mask =
    subst (HasBits n) (sym mask) (subst (λ m. HasBits m (present_in p)) (sym count) (presence-bits p.first_bit p.rows p.present.now))

-- ---- numbers and truth values

pub numbers-size : (p : Part) (n : ℕ) → ¬ (n ≡ p.rows) → ¬ (AreNumbers p n)
numbers-size p n other are = other are.count

pub numbers-present : (p : Part) (n : ℕ) (r : Refused) → IsHonest (HoldRows p) r → IsHonest (AreNumbers p n) r
numbers-present p n r honest = honest-more (HoldRows p) (AreNumbers p n) r honest (λ are. are.present)

pub truths-present : (p : Part) (r : Refused) → IsHonest (HoldRows p) r → IsHonest (AreTruths p) r
truths-present p r honest = honest-more (HoldRows p) (AreTruths p) r honest (λ are. are.present)

pub truths-values : (p : Part) (r : Refused) → IsHonest (HoldBits p.first_bit p.rows p.u8s.now) r → IsHonest (AreTruths p) r
truths-values p r honest =
    honest-more (HoldBits p.first_bit p.rows p.u8s.now) (AreTruths p) r honest (λ are. are.values)

-- ---- places

end-there : (n : ℕ) (from to : Option ℕ) → Bounds n from to → to ≢ None
end-there n None to bounds = absurd bounds
end-there n (Some from) None bounds = absurd bounds
end-there n (Some from) (Some to) bounds = λ none. cc

first-there : (n : ℕ) (place : Option ℕ) → IsWithin n place → place ≢ None
first-there n None within = absurd within
first-there n (Some at) within = λ none. cc

place-there : (n : ℕ) (all : List (Option ℕ)) (i : ℕ) → AreGood n all → i < length all → place_at all i ≢ None
place-there n all zero good low = first-there n (place_at all 0) good.first
place-there n all (suc i) good low =
    let next : i + 1 ≡ suc i = omega arith in
    subst (λ k. place_at all k ≢ None) next (end-there n (place_at all i) (place_at all (i + 1)) (good.rows i (omega (arith, low))))

-- good places are places
pub good-placed : (p : Part) (n : ℕ) (all : List (Option ℕ)) → AreRows p n all → ArePlaced p.rows all
good-placed p n all are = record {
  count = are.count;
  placed = All-from_get_or (λ place. place ≢ None) all None (λ i low. place-there n all i are.good low);
}

pub placed-from : (rows : ℕ) (all : List (Option ℕ)) (r : Refused) → IsHonest (All (λ place. place ≢ None) all) r → IsHonest (ArePlaced rows all) r
placed-from rows all r honest =
    honest-more (All (λ place. place ≢ None) all) (ArePlaced rows all) r honest (λ are. are.placed)

places-count : (ends : List ℤ) (all : List (Option ℕ)) → places (λ x. x) ends ≡ all → row_count all ≡ row_count ends
places-count ends all same =
    ap (λ xs. length xs - 1) (sym same) ∙ ap (λ n. n - 1) (length-map ends (λ x. natural_of x))

pub placed-count : (rows : ℕ) (ends : List ℤ) (all : List (Option ℕ)) → places (λ x. x) ends ≡ all → ¬ (length ends - 1 ≡ rows) → ¬ (ArePlaced rows all)
placed-count rows ends all same other are = other (sym (places-count ends all same) ∙ are.count)

-- ---- byte strings

pub rows-present : (p : Part) (n : ℕ) (all : List (Option ℕ)) (r : Refused) → IsHonest (HoldRows p) r → IsHonest (AreRows p n all) r
rows-present p n all r honest = honest-more (HoldRows p) (AreRows p n all) r honest (λ are. are.present)

pub rows-placed : (p : Part) (n : ℕ) (all : List (Option ℕ)) (r : Refused) → IsHonest (ArePlaced p.rows all) r → IsHonest (AreRows p n all) r
rows-placed p n all r honest =
    honest-more (ArePlaced p.rows all) (AreRows p n all) r honest (good-placed p n all)

pub texts-present : (p : Part) (all : List (Option ℕ)) (r : Refused) → IsHonest (HoldRows p) r → IsHonest (AreTextRows p all) r
texts-present p all r honest =
    honest-more (HoldRows p) (AreTextRows p all) r honest (λ are. are.rows.present)

pub texts-placed : (p : Part) (all : List (Option ℕ)) (r : Refused) → IsHonest (ArePlaced p.rows all) r → IsHonest (AreTextRows p all) r
texts-placed p all r honest =
    honest-more (ArePlaced p.rows all) (AreTextRows p all) r honest (λ are. good-placed p (length p.u8s.now) all are.rows)

pub sized-present : (p : Part) (n : ℕ) (r : Refused) → IsHonest (HoldRows p) r → IsHonest (AreSized p n) r
sized-present p n r honest = honest-more (HoldRows p) (AreSized p n) r honest (λ are. are.present)

-- what is copied from a part
pub record AreCopied (p : Part) (all : List (Option ℕ)) (a : OffsetStrings ℤ) : Type 0 where
  pub present : HoldRows p
  pub mask : a.validity ≡ present_in p
  pub count : row_count a.offsets ≡ p.rows
  pub ends : places (λ x. x) a.offsets ≡ all
  pub stored : a.values ≡ p.u8s.now

-- the parts of an array are good exactly where those that are lent are
pub strings-good : (p : Part) (all : List (Option ℕ)) (a : OffsetStrings ℤ) → AreCopied p all a → AreBounded (λ x. x) a → GoodStrings all p
strings-good p all a are bounded = record {
  present = are.present;
  count = places-count a.offsets all are.ends ∙ are.count;
  good = subst (λ n. AreGood n all) (ap length are.stored) (subst (AreGood (length a.values)) are.ends bounded.good);
}

pub strings-bounded : (p : Part) (all : List (Option ℕ)) (a : OffsetStrings ℤ) → AreCopied p all a → GoodStrings all p → AreBounded (λ x. x) a
strings-bounded p all a are good = record {
  bits = rows-bits p (row_count a.offsets) a.validity are.count are.mask;
  good = subst (AreGood (length a.values)) (sym are.ends) (subst (λ n. AreGood n all) (sym (ap length are.stored)) good.good);
}

same-strings : (p : Part) (all : List (Option ℕ)) (a : OffsetStrings ℤ) → AreCopied p all a → strings_between (places (λ x. x) a.offsets) a.values ≡ strings_between all p.u8s.now
same-strings p all a are =
    ap (λ xs. strings_between xs a.values) are.ends ∙ ap (strings_between all) are.stored

pub texts-good : (p : Part) (all : List (Option ℕ)) (a : OffsetStrings ℤ) → AreCopied p all a → AreTextParts (λ x. x) a → AreTextRows p all
texts-good p all a are parts = record {
  rows = strings-good p all a are parts.bounded;
  texts = subst (All IsUtf8) (same-strings p all a are) parts.texts;
}

pub texts-bounded : (p : Part) (all : List (Option ℕ)) (a : OffsetStrings ℤ) → AreCopied p all a → AreTextRows p all → AreTextParts (λ x. x) a
texts-bounded p all a are good = record {
  bounded = strings-bounded p all a are good.rows;
  texts = subst (All IsUtf8) (sym (same-strings p all a are)) good.texts;
}

pub sized-good : (p : Part) (values : List ℕ) (validity : Option (List Bool)) → values ≡ p.u8s.now → HoldRows p → IsSized p.width p.rows values validity → AreSized p (length p.u8s.now)
sized-good p values validity stored present sized = record {
  present = present;
  size = ap length (sym stored) ∙ sized.bytes;
}

pub sized-bounded : (p : Part) (values : List ℕ) (validity : Option (List Bool)) → values ≡ p.u8s.now → validity ≡ present_in p → AreSized p (length p.u8s.now) → IsSized p.width p.rows values validity
sized-bounded p values validity stored mask good = record {
  bits = rows-bits p p.rows validity refl mask;
  bytes = ap length stored ∙ good.size;
}

pub wide-honest : (p : Part) (xs : List ℕ) (r : Refused) → IsHonest (AreNumbers p (length (map signed_wide xs))) r → IsHonest (AreNumbers p (length xs)) r
wide-honest p xs r = subst (λ n. IsHonest (AreNumbers p n) r) (length-map xs signed_wide)

pub ruleset refusals = (numbers-size, numbers-present, truths-present, truths-values, placed-from, placed-count, rows-present, rows-placed, texts-present, texts-placed, sized-present, sized-good, wide-honest)
