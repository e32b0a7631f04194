use Rattle.std.proofs.Common.{◌≡◌, ◌∙◌, ℕ, List, length, refl, ap, sym, subst}
use Rattle.polars_arrays_flat.specs.Validity.{HasBits}
use Rattle.polars_arrays_bytes.specs.Faults.{IsFirstBad}
use Rattle.polars_arrays_bytes.specs.OffsetStrings.{AreGood, places, row_count}
use Rattle.polars_arrays_bytes.proofs.OffsetWindows.{bad_not_good, told_not}
use Rattle.polars_arrays_bytes.proofs.binary.BinaryArray.try_new.Goals as goal

-- the rows that were counted are those of the offsets
counted : {A : Type 0} (n : ℕ) (read offsets : List A) → n ≡ row_count read → read ≡ offsets → n ≡ row_count offsets
counted n read offsets count same = count ∙ ap (λ (xs : List _). row_count xs) same

-- what was found of the parts that were read is so of the parts
moved : {A : Type 0} (P : ℕ → List A → Type 0) (m n : ℕ) (read offsets : List A) → m ≡ n → read ≡ offsets → P m read → P n offsets
moved P m n read offsets long same holds = subst (P n) same (subst (λ (k : ℕ). P k read) long holds)

pub returns-then-not-has_bits-clause-made : goal.returns-then-not-has_bits-clause-made
returns-then-not-has_bits-clause-made g c =
    λ bounded. told_not c.if-not-has_bits.ensures.1 (subst (λ (k : ℕ). HasBits k c.args.validity) (sym (counted c.row_count.result c.as_slice.result.now c.args.offsets.items c.row_count.ensures c.as_slice.ensures)) bounded.bits)

pub returns-then-not-has_bits-clause-refused : goal.returns-then-not-has_bits-clause-refused
returns-then-not-has_bits-clause-refused g c =
    λ bits. told_not c.if-not-has_bits.ensures.1 (subst (λ (k : ℕ). HasBits k c.args.validity) (sym (counted c.row_count.result c.as_slice.result.now c.args.offsets.items c.row_count.ensures c.as_slice.ensures)) bits)

pub invariant_of-result : goal.invariant_of-result
invariant_of-result g c = record {
  bits = subst (λ (k : ℕ). HasBits k c.args.validity) (counted c.row_count.result c.as_slice.result.now c.args.offsets.items c.row_count.ensures c.as_slice.ensures) (c.if-not-has_bits.ensures.0 refl);
  good = moved (λ (k : ℕ) (xs : List _). AreGood k (places g.O.Number.value xs)) c.len.result (length c.args.values.items) c.as_slice-2.result.now c.args.offsets.items c.len.ensures c.as_slice-2.ensures c.in-None.ensures;
}

pub returns-in-Some-clause-made : goal.returns-in-Some-clause-made
returns-in-Some-clause-made g c =
    λ bounded. bad_not_good (length c.args.values.items) (places g.O.Number.value c.args.offsets.items) c.in-Some.row (moved (λ (k : ℕ) (xs : List _). IsFirstBad k (places g.O.Number.value xs) c.in-Some.row) c.len.result (length c.args.values.items) c.as_slice-2.result.now c.args.offsets.items c.len.ensures c.as_slice-2.ensures c.in-Some.ensures) bounded.good

pub returns-in-Some-clause-refused : goal.returns-in-Some-clause-refused
returns-in-Some-clause-refused g c = (
  subst (λ (k : ℕ). HasBits k c.args.validity) (counted c.row_count.result c.as_slice.result.now c.args.offsets.items c.row_count.ensures c.as_slice.ensures) (c.if-not-has_bits.ensures.0 refl),
  moved (λ (k : ℕ) (xs : List _). IsFirstBad k (places g.O.Number.value xs) c.in-Some.row) c.len.result (length c.args.values.items) c.as_slice-2.result.now c.args.offsets.items c.len.ensures c.as_slice-2.ensures c.in-Some.ensures,
)

pub returns-in-None-clause-made : goal.returns-in-None-clause-made
returns-in-None-clause-made g c = (invariant_of-result g c, refl)

pub returns-in-None-clause-rows : goal.returns-in-None-clause-rows
returns-in-None-clause-rows g c = refl
