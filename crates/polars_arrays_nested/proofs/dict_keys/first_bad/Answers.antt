use Rattle.std.proofs.Common.{◌≡◌, arith, inl, inr, refl, subst, sym}
use Rattle.std.proofs.lemmas.Bool.{cases_lt, false≢true}
use Rattle.polars_arrays_bytes.specs.OffsetStrings.{places}
use Rattle.polars_arrays_nested.specs.DictKeys.{IsGoodKey}
use Rattle.polars_arrays_nested.proofs.Lengths.{length-numbers}
use Rattle.polars_arrays_nested.proofs.Places.{length-places}
use Rattle.polars_arrays_nested.proofs.dict_keys.first_bad.Goals as goal

pub loop-row-preserved : goal.loop-row-preserved
loop-row-preserved g c =
    λ k low. elim (cases_lt k c.loop-row.row) [
      | inl less ↦ c.loop-row.invariant k less
      | inr past ↦
          let e : k ≡ c.loop-row.row = omega (arith, low, past) in
          subst (IsGoodKey c.args.n c.args.keys.now.validity (places g.K.Number.value c.args.keys.now.values)) (sym e) (c.if-not-is_good_key.ensures.0 refl)
    ]

pub returns : goal.returns
returns g c =
    λ i low. c.loop-row.invariant i (omega (arith, low, c.loop-row-test.false, c.len-row-end.ensures, length-numbers g.K.Number.value c.args.keys.now.values, length-places g.K.Number.value c.args.keys.now.values))

pub returns-then-not-is_good_key : goal.returns-then-not-is_good_key
returns-then-not-is_good_key g c = record {
  within = omega (arith, c.loop-row-test.true, c.len-row-end.ensures, length-numbers g.K.Number.value c.args.keys.now.values, length-places g.K.Number.value c.args.keys.now.values);
  bad = λ good. false≢true (c.if-not-is_good_key.ensures.1 good);
  before = c.loop-row.invariant;
}
