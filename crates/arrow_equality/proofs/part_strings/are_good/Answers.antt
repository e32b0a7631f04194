use Rattle.std.proofs.Common.{◌≡◌, ℕ, ◌+◌, false, arith, sym, subst, ◌∙◌}
use Rattle.std.specs.Prelude.{Option, Some, None}
use Rattle.std.specs.Option.{MatchOption, is_some}
use Rattle.std.proofs.lemmas.Bool.{leb-true}
use Rattle.polars_arrays_bytes.specs.OffsetStrings.{AreGood, places}
use Rattle.polars_arrays_bytes.proofs.OffsetWindows.{place_read}
use Rattle.arrow_equality.proofs.LentPlaces.{lent-good, lent-some-good}
use Rattle.arrow_equality.proofs.part_strings.are_good.Goals as goal

-- an answer that was none
none-bad : (P : Type 0) (Q : ℕ → Type 0) (r : Option ℕ) → is_some r ≡ false → MatchOption r P Q → P
none-bad P Q (Some x) is told = cc
none-bad P Q None is told = told

pub returns : goal.returns
returns g c above =
    let all = places g.O.Number.value c.args.offsets.now in
    let end : c.in-Some.end ≡ c.args.base + c.args.n = omega (arith, c.in-Some.ensures) in
    let good : AreGood (c.args.base + c.args.n) all = subst (λ (m : ℕ). AreGood m all) end (none-bad _ _ c.first_bad_row.result (sym c.is_some.ensures ∙ c.if-is_some.false) c.first_bad_row.ensures) in
    let some = lent-some-good g.O.Number.value _ c.args.offsets.now good in
    let start = place_read g.O.Number.value c.args.offsets.now 0 _ c.index-offsets-0.is some ∙ c.place.ensures in
    lent-good c.args.base c.args.n c.place.result all good start (leb-true c.args.base c.place.result above)
