use Rattle.std.proofs.Common.{◌≡◌, ◌<◌, length, ap, sym, arith, subst}
use Rattle.std.specs.Prelude.{slice_index}
use Rattle.json_changes.specs.Texts.{rules_view}
use Rattle.document_rows.specs.Tables.{IsOtherDocument}
use Rattle.document_rows.proofs.PairLemmas.{all_looked_at, changed_named, kinds_of, one_other, one_same}
use Rattle.document_rows.proofs.pairs.differing_pairs.Goals.{then-branch+in_ok-push, else-branch}
use Rattle.document_rows.proofs.pairs.differing_pairs.Goals as goal

pub is_other_pair-requires-clause-place : goal.is_other_pair-requires-clause-place
is_other_pair-requires-clause-place c =
    let i = c.loop-place.place-index in
    let cmp = c.args.comparison.now in
    let at : slice_index c.deref-place-items.result.now c.loop-place.place-index ≡ slice_index c.args.comparison.now.changed.items c.loop-place.place-index =
    ap (λ l. slice_index l c.loop-place.place-index) c.deref-place-items.ensures.value in
    let inside : i < length cmp.changed.items = omega (arith, c.loop-place-test.true, ap length c.deref-place-items.ensures.value) in
    let rows = changed_named c.requires.comparison.0 c.args.left.now c.args.right.now cmp c.requires.comparison.1 i inside in
    omega (arith, at, rows.left_place)

pub loop-place-preserved : goal.loop-place-preserved
loop-place-preserved c =
    let i = c.loop-place.place-index in
    let cmp = c.args.comparison.now in
    let found = c.loop-place.differing.items in
    let at : slice_index c.deref-place-items.result.now c.loop-place.place-index ≡ slice_index c.args.comparison.now.changed.items c.loop-place.place-index =
    ap (λ l. slice_index l c.loop-place.place-index) c.deref-place-items.ensures.value in
    let inside : i < length cmp.changed.items = omega (arith, c.loop-place-test.true, ap length c.deref-place-items.ensures.value) in
    let kinds = kinds_of (rules_view c.args.rules.now) c.requires.comparison.0 c.args.left.now c.args.right.now cmp c.requires.left c.requires.right c.requires.comparison.1 in
    let told = c.in_ok-is_other_pair.ensures in
    elim c.if-branch.branch [
      | then-branch+in_ok-push w ↦
          let other = subst (IsOtherDocument (rules_view c.args.rules.now) c.args.left.now c.args.right.now cmp.matching.left_rows.items cmp.matching.right_rows.items) at (told.0 w.if-branch.true) in
          rw (w.differing-is, w.in_ok-push.ensures.items, at) (one_other kinds i found c.loop-place.invariant inside other)
      | else-branch w ↦
          rw w.differing-is (one_same kinds i found c.loop-place.invariant inside (λ other.
          let on = told.1 (subst (IsOtherDocument (rules_view c.args.rules.now) c.args.left.now c.args.right.now cmp.matching.left_rows.items cmp.matching.right_rows.items) (sym at) other) in
          let off = w.if-branch.false in
          absurd (cc)))
    ]

pub returns : goal.returns
returns c =
    let cmp = c.args.comparison.now in
    let kinds = kinds_of (rules_view c.args.rules.now) c.requires.comparison.0 c.args.left.now c.args.right.now cmp c.requires.left c.requires.right c.requires.comparison.1 in
    all_looked_at kinds c.loop-place.place-index c.loop-place.differing.items c.loop-place.invariant (omega (arith, c.loop-place-test.false, ap length c.deref-place-items.ensures.value))
