use Rattle.std.proofs.Common.{◌≡◌, ◌<◌, ◌*◌, ◌+◌, ◌-◌, arith, length, subst}
use Rattle.std.specs.Prelude.{slice_index}
use Rattle.polars_arrays_bytes.specs.OffsetStrings.{offset_strings}
use Rattle.diff_tables.specs.Alike.{AreAsLong}
use Rattle.diff_tables.proofs.AlikeLemmas.{but_listed, but_passed}
use Rattle.diff_tables.proofs.alike.push_unlike.Goals.{then-not-are_alike+in_ok-push, else-not-are_alike}
use Rattle.diff_tables.proofs.alike.push_unlike.Goals as goal

pub loop-p-preserved : goal.loop-p-preserved
loop-p-preserved g c =
    λ old.
    elim c.if-not-are_alike.branch [
      | then-not-are_alike+in_ok-push w ↦ rw (w.places-is, w.in_ok-push.ensures.items) (but_listed _ c.loop-p.p (c.loop-p.p + 1) c.loop-p.places.items (c.loop-p.invariant old) (omega arith))
      | else-not-are_alike w ↦ rw w.places-is (but_passed _ c.loop-p.p (c.loop-p.p + 1) c.loop-p.places.items (c.loop-p.invariant old) (c.are_alike.ensures w.if-not-are_alike.false) (omega arith))
    ]

pub are_alike-requires-clause-as_long : goal.are_alike-requires-clause-as_long
are_alike-requires-clause-as_long g c = λ κs h set.
    let place : c.args.start + (c.loop-p.p - c.args.start) ≡ c.loop-p.p = omega (arith, c.loop-p.auto.p) in
    let inside : c.loop-p.p - c.args.start < length c.args.as_long.now = omega (arith, c.loop-p.auto.p, c.loop-p-test.true, c.requires.as_long.one_each) in
    subst (λ q. AreAsLong c.args.width (c.args.width * slice_index c.args.left_rows.now q) (offset_strings g.L.Number.value c.args.left.now) (c.args.width * slice_index c.args.right_rows.now q) (offset_strings g.R.Number.value c.args.right.now)) place
    (c.requires.as_long.lengths (c.loop-p.p - c.args.start) inside set)
