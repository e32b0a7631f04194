use Rattle.std.proofs.Common.{◌≡◌, ◌<◌, ap, arith, length, map}
use Rattle.std.proofs.lemmas.List.{length-map}
use Rattle.std.specs.Prelude.{slice_index}
use Rattle.diff_keys.specs.RisingLaws.{listed_below}
use Rattle.diff_tables.specs.Alike.{AreSameRows, ListsAllBut}
use Rattle.diff_tables.proofs.AlikeLemmas.{all_changed, pairs_at}
use Rattle.diff_tables.proofs.compare.changed_places.Goals as goal

pub changed_rows-requires-clause-pairs : goal.changed_rows-requires-clause-pairs
changed_rows-requires-clause-pairs c =
    let alike : ListsAllBut (AreSameRows c.args.left.now.rows c.args.right.now.rows c.args.matching.now.left_rows.items c.args.matching.now.right_rows.items) (length c.args.matching.now.left_rows.items) c.in_ok-places.places.items =
    rw (c.deref.ensures.value, c.deref-2.ensures.value) at c.in_ok-places.ensures in
    let left : c.in_ok-left_rows.left_rows.items ≡ map (slice_index c.args.matching.now.left_rows.items) c.in_ok-places.places.items = rw (c.deref-3.ensures.value, c.deref-4.ensures.value) at c.in_ok-left_rows.ensures in
    let right : c.in_ok-right_rows.right_rows.items ≡ map (slice_index c.args.matching.now.right_rows.items) c.in_ok-places.places.items = rw (c.deref-5.ensures.value, c.deref-6.ensures.value) at c.in_ok-right_rows.ensures in
    rw (left, right) (pairs_at c.args.left.now.rows c.args.right.now.rows c.args.matching.now.left_rows.items c.args.matching.now.right_rows.items c.in_ok-places.places.items c.requires.pairs alike.below)

pub places_at-requires : goal.places_at-requires
places_at-requires c =
    let left : length c.in_ok-left_rows.left_rows.items ≡ length (map (slice_index c.args.matching.now.left_rows.items) c.in_ok-places.places.items) = ap length (rw (c.deref-3.ensures.value, c.deref-4.ensures.value) at c.in_ok-left_rows.ensures) in
    rw (c.deref-8.ensures.value, c.deref-7.ensures.value) (λ k within.
    let below : slice_index c.in_ok-changed.changed.items k < length c.in_ok-left_rows.left_rows.items = listed_below _ _ c.in_ok-changed.changed.items c.in_ok-changed.ensures k within in
    omega (arith, below, left, length-map c.in_ok-places.places.items (slice_index c.args.matching.now.left_rows.items)))

pub returns : goal.returns
returns c =
    let alike : ListsAllBut (AreSameRows c.args.left.now.rows c.args.right.now.rows c.args.matching.now.left_rows.items c.args.matching.now.right_rows.items) (length c.args.matching.now.left_rows.items) c.in_ok-places.places.items =
    rw (c.deref.ensures.value, c.deref-2.ensures.value) at c.in_ok-places.ensures in
    let left : c.in_ok-left_rows.left_rows.items ≡ map (slice_index c.args.matching.now.left_rows.items) c.in_ok-places.places.items = rw (c.deref-3.ensures.value, c.deref-4.ensures.value) at c.in_ok-left_rows.ensures in
    let right : c.in_ok-right_rows.right_rows.items ≡ map (slice_index c.args.matching.now.right_rows.items) c.in_ok-places.places.items = rw (c.deref-5.ensures.value, c.deref-6.ensures.value) at c.in_ok-right_rows.ensures in
    rw (c.in_ok-changed-2.ensures, c.deref-7.ensures.value, c.deref-8.ensures.value)
    (all_changed c.args.left.now.rows c.args.right.now.rows c.args.matching.now.left_rows.items c.args.matching.now.right_rows.items c.in_ok-places.places.items c.in_ok-changed.changed.items alike (rw (left, right) at c.in_ok-changed.ensures))
