use Rattle.std.proofs.Common.{◌≡◌, length, arith}
use Rattle.diff_keys.proofs.MatchingLemmas.{found_within, matching_is}
use Rattle.diff_keys.proofs.matching.match_few.Goals as goal

pub pairs_found-requires : goal.pairs_found-requires
pairs_found-requires g c = rw c.deref.ensures.value (omega (arith, c.requires.0, c.in_ok-found.found.ok, c.in_ok-found.ensures.one_each))

pub rows_alone-requires : goal.rows_alone-requires
rows_alone-requires g c = rw c.deref-2.ensures.value (omega (arith, c.requires.0, c.in_ok-found.found.ok, c.in_ok-found.ensures.one_each))

pub other_rows-requires : goal.other_rows-requires
other_rows-requires g c =
    let found = c.in_ok-found.found.items in
    let one_each : length found ≡ length (g.L.ByteRows.strings c.args.left.now) = omega (arith, c.in_ok-found.found.ok, c.in_ok-found.ensures.one_each) in
    record {
      few = omega (arith, c.count.ensures, c.requires.1);
      within = rw (c.deref-3.ensures.value, c.count.ensures)
          (found_within (g.L.ByteRows.strings c.args.left.now) (g.R.ByteRows.strings c.args.right.now) found _ _ one_each c.in_ok-found.ensures.partners (rw c.deref.ensures.value at c.in_ok-pairs.ensures));
    }

pub returns : goal.returns
returns g c =
    let found = c.in_ok-found.found.items in
    let one_each : length found ≡ length (g.L.ByteRows.strings c.args.left.now) = omega (arith, c.in_ok-found.found.ok, c.in_ok-found.ensures.one_each) in
    matching_is (g.L.ByteRows.strings c.args.left.now) (g.R.ByteRows.strings c.args.right.now) found _ one_each
    c.in_ok-found.ensures.partners
    (rw c.deref.ensures.value at c.in_ok-pairs.ensures)
    (rw c.deref-2.ensures.value at c.in_ok-removed.ensures)
    (rw (c.deref-3.ensures.value, c.count.ensures) at c.in_ok-added.ensures)
