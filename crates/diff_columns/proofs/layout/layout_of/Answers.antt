use Rattle.std.proofs.Common.{length}
use Rattle.diff_columns.specs.Layout.{IsCompared}
use Rattle.diff_columns.specs.LayoutLaws.{listed_within}
use Rattle.diff_columns.proofs.LayoutLemmas.{keys_have_places}
use Rattle.diff_columns.proofs.layout.layout_of.Goals as goal

pub key_places-requires-clause-within : goal.key_places-requires-clause-within
key_places-requires-clause-within g c =
    let left = g.L.ByteRows.strings c.args.left.now in
    let right = g.R.ByteRows.strings c.args.right.now in
    rw c.deref.ensures.value
    (listed_within (IsCompared c.args.choice.now left right) (length left) c.in_ok-left_columns.field-0.left_columns.items c.in_ok-left_columns.ensures.compared)

pub key_places-requires-clause-places : goal.key_places-requires-clause-places
key_places-requires-clause-places g c =
    let left = g.L.ByteRows.strings c.args.left.now in
    let right = g.R.ByteRows.strings c.args.right.now in
    rw c.deref.ensures.value
    (keys_have_places c.args.choice.now left right c.in_ok-left_columns.field-0.left_columns.items c.requires c.in_ok-left_columns.ensures.compared)
