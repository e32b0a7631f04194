use Rattle.std.proofs.Common.{◌≡◌, rules}
use Rattle.diff_tables.proofs.GroupLemmas.{ends_good, strings_are}
use Rattle.diff_tables.proofs.strings.near_cells.Goals as goal

pub unreachable-requires : goal.unreachable-requires
unreachable-requires c =
    let (places, all, stored, groups) = c.requires in
    let offsets : c.in_ok-offsets.offsets.items ≡ c.args.ends.items = search rules in
    let values : c.in_ok-values.values.items ≡ c.args.bytes.items = search rules in
    c.in-Err.ensures.made (record { bits = _; good = rw (offsets, values, stored) (ends_good places c.args.bytes.items all groups) })

pub returns : goal.returns
returns c =
    let offsets : c.in_ok-offsets.offsets.items ≡ c.args.ends.items = search rules in
    let values : c.in_ok-values.values.items ≡ c.args.bytes.items = search rules in
    λ places all stored groups. rw (c.near.ensures, c.in-Ok.ensures.made.1, offsets, values, stored) (strings_are places c.args.bytes.items all groups)
