use Rattle.std.proofs.Common.{◌≡◌, ◌++◌, refl, rules}
use Rattle.diff_tables.proofs.GroupLemmas.{ends_good, strings_are}
use Rattle.diff_tables.proofs.strings.Strings.into_array.Goals as goal

pub unreachable-requires : goal.unreachable-requires
unreachable-requires c =
    let (all, kept) = c.requires in
    let offsets : c.in_ok-offsets.offsets.items ≡ c.args.self.ends.items ++ c.args.self.far_ends.items = search rules in
    let values : c.in_ok-values.values.items ≡ c.args.self.bytes.items = search rules in
    c.in-Err.ensures.made (record { bits = _; good = rw (offsets, values, kept.stored) (ends_good kept.ends c.args.self.bytes.items all kept.groups) })

pub returns : goal.returns
returns c =
    let offsets : c.in_ok-offsets.offsets.items ≡ c.args.self.ends.items ++ c.args.self.far_ends.items = search rules in
    let values : c.in_ok-values.values.items ≡ c.args.self.bytes.items = search rules in
    (rw c.in-Ok.ensures.made.1 refl, λ all kept. rw (c.in-Ok.ensures.made.1, offsets, values, kept.stored) (strings_are kept.ends c.args.self.bytes.items all kept.groups))
