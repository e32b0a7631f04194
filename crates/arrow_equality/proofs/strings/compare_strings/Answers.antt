use Rattle.std.proofs.Common.{◌∙◌}
use Rattle.polars_arrays_bytes.specs.OffsetStrings.{strings_between}
use Rattle.arrow_parts.specs.Lent.{places_from}
use Rattle.arrow_equality.proofs.StringColumns.{pairs-size}
use Rattle.arrow_equality.proofs.strings.compare_strings.Goals as goal

pub compare_joined-requires-clause-left : goal.compare_joined-requires-clause-left
compare_joined-requires-clause-left g c =
    let left = strings_between (places_from c.args.left.now.base g.O.Number.value c.args.left_offsets.now) c.args.left.now.u8s.now in
    let right = strings_between (places_from c.args.right.now.base g.O.Number.value c.args.right_offsets.now) c.args.right.now.u8s.now in
    pairs-size c.in-Some.pairs.left c.in-Some.pairs.right left right c.in-Some.pairs.n c.args.left.now.rows c.in-Some.ensures.pairs

pub compare_joined-requires-clause-right : goal.compare_joined-requires-clause-right
compare_joined-requires-clause-right g c =
    let left = strings_between (places_from c.args.left.now.base g.O.Number.value c.args.left_offsets.now) c.args.left.now.u8s.now in
    let right = strings_between (places_from c.args.right.now.base g.O.Number.value c.args.right_offsets.now) c.args.right.now.u8s.now in
    pairs-size c.in-Some.pairs.left c.in-Some.pairs.right left right c.in-Some.pairs.n c.args.left.now.rows c.in-Some.ensures.pairs ∙ c.in-Some.ensures.one_length
