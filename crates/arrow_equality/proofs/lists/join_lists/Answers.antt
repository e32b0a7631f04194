use Rattle.std.proofs.Common.{◌∙◌}
use Rattle.polars_arrays_words.proofs.Firsts.{length-first}
use Rattle.arrow_parts.specs.Lent.{places_from}
use Rattle.arrow_equality.specs.Lists.{is_equal_list}
use Rattle.arrow_equality.proofs.lists.join_lists.Goals as goal

pub join_parts-requires-clause-left : goal.join_parts-requires-clause-left
join_parts-requires-clause-left g c =
    length-first (is_equal_list c.from_bitmap.result (places_from c.args.left.now.base g.O.Number.value c.args.offsets.now)) c.args.left.now.rows

pub join_parts-requires-clause-right : goal.join_parts-requires-clause-right
join_parts-requires-clause-right g c =
    length-first (is_equal_list c.from_bitmap.result (places_from c.args.left.now.base g.O.Number.value c.args.offsets.now)) c.args.left.now.rows ∙ c.requires.one_length
