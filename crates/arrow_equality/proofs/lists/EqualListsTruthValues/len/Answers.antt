use Rattle.std.proofs.Common.{sym}
use Rattle.polars_arrays_words.proofs.Firsts.{length-first}
use Rattle.arrow_parts.specs.Lent.{places_from}
use Rattle.arrow_equality.specs.Lists.{is_equal_list}
use Rattle.arrow_equality.proofs.lists.EqualListsTruthValues.len.Goals as goal

pub returns : goal.returns
returns g c =
    let l = c.args.self.now in
    sym (length-first (is_equal_list l.items.now (places_from l.base g.O.Number.value l.offsets.now)) l.rows)
