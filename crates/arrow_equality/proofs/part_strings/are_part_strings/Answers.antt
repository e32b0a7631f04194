use Rattle.std.proofs.Common.{arith, refl}
use Rattle.arrow_equality.proofs.LentPlaces.{length-lent}
use Rattle.arrow_equality.proofs.part_strings.are_part_strings.Goals as goal

pub returns-else-not-texts : goal.returns-else-not-texts
returns-else-not-texts g c told = record {
  name = c.if-not-is_text.ensures.0 refl;
  children = omega (arith, c.if-part-ne0.false);
  count = omega (arith, length-lent g.O.Number.value c.args.part.now.base c.args.offsets.now, c.row_count.ensures, c.if-row_count-part.false);
  good = c.are_good.ensures c.if-not-are_good.false;
  utf8 = λ _. c.are_texts.ensures told;
}
