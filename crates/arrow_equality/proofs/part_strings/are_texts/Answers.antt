use Rattle.arrow_parts.specs.Lent.{places_from}
use Rattle.polars_arrays_bytes.proofs.WholeTexts.{ascii_texts, begun_texts}
use Rattle.arrow_equality.proofs.LentPlaces.{lent_ends}
use Rattle.arrow_equality.proofs.part_strings.are_texts.Goals as goal

pub returns-then-is_ascii : goal.returns-then-is_ascii
returns-then-is_ascii g c _ =
    let all = places_from c.args.base g.O.Number.value c.args.offsets.now in
    let ends = lent_ends g.O.Number.value c.args.base c.args.offsets.now _ _ _ c.requires c.ends-from.ensures.from c.ends-from.ensures.to in
    ascii_texts _ all c.args.bytes.now _ _ ends c.if-is_ascii.ensures.cases

pub returns-then-is_text : goal.returns-then-is_text
returns-then-is_text g c begun =
    let all = places_from c.args.base g.O.Number.value c.args.offsets.now in
    let ends = lent_ends g.O.Number.value c.args.base c.args.offsets.now _ _ _ c.requires c.ends-from.ensures.from c.ends-from.ensures.to in
    begun_texts all c.args.bytes.now _ _ ends (c.is_text.ensures.0 c.if-is_text.true) (c.begin_characters.ensures begun)
