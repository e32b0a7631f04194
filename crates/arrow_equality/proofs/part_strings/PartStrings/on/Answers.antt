use Rattle.std.proofs.Common.{◌∙◌, [], ap, arith, length}
use Rattle.std.specs.Prelude.{slice_index_or}
use Rattle.arrow_parts.specs.Lent.{places_from}
use Rattle.polars_arrays_bytes.proofs.OffsetWindows.{length-strings, string_of-places}
use Rattle.arrow_equality.proofs.LentPlaces.{length-lent}
use Rattle.arrow_equality.proofs.part_strings.PartStrings.on.Goals as goal

pub string_on-requires-clause-row : goal.string_on-requires-clause-row
string_on-requires-clause-row g c κs within =
    let all = places_from c.self.inside.base g.O.Number.value c.self.inside.offsets.now in
    omega (arith, c.requires, ap length c.self.view_is, length-strings all c.self.inside.bytes.now, length-lent g.O.Number.value c.self.inside.base c.self.inside.offsets.now)

pub string_on-requires-clause-good : goal.string_on-requires-clause-good
string_on-requires-clause-good g c κs within =
    let all = places_from c.self.inside.base g.O.Number.value c.self.inside.offsets.now in
    c.self.invariant.rows c.args.i (omega (arith, c.requires, ap length c.self.view_is, length-strings all c.self.inside.bytes.now))

pub returns-clause-string : goal.returns-clause-string
returns-clause-string g c =
    let all = places_from c.self.inside.base g.O.Number.value c.self.inside.offsets.now in
    c.string_on.ensures.string
    ∙ string_of-places all c.self.inside.bytes.now c.args.i (omega (arith, c.requires, ap length c.self.view_is, length-strings all c.self.inside.bytes.now))
    ∙ ap (λ xs. slice_index_or xs c.args.i []) c.self.view_is
