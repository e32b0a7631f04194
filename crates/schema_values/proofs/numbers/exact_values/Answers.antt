use Rattle.std.proofs.Common.{◌∙◌, ap, map}
use Rattle.std.specs.Prelude.{Some}
use Rattle.std.specs.Str.{bytes_eq}
use Rattle.json_decimals.specs.Texts.{normal_number}
use Rattle.polars_arrays_bytes.specs.OffsetStrings.{offset_strings}
use Rattle.schema_values.specs.Distinct.{distinct_total}
use Rattle.schema_values.proofs.NumberLemmas.{numbers_counted}
use Rattle.schema_values.proofs.numbers.exact_values.Goals as goal

pub into_array-requires : goal.into_array-requires
into_array-requires c = (map normal_number (offset_strings (λ x. x) c.args.cells.now), c.requires.normal.strings)

pub returns : goal.returns
returns c =
    let xs = offset_strings (λ x. x) c.args.cells.now in
    record {
      narrow = c.requires.narrow;
      distinct = ap Some (c.in_ok-count_strings.ensures ∙ (ap (distinct_total bytes_eq) (c.in_ok-texts.ensures.1 (map normal_number xs) c.requires.normal.strings) ∙ numbers_counted xs));
      least = c.in_ok-least.ensures;
      greatest = c.in_ok-greatest.ensures;
    }
