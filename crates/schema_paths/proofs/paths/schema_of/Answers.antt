use Rattle.std.proofs.Common.{◌≡◌, ◌-◌, ◌∙◌, List, length, ap, subst, sym}
use Rattle.std.specs.Prelude.{All}
use Rattle.polars_arrays_bytes.specs.OffsetStrings.{offset_strings}
use Rattle.json_groups.specs.Groups.{all_parts, has, is_at, values_at}
use Rattle.schema_values.specs.Numbers.{IsNumber, TellsNumbers}
use Rattle.schema_values.specs.Told.{told_of}
use Rattle.schema_paths.specs.Kinds.{numbers_in}
use Rattle.schema_paths.proofs.NumberLemmas.{numbers_numeric, values_numeric}
use Rattle.schema_paths.proofs.PathLemmas.{others_counted}
use Rattle.schema_paths.proofs.paths.schema_of.Goals as goal

pub into_array-requires : goal.into_array-requires
into_array-requires c =
    let (parts, numeric, grouped) = c.requires in
    (numbers_in (values_at c.args.group.path.items (all_parts parts)), grouped.tally.numbers)

pub number_values-requires : goal.number_values-requires
number_values-requires c =
    let (parts, numeric, grouped) = c.requires in
    let path = c.args.group.path.items in
    subst (All IsNumber) (sym (c.in_ok-numbers.ensures.1 (numbers_in (values_at path (all_parts parts))) grouped.tally.numbers))
    (numbers_numeric (values_at path (all_parts parts)) (values_numeric (is_at path) (all_parts parts) numeric))

pub returns-clause-schema : goal.returns-clause-schema
returns-clause-schema c = λ parts grouped many.
    let path = c.args.group.path.items in
    let same : offset_strings (λ x. x) c.in_ok-numbers.numbers ≡ numbers_in (values_at path (all_parts parts)) = c.in_ok-numbers.ensures.1 _ grouped.tally.numbers in
    record {
      documents_are = many;
      missing = c.saturating_sub.ensures ∙ ap (λ n. n - c.args.group.documents) many ∙ others_counted (has path) parts c.args.group.documents grouped.documents_is;
      values = record {
        nulls = grouped.tally.nulls;
        truths = grouped.tally.truths;
        texts = grouped.tally.texts;
        objects = grouped.tally.objects;
        arrays = grouped.tally.arrays;
        numbers = c.count.ensures ∙ ap length same;
        extremes = subst (λ texts. TellsNumbers texts (told_of c.in_ok-values.values)) same c.in_ok-values.ensures;
      };
    }
