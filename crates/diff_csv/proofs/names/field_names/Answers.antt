use Rattle.std.proofs.Common.{[]}
use Rattle.csv.specs.Records.{fields_of}
use Rattle.diff_csv.proofs.names.field_names.Goals as goal

pub into_array-requires : goal.into_array-requires
into_array-requires c = (fields_of c.args.row.now, c.in_ok-push_fields.ensures [] c.in_ok-names.ensures)

pub returns : goal.returns
returns c = c.in_ok-array.ensures.1 (fields_of c.args.row.now) (c.in_ok-push_fields.ensures [] c.in_ok-names.ensures)
