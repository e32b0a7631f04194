use Rattle.csv.specs.Records.{fields_of}
use Rattle.diff_csv.proofs.NameLemmas.{field_found, field_missing}
use Rattle.diff_merge.proofs.row.field.Goals as goal

pub returns-in-Some : goal.returns-in-Some
returns-in-Some c = field_found (fields_of c.args.record.now) c.args.column c.in-Some.field.now c.in-Some.ensures.value

pub returns-in-None : goal.returns-in-None
returns-in-None c = field_missing (fields_of c.args.record.now) c.args.column c.in-None.ensures.value
