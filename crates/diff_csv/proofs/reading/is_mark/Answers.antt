use Rattle.std.proofs.Common.{◌∙◌, sym}
use Rattle.csv.specs.Records.{fields_of}
use Rattle.diff_csv.proofs.ReadingLemmas.{no_field, one_field}
use Rattle.diff_csv.proofs.reading.is_mark.Goals as goal

pub returns-then-len-eq1 : goal.returns-then-len-eq1
returns-then-len-eq1 c = one_field (fields_of c.args.row.now) c.in-Some.field.now c.is_empty.result c.in-Some.ensures.value (sym c.len.ensures ∙ c.if-len-eq1.true) c.is_empty.ensures

pub returns-in-None : goal.returns-in-None
returns-in-None c = ((λ e. cc e), (λ e. absurd (no_field (fields_of c.args.row.now) c.in-None.ensures.value e)))
