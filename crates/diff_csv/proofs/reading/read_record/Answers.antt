use Rattle.csv.specs.Records.{fields_of}
use Rattle.diff_csv.proofs.ReadingLemmas.{one_read}
use Rattle.diff_csv.proofs.reading.read_record.Goals as goal

pub returns-in-Ok-clause-told : goal.returns-in-Ok-clause-told
returns-in-Ok-clause-told g c = λ options text rows h.
    one_read g.R.Read.remaining options text c.args.reader.now c.read_byte_record.new.self rows (fields_of c.read_byte_record.new.row) c.in-Ok.found
    h (c.in-Ok.ensures.reads h.trim h.ready) (c.in-Ok.ensures.ready h.trim)
