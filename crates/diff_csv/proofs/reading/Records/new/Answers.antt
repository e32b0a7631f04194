use Rattle.std.proofs.Common.{[], ◌++◌}
use Rattle.csv.specs.Records.{fields_of}
use Rattle.diff_csv.specs.Quotes.{mark}
use Rattle.diff_csv.specs.Reading.{marked_remaining}
use Rattle.diff_csv.proofs.ReadingLemmas.{first_ahead}
use Rattle.diff_csv.proofs.reading.Records.new.Goals as goal

pub returns : goal.returns
returns g c = λ text known able. record {
  delimiter = able;
  read = first_ahead (marked_remaining g.R.Read.remaining) c.args.options text c.read_record.new.reader (fields_of c.read_record.new.row) c.in_ok-read_record.field-0
      able (c.in_ok-read_record.ensures.told c.args.options (text ++ mark) [] (c.reader_of-reader.ensures text known));
}
