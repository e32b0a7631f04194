use Rattle.std.proofs.Common.{[], ◌∷◌, ◌∙◌, sym, ap, map}
use Rattle.std.specs.Fmt.{decimal}
use Rattle.std.specs.List.{range_with_len}
use Rattle.csv.specs.Reading.{strip_bom}
use Rattle.csv.specs.Records.{fields_of}
use Rattle.csv.specs.declared.parser.State.TheVariants as st
use Rattle.diff_csv.specs.Options.{config_of}
use Rattle.diff_csv.specs.RecordLaws.{one_reading}
use Rattle.diff_csv.proofs.NameLemmas.{first_read, header_names, numbered_names}
use Rattle.diff_csv.proofs.ReadingLemmas.{begins}
use Rattle.diff_csv.proofs.source.Source.names.Goals as goal

pub returns-in_default : goal.returns-in_default
returns-in_default g c = λ options text records opened all.
    let begun = rw c.in_default.is at opened.begun in
    rw (← one_reading (config_of options) st.StartRecord (strip_bom text) [] records begun.0 all) c.in_ok-none.ensures

pub returns-then-self : goal.returns-then-self
returns-then-self g c = λ options text records opened all.
    let begun = rw c.in-Some.is at opened.begun in
    let start = begins g.R.Read.remaining options text c.args.self.now.records (fields_of c.in-Some.row ∷ []) begun in
    let one = first_read (config_of options) st.StartRecord (strip_bom text) (fields_of c.in-Some.row) start.0 start.1 records start.2 all in
    c.in_ok-fields.ensures ∙ sym (header_names options.has_header (fields_of c.in-Some.row) one.0 records one.1 (sym opened.header ∙ c.if-self.true))

pub returns : goal.returns
returns g c = λ options text records opened all.
    let begun = rw c.in-Some.is at opened.begun in
    let start = begins g.R.Read.remaining options text c.args.self.now.records (fields_of c.in-Some.row ∷ []) begun in
    let one = first_read (config_of options) st.StartRecord (strip_bom text) (fields_of c.in-Some.row) start.0 start.1 records start.2 all in
    c.in_ok-numbers.ensures
    ∙ (ap (λ n. map decimal (range_with_len 1 n)) c.len.ensures
    ∙ sym (numbered_names options.has_header (fields_of c.in-Some.row) one.0 records one.1 (sym opened.header ∙ c.if-self.false)))
