use Rattle.std.proofs.Common.{◌≡◌, ◌∙◌, true, false, rules, subst, sym}
use Rattle.json_paths.specs.Views.{paths_view}
use Rattle.document_rows.specs.Documents.{IsDocument}
use Rattle.document_rows.specs.Reading.{IsTrouble}
use Rattle.document_rows.specs.Rows.{HoldsRows}
use Rattle.document_rows.specs.declared.values.Trouble.TheVariants as trouble
use Rattle.document_rows.proofs.RowLemmas.{no_document}
use Rattle.document_rows.proofs.read.keep_line.Goals as goal

pub returns-then-branch : goal.returns-then-branch
returns-then-branch c = λ all number_is held.
    let some : c.in_ok-push_row.field-0 ≡ true = search rules in
    c.in_ok-push_row.ensures.found some c.args.reading (paths_view c.args.keys.now) all c.requires number_is held

pub returns-in_ok-skip-in-Err-Fault : goal.returns-in_ok-skip-in-Err-Fault
returns-in_ok-skip-in-Err-Fault c = λ all number_is held.
    let keys = paths_view c.args.keys.now in
    let fault = c.in-Err-Fault.fault in
    let none : c.in_ok-push_row.field-0 ≡ false = search rules in
    let passes : c.args.reading.skip_bad ≡ true = search rules in
    let other : ¬ IsDocument c.args.reading keys c.args.line.now =
    no_document c.args.reading keys c.args.line.now fault (subst (IsTrouble c.args.reading keys c.args.line.now) c.in-Err-Fault.field-0-is c.in-Err-Fault.ensures.kept) in
    let unchanged : c.push.new.self ≡ c.push_row.new.rows =
    c.in-Err-Fault.ensures.unchanged (λ memory. let both : trouble.Fault fault ≡ trouble.Memory = sym c.in-Err-Fault.field-0-is ∙ memory in cc both) in
    c.in_ok-skip-in-Err-Fault.ensures c.args.reading keys all c.args.line.now passes other number_is
    (subst (HoldsRows c.args.reading keys all) (sym (unchanged ∙ c.in_ok-push_row.ensures.other none)) held)
