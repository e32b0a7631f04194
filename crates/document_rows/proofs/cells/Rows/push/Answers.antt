use Rattle.std.proofs.Common.{◌≡◌, true, false, refl, rules}
use Rattle.json.specs.Value.{value_view}
use Rattle.json_paths.specs.Views.{paths_view}
use Rattle.document_rows.proofs.RowLemmas.{row_kept, row_passed, unwanted_from, wanted_from}
use Rattle.document_rows.proofs.cells.Rows.push.Goals as goal

pub returns-then-not-branch-clause-kept : goal.returns-then-not-branch-clause-kept
returns-then-not-branch-clause-kept c = λ lines number_is h.
    let keys = paths_view c.args.keys.now in
    let j = value_view c.in_ok-value.value in
    let none : c.in_ok-is_in.field-0 ≡ false = search rules in
    row_passed c.args.reading keys lines c.args.line.now c.args.self.now c.in_ok-value.ensures.document
    (unwanted_from c.args.reading keys c.args.line.now j c.in_ok-is_in.field-0 c.in_ok-value.ensures.value.0 c.in_ok-is_in.ensures none) h

pub returns-clause-kept : goal.returns-clause-kept
returns-clause-kept c = λ lines number_is h.
    let keys = paths_view c.args.keys.now in
    let j = value_view c.in_ok-value.value in
    let some : c.in_ok-is_in.field-0 ≡ true = search rules in
    row_kept c.args.reading keys lines c.args.line.now j c.args.number c.args.self.now (record { cells = c.push.new.self; lines = c.push-2.new.self; skipped = c.args.self.now.skipped })
    c.in_ok-value.ensures.value.0
    (wanted_from c.args.reading keys c.args.line.now j c.in_ok-is_in.field-0 c.in_ok-value.ensures.document c.in_ok-value.ensures.value.0 c.in_ok-is_in.ensures some)
    number_is h (λ strings held. c.in_ok-push.ensures _ (c.in_ok-push_parts.ensures strings held)) c.in_ok-push-2.ensures.items refl
