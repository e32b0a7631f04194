use Rattle.std.proofs.Common.{◌≡◌, ◌∙◌, ◌+◌, ◌++◌, ◌∷◌, [], true, false, refl, ap, sym, arith, rules, length-append}
use Rattle.std.proofs.lemmas.List.{append_assoc}
use Rattle.std.proofs.lemmas.Result.{err_from_is_err_and}
use Rattle.json_paths.specs.Views.{paths_view}
use Rattle.document_rows.specs.Lines.{lines_of}
use Rattle.document_rows.proofs.RowLemmas.{line_fault, no_lines, stop_fault}
use Rattle.document_rows.proofs.read.read_lines.Goals as goal

pub loop-before-init : goal.loop-before-init
loop-before-init g c = record {
  all = [];
  held = c.requires.none;
  count = refl;
  so_far = λ text known. (text, known, refl);
}

pub returns-then-not-branch : goal.returns-then-not-branch
returns-then-not-branch g c =
    let before = c.loop-before.invariant in
    let none : c.in_ok-next_line.field-0 ≡ false = search rules in
    record {
      lines = before.all;
      held = before.held;
      all = λ text known.
          let (rest, left, cut) = before.so_far text known in
          sym (cut ∙ no_lines before.all rest (rw none at (c.in_ok-next_line.ensures.told rest left)));
    }

pub returns-in_err-next_line : goal.returns-in_err-next_line
returns-in_err-next_line g c =
    let p = err_from_is_err_and c.from_residual-in_err-next_line.result c.from_residual-in_err-next_line.ensures.1 in
    rw (p.1, p.2) (λ text known. stop_fault c.args.reading (paths_view c.args.keys.now) text _ c.in_err-next_line.ensures.stop)

pub returns-in_err-keep_line : goal.returns-in_err-keep_line
returns-in_err-keep_line g c =
    let before = c.loop-before.invariant in
    let some : c.in_ok-next_line.field-0 ≡ true = search rules in
    let p = err_from_is_err_and c.from_residual-in_err-keep_line.result c.from_residual-in_err-keep_line.ensures.1 in
    rw (p.1, p.2) (λ text known.
    let (rest, left, cut) = before.so_far text known in
    let (after, _, line) = rw some at (c.in_ok-next_line.ensures.told rest left) in
    line_fault c.args.reading (paths_view c.args.keys.now) text before.all c.next_line.new.line.items after (c.loop-before.before + 1) _ (cut ∙ ap (λ l. before.all ++ l) line) before.held.numbered.none_skipped (omega (arith, before.count))
    (rw c.deref.ensures.value at c.in_err-keep_line.ensures))

pub loop-before-preserved : goal.loop-before-preserved
loop-before-preserved g c =
    let before = c.loop-before.invariant in
    let some : c.in_ok-next_line.field-0 ≡ true = search rules in
    let next = c.next_line.new.line.items in
    record {
      all = before.all ++ next ∷ [];
      held = rw c.deref.ensures.value at (c.in_ok-keep_line.ensures before.all (omega (arith, before.count)) before.held);
      count = omega (arith, before.count, length-append before.all (next ∷ []));
      so_far = λ text known.
          let (rest, left, cut) = before.so_far text known in
          let (after, behind, line) = rw some at (c.in_ok-next_line.ensures.told rest left) in
          (after, behind, cut ∙ (ap (λ l. before.all ++ l) line ∙ sym (append_assoc before.all (next ∷ []) (lines_of after))));
    }
