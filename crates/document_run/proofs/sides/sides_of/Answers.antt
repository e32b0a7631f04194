use Rattle.std.proofs.Common.{◌∙◌, length, ap, refl, sym}
use Rattle.std.proofs.lemmas.List.{length-map}
use Rattle.std.proofs.lemmas.Result.{err_from_is_err_and}
use Rattle.diff_columns.specs.declared.error.Side.TheVariants.{Left, Right}
use Rattle.document_run.proofs.SkippedLemmas.{side_some, skipped_fault}
use Rattle.document_run.proofs.sides.sides_of.Goals as goal

pub returns-in_err-left-clause-texts : goal.returns-in_err-left-clause-texts
returns-in_err-left-clause-texts g c =
    let p = err_from_is_err_and c.from_residual-in_err-left.result c.from_residual-in_err-left.ensures.1 in
    rw (p.1, p.2) (λ left_text right_text el er. c.in_err-left.ensures.texts left_text right_text el)

pub returns-in_err-right-clause-texts : goal.returns-in_err-right-clause-texts
returns-in_err-right-clause-texts g c =
    let p = err_from_is_err_and c.from_residual-in_err-right.result c.from_residual-in_err-right.ensures.1 in
    rw (p.1, p.2) (λ left_text right_text el er. c.in_err-right.ensures.texts left_text right_text er)

pub returns-clause-comparable : goal.returns-clause-comparable
returns-clause-comparable g c = record {
  left = c.in_ok-left.ensures.shape;
  right = c.in_ok-right.ensures.shape;
  keys = sym (length-map c.in_ok-keys.keys.items (λ v. v.items)) ∙ (ap length c.in_ok-keys.ensures ∙ (length-map c.args.options.now.names.now (λ n. n.now) ∙ c.args.options.now.named));
}

pub returns-clause-texts : goal.returns-clause-texts
returns-clause-texts g c = λ left_text right_text el er. record {
  left = c.in_ok-left.ensures.texts left_text el;
  right = c.in_ok-right.ensures.texts right_text er;
  left_some = λ whole. side_some c.args.options.now left_text c.args.left.name.now c.in_ok-left.left (c.in_ok-left.ensures.texts left_text el) (c.in_ok-test_kept.ensures whole);
  right_some = λ whole. side_some c.args.options.now right_text c.args.right.name.now c.in_ok-right.right (c.in_ok-right.ensures.texts right_text er) (c.in_ok-test_kept-2.ensures whole);
  names = c.in_ok-keys.ensures;
  skip_bad = refl;
  colored = refl;
  rules = refl;
}

pub returns-in_err-test_kept-clause-texts : goal.returns-in_err-test_kept-clause-texts
returns-in_err-test_kept-clause-texts g c =
    let p = err_from_is_err_and c.from_residual-in_err-test_kept.result c.from_residual-in_err-test_kept.ensures.1 in
    rw (p.1, p.2) (λ left_text right_text el er. skipped_fault c.args.options.now left_text right_text c.args.left.name.now c.in_ok-left.left Left _ (c.in_ok-left.ensures.texts left_text el) c.in_err-test_kept.ensures)

pub returns-in_err-test_kept-2-clause-texts : goal.returns-in_err-test_kept-2-clause-texts
returns-in_err-test_kept-2-clause-texts g c =
    let p = err_from_is_err_and c.from_residual-in_err-test_kept-2.result c.from_residual-in_err-test_kept-2.ensures.1 in
    rw (p.1, p.2) (λ left_text right_text el er. skipped_fault c.args.options.now left_text right_text c.args.right.name.now c.in_ok-right.right Right _ (c.in_ok-right.ensures.texts right_text er) c.in_err-test_kept-2.ensures)
