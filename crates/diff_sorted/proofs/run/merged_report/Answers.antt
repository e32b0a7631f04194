use Rattle.std.proofs.Common.{◌∙◌, ap}
use Rattle.std.proofs.lemmas.Result.{err_from_is_err_and}
use Rattle.std.specs.Borrow.{Bor}
use Rattle.std.specs.Prelude.{ℕ, List}
use Rattle.diff_columns.specs.declared.error.Side.TheVariants.{Left, Right}
use Rattle.diff_sorted.proofs.FaultLemmas.{merge_fault, text_fault, told_whole}
use Rattle.diff_sorted.proofs.run.merged_report.Goals as goal

pub returns-in_err-first-clause-told : goal.returns-in_err-first-clause-told
returns-in_err-first-clause-told g c =
    let p = err_from_is_err_and c.from_residual.result c.from_residual.ensures.1 in
    rw (p.1, p.2) (λ left_text right_text left right heads. text_fault c.args.options.now left_text right_text Left _ (c.in_err-first.ensures.begun c.args.options.now.csv left_text left))

pub returns-in_err-second-clause-told : goal.returns-in_err-second-clause-told
returns-in_err-second-clause-told g c =
    let p = err_from_is_err_and c.from_residual-in_err-second.result c.from_residual-in_err-second.ensures.1 in
    rw (p.1, p.2) (λ left_text right_text left right heads. text_fault c.args.options.now left_text right_text Right _ (c.in_err-second.ensures.begun c.args.options.now.csv right_text right))

pub returns-in_err-report-clause-told : goal.returns-in_err-report-clause-told
returns-in_err-report-clause-told g c =
    let p = err_from_is_err_and c.from_residual-in_err-report.result c.from_residual-in_err-report.ensures.1 in
    rw (p.1, p.2) (λ left_text right_text left right heads. tt)

pub returns-in_err-merge-clause-told : goal.returns-in_err-merge-clause-told
returns-in_err-merge-clause-told g c =
    let p = err_from_is_err_and c.from_residual-in_err-merge.result c.from_residual-in_err-merge.ensures.1 in
    let first = c.in_ok-first.ensures.wanted in
    let second = c.in_ok-second.ensures.wanted in
    rw (p.1, p.2) (λ left_text right_text left right heads.
    merge_fault c.args.options.now left_text right_text c.args.heads.now c.in_ok-first.first c.in_ok-second.second _ heads c.requires
    (record { columns_are = ap (λ (b : Bor (List ℕ)). b.now) first.0 ∙ c.deref.ensures.value; keys_are = ap (λ (b : Bor (List ℕ)). b.now) first.1 ∙ c.deref-2.ensures.value; unique_is = first.2 })
    (record { columns_are = ap (λ (b : Bor (List ℕ)). b.now) second.0 ∙ c.deref-3.ensures.value; keys_are = ap (λ (b : Bor (List ℕ)). b.now) second.1 ∙ c.deref-4.ensures.value; unique_is = second.2 })
    (c.in_err-merge.ensures.merged c.args.options.now.csv left_text right_text (c.in_ok-first.ensures.begun c.args.options.now.csv left_text left) (c.in_ok-second.ensures.begun c.args.options.now.csv right_text right) c.in_ok-report.ensures.told))

pub returns-clause-told : goal.returns-clause-told
returns-clause-told g c = λ left_text right_text left right.
    let first = c.in_ok-first.ensures.wanted in
    let second = c.in_ok-second.ensures.wanted in
    told_whole c.args.options.now left_text right_text c.args.heads.now.layout c.in_ok-first.first c.in_ok-second.second _
    (record { columns_are = ap (λ (b : Bor (List ℕ)). b.now) first.0 ∙ c.deref.ensures.value; keys_are = ap (λ (b : Bor (List ℕ)). b.now) first.1 ∙ c.deref-2.ensures.value; unique_is = first.2 })
    (record { columns_are = ap (λ (b : Bor (List ℕ)). b.now) second.0 ∙ c.deref-3.ensures.value; keys_are = ap (λ (b : Bor (List ℕ)). b.now) second.1 ∙ c.deref-4.ensures.value; unique_is = second.2 })
    (c.in_ok-merge.ensures.merged c.args.options.now.csv left_text right_text (c.in_ok-first.ensures.begun c.args.options.now.csv left_text left) (c.in_ok-second.ensures.begun c.args.options.now.csv right_text right) c.in_ok-report.ensures.told)

pub returns-clause-frame : goal.returns-clause-frame
returns-clause-frame g c = c.in_ok-merge.ensures.kept.frame ∙ c.in_ok-report.ensures.frame

pub returns-clause-limit : goal.returns-clause-limit
returns-clause-limit g c = c.in_ok-merge.ensures.kept.limit ∙ c.in_ok-report.ensures.limit
