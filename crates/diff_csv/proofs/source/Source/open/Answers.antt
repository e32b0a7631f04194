use Rattle.std.proofs.Common.{◌≡◌, ◌∙◌, [], true, sym, refl}
use Rattle.std.proofs.lemmas.Result.{err_from_is_err_and}
use Rattle.diff_csv.specs.Options.{is_delimiter}
use Rattle.diff_csv.proofs.ReadingLemmas.{tells_able}
use Rattle.diff_csv.proofs.source.Source.open.Goals as goal

pub returns-in_err-line-clause-delimiter : goal.returns-in_err-line-clause-delimiter
returns-in_err-line-clause-delimiter g c =
    let p = err_from_is_err_and c.from_residual-in_err-line.result c.from_residual-in_err-line.ensures.1 in
    let able : is_delimiter c.args.options.delimiter ≡ true = sym c.is_delimiter.ensures ∙ c.if-not-is_delimiter.false in
    rw (p.1, p.2) (tells_able (is_delimiter c.args.options.delimiter) _ able c.in_err-line.ensures.fault)

pub returns-in_err-line-clause-trouble : goal.returns-in_err-line-clause-trouble
returns-in_err-line-clause-trouble g c =
    let p = err_from_is_err_and c.from_residual-in_err-line.result c.from_residual-in_err-line.ensures.1 in
    let able : is_delimiter c.args.options.delimiter ≡ true = sym c.is_delimiter.ensures ∙ c.if-not-is_delimiter.false in
    rw (p.1, p.2) (λ text known. c.in_err-line.ensures.told c.args.options text [] (c.in_ok-records.ensures text known able))

pub returns-in_default-clause-opened : goal.returns-in_default-clause-opened
returns-in_default-clause-opened g c = λ text known.
    let able : is_delimiter c.args.options.delimiter ≡ true = sym c.is_delimiter.ensures ∙ c.if-not-is_delimiter.false in
    record { header = refl; begun = rw c.in_default.is at (c.in_ok-line.ensures.told c.args.options text [] (c.in_ok-records.ensures text known able)) }

pub returns-clause-opened : goal.returns-clause-opened
returns-clause-opened g c = λ text known.
    let able : is_delimiter c.args.options.delimiter ≡ true = sym c.is_delimiter.ensures ∙ c.if-not-is_delimiter.false in
    record { header = refl; begun = rw c.into_inner.ensures (rw c.in-Some.is at (c.in_ok-line.ensures.told c.args.options text [] (c.in_ok-records.ensures text known able))) }
