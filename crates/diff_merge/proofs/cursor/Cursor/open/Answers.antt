use Rattle.std.proofs.Common.{◌∙◌, ap, refl, []}
use Rattle.std.proofs.lemmas.Result.{err_from_is_err_and}
use Rattle.csv.specs.Records.{Row, fields_of}
use Rattle.diff_merge.proofs.CursorLemmas.{any_if, none_below}
use Rattle.diff_tables.specs.Keys.{cells_at, row_key}
use Rattle.diff_merge.proofs.cursor.Cursor.open.Goals as goal

pub returns-in_err-line-clause-begun : goal.returns-in_err-line-clause-begun
returns-in_err-line-clause-begun g c =
    let p = err_from_is_err_and c.from_residual-in_err-line.result c.from_residual-in_err-line.ensures.1 in
    rw (p.1, p.2) (λ options text begun. c.in_err-line.ensures options text [] (c.in-Ok.ensures options text begun))

pub returns-clause-begun : goal.returns-clause-begun
returns-clause-begun g c = λ options text begun. record {
  records = [];
  given = c.in_ok-line.ensures options text [] (c.in-Ok.ensures options text begun);
  cells = refl;
  number = refl;
  key = any_if c.in_ok-line.line _ (c.in_ok-write_key.ensures ∙ ap (λ (r : Row). row_key c.args.wanted.keys.now (cells_at c.args.wanted.columns.now (fields_of r))) c.deref.ensures);
  unique = λ asked. none_below _;
}
