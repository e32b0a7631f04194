use Rattle.std.proofs.Common.{subst}
use Rattle.std.proofs.lemmas.Result.{err_from_is_err_and}
use Rattle.diff_csv.specs.Tables.{IsTableWith}
use Rattle.diff_csv.proofs.RowLemmas.{shape_of}
use Rattle.diff_csv.proofs.source.Source.read.Goals as goal

pub table_of-requires : goal.table_of-requires
table_of-requires g c = (c.in_ok-rows.ensures.rows, c.in_ok-rows.ensures.held)

pub returns-clause-shape : goal.returns-clause-shape
returns-clause-shape g c =
    let kept = c.in_ok-rows.ensures in
    shape_of c.args.wanted.now.columns.now c.args.wanted.now.keys.now c.args.wanted.now.part kept.rows _ (c.in_ok-table.ensures kept.rows kept.held)

pub returns-clause-table : goal.returns-clause-table
returns-clause-table g c = λ options text opened.
    let kept = c.in_ok-rows.ensures in
    let of_text = kept.all options text (c.in_ok-reader.ensures options text opened) in
    record {
      records = of_text.records;
      all = of_text.all;
      one_length = of_text.one_length;
      closed = of_text.closed;
      table = subst (λ rows. IsTableWith c.args.wanted.now.columns.now c.args.wanted.now.keys.now c.args.wanted.now.part rows c.in_ok-table.table) of_text.rows_are
          (c.in_ok-table.ensures kept.rows kept.held);
    }

pub returns-in_err-rows-clause-table : goal.returns-in_err-rows-clause-table
returns-in_err-rows-clause-table g c =
    let p = err_from_is_err_and c.from_residual-in_err-rows.result c.from_residual-in_err-rows.ensures.1 in
    rw (p.1, p.2) (λ options text opened. c.in_err-rows.ensures options text (c.in_ok-reader.ensures options text opened))
