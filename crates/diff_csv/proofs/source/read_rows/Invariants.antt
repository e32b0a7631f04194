use Rattle.diff_csv.proofs.RowLemmas.{IsProgress}
use Rattle.diff_csv.proofs.source.read_rows.Given as goal

abbrev pub invariant-loop-number : goal.invariant-loop-number
invariant-loop-number g l = IsProgress g.R.Read.remaining l.wanted.columns.now l.wanted.keys.now l.wanted.part l.fn.reader l.reader l.rows l.number
