use Rattle.std.specs.Io.Buffered.{reader_remaining}
use Rattle.json_paths.specs.Views.{paths_view}
use Rattle.document_rows.proofs.RowLemmas.{IsProgress}
use Rattle.document_rows.proofs.read.read_lines.Given as goal

abbrev pub invariant-loop-before : goal.invariant-loop-before
invariant-loop-before g l = IsProgress (reader_remaining g.R.Read.remaining) l.reading (paths_view l.keys) l.fn.reader l.reader l.before l.rows
