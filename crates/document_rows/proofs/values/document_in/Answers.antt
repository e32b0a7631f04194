use Rattle.std.proofs.lemmas.Result.{err_from_is_err_and}
use Rattle.json_paths.specs.Views.{paths_view}
use Rattle.document_rows.proofs.values.document_in.Goals as goal

pub returns-in_err-value-clause-document : goal.returns-in_err-value-clause-document
returns-in_err-value-clause-document c =
    let p = err_from_is_err_and c.from_residual.result c.from_residual.ensures.1 in
    rw (p.1, p.2) (c.in_err-value.ensures.trouble c.args.reading (paths_view c.args.keys.now))
