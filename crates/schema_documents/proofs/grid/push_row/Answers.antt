use Rattle.std.proofs.Common.{◌++◌, subst}
use Rattle.std.proofs.lemmas.List.{append_assoc}
use Rattle.diff_tables.specs.Strings.{AreStrings}
use Rattle.schema_documents.specs.Grid.{end_cells, head_cells, kind_cells, number_cells, row_of}
use Rattle.schema_documents.proofs.grid.push_row.Goals as goal

pub returns : goal.returns
unfolding row_of
returns c = λ all h.
    let path = c.args.path.now in
    subst (λ l. AreStrings c.push_values.new.cells l)
    (append_assoc all (head_cells path ++ kind_cells path) (number_cells path ++ end_cells path))
    (c.in_ok-push_values.ensures _ (c.in_ok-push_counts.ensures all h))
