use Rattle.std.proofs.Common.{◌≡◌, [], take, subst, arith, rules}
use Rattle.std.proofs.lemmas.List.{take_all}
use Rattle.std.proofs.lemmas.List.Elements.{All-nil}
use Rattle.document_rows.specs.Documents.{tree_of}
use Rattle.json.specs.Tree.{HasNumbers}
use Rattle.schema_paths.specs.Documents.{AreGathered, whole}
use Rattle.schema_paths.proofs.LineLemmas.{line_more, lines_many}
use Rattle.schema_paths.proofs.read.groups_of.Goals as goal

pub loop-row-init : goal.loop-row-init
loop-row-init c = λ skip_bad lines rows. record {
  held = c.new-groups.ensures;
  numbers = All-nil (λ line. HasNumbers (tree_of line));
}

pub add_row-requires-clause-table : goal.add_row-requires-clause-table
add_row-requires-clause-table c =
    let (skip_bad, lines, rows) = c.requires in
    (whole skip_bad, [], lines, rows)

pub add_row-requires-clause-groups : goal.add_row-requires-clause-groups
add_row-requires-clause-groups c =
    let (skip_bad, lines, rows) = c.requires in
    (take c.loop-row.row lines, c.loop-row.invariant skip_bad lines rows)

pub loop-row-preserved : goal.loop-row-preserved
loop-row-preserved c = λ skip_bad lines rows.
    subst (λ ls. AreGathered ls c.add_row.new.groups) (line_more (whole skip_bad) c.args.table.now lines rows c.loop-row.row (omega arith))
    (c.in_ok-add_row.ensures (take c.loop-row.row lines) (c.loop-row.invariant skip_bad lines rows))

pub returns : goal.returns
returns c = λ skip_bad lines rows.
    let many = lines_many (whole skip_bad) c.args.table.now lines rows in
    subst (λ ls. AreGathered ls c.loop-row.groups) (take_all c.loop-row.row lines (omega (arith, many))) (c.loop-row.invariant skip_bad lines rows)
