use Rattle.std.proofs.lemmas.Result.{MatchResult-weaker}
use Rattle.diff_pairs.specs.Cells.{strings_of}
use Rattle.diff_pairs.proofs.rows.changed_rows.Goals as goal

pub changed_lists-requires-clause-left : goal.changed_lists-requires-clause-left
changed_lists-requires-clause-left c = (c.args.left.count, strings_of c.args.left.cells, rw c.requires.width at c.in-Ok.ensures, c.requires.left_within)

pub returns-in-Ok : goal.returns-in-Ok
returns-in-Ok c =
    MatchResult-weaker c.changed_lists.result c.changed_lists.ensures
    (λ changed listed. listed c.args.left.count (strings_of c.args.left.cells) (rw c.requires.width at c.in-Ok.ensures) c.requires.left_within) (λ error memory. memory)
