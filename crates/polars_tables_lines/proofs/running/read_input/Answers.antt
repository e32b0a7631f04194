use Rattle.polars_tables_lines.proofs.Known.{read_to_end}
use Rattle.polars_tables_lines.proofs.running.read_input.Goals as goal

pub returns-then-branch-clause-bytes : goal.returns-then-branch-clause-bytes
returns-then-branch-clause-bytes g c =
    read_to_end _ _ _ _ _ _ c.loop.invariant.read_so_far c.in_ok-read_once.ensures.bytes c.if-branch.true
