use Rattle.diff_tables.proofs.strings.Strings.into_cells.Goals as goal

pub returns : goal.returns
returns c = λ all kept. rw c.far.ensures (c.in_ok-array.ensures.1 all kept)
