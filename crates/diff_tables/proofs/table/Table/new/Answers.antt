use Rattle.std.proofs.Common.{◌∙◌, ap, refl, length}
use Rattle.diff_tables.specs.Tables.{cut_rows}
use Rattle.diff_tables.proofs.table.Table.new.Goals as goal

pub invariant_of-result : goal.invariant_of-result
invariant_of-result c = let (all, kept, size) = c.requires in ap length (c.in_ok-cells.ensures all kept) ∙ size

pub returns : goal.returns
returns c = (refl, λ all kept. ap (cut_rows c.args.width c.args.count) (c.in_ok-cells.ensures all kept))
