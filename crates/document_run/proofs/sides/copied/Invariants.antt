use Rattle.std.proofs.Common.{◌≡◌, map, take}
use Rattle.diff_columns.specs.Names.{names_of}
use Rattle.document_run.proofs.sides.copied.Given as goal

abbrev pub invariant-loop-name : goal.invariant-loop-name
invariant-loop-name l = map (λ v. v.items) l.copies.items ≡ names_of (take l.name-index l.names)
