use Rattle.std.proofs.Common.{◌≡◌, ◌++◌, take}
use Rattle.polars_arrays_bytes.specs.OffsetStrings.{offset_strings}
use Rattle.diff_run.specs.Lone.{alone_lines}
use Rattle.diff_run.proofs.lone.push_alone.Given as goal

abbrev pub invariant-loop-column : goal.invariant-loop-column
invariant-loop-column l = l.out.items ≡ l.fn.out.items ++ alone_lines l.fn.format l.fn.side l.fn.input (offset_strings (λ x. x) l.fn.names) (take l.column-index l.columns)
