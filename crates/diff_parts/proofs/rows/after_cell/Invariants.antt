use Rattle.std.proofs.Common.{◌≡◌, take, fold}
use Rattle.diff_keys.specs.Hashes.{hash_step}
use Rattle.diff_tables.proofs.KeyLemmas.{part}
use Rattle.diff_parts.proofs.rows.after_cell.Given as goal

abbrev pub invariant-loop-byte : goal.invariant-loop-byte
invariant-loop-byte l = l.after ≡ fold hash_step l.hash (part (take l.byte-index l.cell))
