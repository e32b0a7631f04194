use Rattle.std.proofs.Common.{◌≡◌, take, fold}
use Rattle.diff_keys.specs.Hashes.{hash_step}
use Rattle.diff_tables.specs.Keys.{row_key}
use Rattle.diff_parts.proofs.rows.row_hash.Given as goal

abbrev pub invariant-loop-column : goal.invariant-loop-column
invariant-loop-column g l = l.hash ≡ fold hash_step 0xcbf29ce484222325 (row_key (take l.column-index l.keys) (g.S.StringList.strings l.cells))
