use Rattle.std.proofs.Common.{◌≡◌, take, fold}
use Rattle.diff_keys.specs.Hashes.{hash_step}
use Rattle.diff_keys.proofs.hash.key_hash.Given as goal

abbrev pub invariant-loop-byte : goal.invariant-loop-byte
invariant-loop-byte l = l.hash ≡ fold hash_step 0xcbf29ce484222325 (take l.byte-index l.key)
