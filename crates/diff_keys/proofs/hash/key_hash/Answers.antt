use Rattle.std.proofs.Common.{rules, take_all}
use Rattle.std.proofs.lemmas.List.Sums.{fold_more}
use Rattle.diff_keys.specs.Hashes.{key_hash}
use Rattle.diff_keys.proofs.hash.key_hash.Goals as goal

pub loop-byte-preserved : goal.loop-byte-preserved
loop-byte-preserved c = search (rules, fold_more)

pub returns : goal.returns
unfolding key_hash
returns c = search (rules, take_all)
