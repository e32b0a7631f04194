use Rattle.std.proofs.Common.{arith}
use Rattle.diff_keys.proofs.partners.push_all.Goals as goal

pub loop-start-init : goal.loop-start-init
loop-start-init g c = record {
  within = omega arith;
  found = c.requires;
}
