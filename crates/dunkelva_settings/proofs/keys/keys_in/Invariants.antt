use Rattle.std.proofs.Common.{◌≡◌, length}
use Rattle.dunkelva_settings.proofs.keys.keys_in.Given as goal

abbrev pub invariant-loop-word : goal.invariant-loop-word
invariant-loop-word l = length l.names.items ≡ length l.paths.items
