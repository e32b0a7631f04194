use Rattle.std.proofs.Common.{◌∙◌}
use Rattle.polars_compare_nested.proofs.entries.KeyBlock.has_key.Goals as goal

pub returns : goal.returns
returns c = c.has_bit.ensures ∙ c.args.self.now.bits c.args.k c.requires
