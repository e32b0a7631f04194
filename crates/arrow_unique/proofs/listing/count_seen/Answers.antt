use Rattle.std.proofs.Common.{◌∙◌}
use Rattle.arrow_unique.proofs.Listed.{count-is}
use Rattle.arrow_unique.proofs.listing.count_seen.Goals as goal

pub returns : goal.returns
returns c least flag = c.count_window.ensures ∙ count-is least c.args.count c.args.words.now flag
