use Rattle.std.proofs.Common.{◌<◌, ◌+◌, arith, rules}
use Rattle.std.proofs.lemmas.List.Elements.{All-get_or}
use Rattle.diff_keys.proofs.ListingLemmas.{all_set, one_set}
use Rattle.diff_keys.proofs.listing.flags_of.Goals as goal

pub loop-k-preserved : goal.loop-k-preserved
loop-k-preserved c =
    one_set c.args.rows.now c.args.count c.loop-k.k (c.loop-k.k + 1) c.loop-k.is_listed.items c.loop-k.invariant
    (search rules) (All-get_or (λ j. j < c.args.count) c.args.rows.now c.loop-k.k 0 (search rules) c.requires) (omega arith)

pub returns : goal.returns
returns c = all_set c.args.rows.now c.args.count c.loop-k.k c.loop-k.is_listed.items c.loop-k.invariant (search rules)
