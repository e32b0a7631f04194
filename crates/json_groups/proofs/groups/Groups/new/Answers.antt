use Rattle.std.proofs.Common.{refl}
use Rattle.json_groups.proofs.GroupLemmas.{nothing}
use Rattle.json_groups.proofs.groups.Groups.new.Goals as goal

pub returns : goal.returns
returns g c = nothing g.T.Tally.Gathers (record { places = c.new-places.result; groups = c.new-groups.result; documents = 0 }) c.new-places.ensures.empty c.new-groups.ensures.items refl
