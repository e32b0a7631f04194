use Rattle.json_groups.proofs.groups.Groups.into_groups.Goals as goal

pub returns : goal.returns
returns g c = λ documents held. held.groups
