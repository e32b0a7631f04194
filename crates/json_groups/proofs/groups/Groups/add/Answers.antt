use Rattle.std.proofs.Common.{◌≡◌, ℕ, Some, arith, get_or, refl, rules}
use Rattle.json.specs.Value.{value_view}
use Rattle.json_parts.specs.Parts.{part}
use Rattle.json_groups.specs.Groups.{group_paths, place_of}
use Rattle.json_groups.proofs.GroupLemmas.{many_paths, part_more}
use Rattle.json_groups.proofs.groups.Groups.add.Goals as goal

pub index_mut-requires : goal.index_mut-requires
index_mut-requires g c =
    let (done, parts, held) = c.requires in
    let there : place_of c.args.path.now c.args.self.now.places ≡ Some c.in-Some.place = search rules in
    omega (arith, held.found.within c.args.path.now c.in-Some.place there, many_paths c.args.self.now.groups.items)

pub returns : goal.returns
returns g c = λ done parts held.
    let s = c.args.self.now in
    let there : place_of c.args.path.now s.places ≡ Some c.in-Some.place = search rules in
    part_more g.T.Tally.Gathers done parts (part c.args.path.now (value_view c.args.value.now)) s _ c.in-Some.place c.index_mut.result.now c.add.new.self held there c.index_mut.ensures.value refl refl refl
    c.in_ok-add.ensures.path c.in_ok-add.ensures.documents c.in_ok-add.ensures.last c.in_ok-add.ensures.tally
