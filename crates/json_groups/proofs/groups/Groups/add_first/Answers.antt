use Rattle.std.proofs.Common.{◌≡◌, ◌∙◌, ℕ, List, length, ap, arith, if◌then◌else◌, refl, Some}
use Rattle.std.specs.Str.{bytes_eq}
use Rattle.json.specs.Value.{value_view}
use Rattle.json_parts.specs.Parts.{part}
use Rattle.json_groups.specs.Groups.{place_of}
use Rattle.json_groups.proofs.GroupLemmas.{part_first, place_after}
use Rattle.json_groups.proofs.groups.Groups.add_first.Goals as goal

pub returns : goal.returns
returns g c = λ done parts none held.
    let s = c.args.self.now in
    let path = c.args.path.now in
    let key : c.in_ok-key.key.items ≡ path = c.in_ok-key.ensures.items in
    let many : c.len.result ≡ length s.groups.items = omega arith in
    let places = λ (q : List ℕ). place_after c.in_ok-key.key.items s.places c.insert.new.self c.len.result c.in_ok-insert.ensures.updates q
    ∙ ap (λ k. if bytes_eq k q then Some c.len.result else place_of q s.places) key ∙ ap (λ n. if bytes_eq path q then Some n else place_of q s.places) many in
    part_first g.T.Tally.Gathers done parts (part path (value_view c.args.value.now)) s (record { places = c.insert.new.self; groups = c.push.new.self; documents = s.documents }) c.in_ok-group.group c.add.new.self
    held none places refl c.in_ok-push.ensures.items c.in_ok-group.ensures.path c.in_ok-group.ensures.documents c.in_ok-group.ensures.last c.in_ok-group.ensures.tally
    c.in_ok-add.ensures.path c.in_ok-add.ensures.documents c.in_ok-add.ensures.last c.in_ok-add.ensures.tally
