use Rattle.std.proofs.Common.{◌≡◌, ◌<◌, ◌++◌, ◌∷◌, [], length, get_or, subst, sym, arith}
use Rattle.std.proofs.lemmas.Iterator.Adapters.{YieldsList-from_vec}
use Rattle.std.proofs.lemmas.Iterator.Consumers.{YieldsList-turn}
use Rattle.json_groups.specs.Groups.{IsGroupOf}
use Rattle.schema_paths.specs.Kinds.{HasKinds}
use Rattle.schema_paths.proofs.PathLemmas.{AreFirst, one_more}
use Rattle.schema_paths.proofs.paths.schemas_of.Goals as goal

pub schema_of-requires : goal.schema_of-requires
schema_of-requires c =
    let (parts, numeric, grouped) = c.requires in
    let all = c.args.groups.items in
    let e = YieldsList-from_vec {s = c.into_iter-group-iterator.result} all c.into_iter-group-iterator.ensures.into_iter_gives.0 (omega (arith, c.into_iter-group-iterator.ensures.into_iter_gives.1)) in
    let t = YieldsList-turn e c.loop-group.yielded _ c.loop-group.yielded_by c.next.result c.next.new.self c.in-Some.group c.in-Some.is c.next.ensures.steps in
    (parts, numeric, subst (IsGroupOf HasKinds parts) (sym t.1) (grouped.each (length c.loop-group.yielded) c.in-Some.group t.0))

pub loop-group-preserved : goal.loop-group-preserved
loop-group-preserved c = λ parts grouped many.
    let all = c.args.groups.items in
    let e = YieldsList-from_vec {s = c.into_iter-group-iterator.result} all c.into_iter-group-iterator.ensures.into_iter_gives.0 (omega (arith, c.into_iter-group-iterator.ensures.into_iter_gives.1)) in
    let t = YieldsList-turn e c.loop-group.yielded _ c.loop-group.yielded_by c.next.result c.next.new.self c.in-Some.group c.in-Some.is c.next.ensures.steps in
    let own : IsGroupOf HasKinds parts c.in-Some.group = subst (IsGroupOf HasKinds parts) (sym t.1) (grouped.each (length c.loop-group.yielded) c.in-Some.group t.0) in
    subst (AreFirst parts (c.loop-group.yielded ++ c.in-Some.group ∷ [])) (sym c.in_ok-push.ensures.items)
    (one_more parts c.loop-group.yielded c.loop-group.schemas.items c.in-Some.group c.in_ok-schema.schema (c.loop-group.invariant parts grouped many) c.in_ok-schema.ensures.path (c.in_ok-schema.ensures.schema parts own many))
