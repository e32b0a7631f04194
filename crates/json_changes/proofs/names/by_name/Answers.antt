use Rattle.std.proofs.Common.{◌≡◌, ◌+◌, [], ◌∷◌, ◌++◌, List, take, ap, sym, ◌∙◌, subst, arith, Global}
use Rattle.std.proofs.lemmas.List.{take_more}
use Rattle.json.specs.Value.{members_view}
use Rattle.json_changes.proofs.PartLemmas.{Pair}
use Rattle.json_changes.proofs.TableLemmas.{one_more}
use Rattle.json_changes.specs.Names.{FindsMembers}
use Rattle.json_changes.proofs.names.by_name.Goals as goal

pub loop-i-preserved : goal.loop-i-preserved
loop-i-preserved c =
    let ms = c.args.members.now.items in
    let i = c.loop-i.i in
    let m = c.index-member.result.now in
    let front : take (i + 1) ms ≡ take i ms ++ m ∷ [] = take_more ms i m (omega arith) ∙ ap (λ (n : Pair Global). take i ms ++ n ∷ []) (sym c.index-member.ensures) in
    subst (λ (ns : List (Pair Global)). FindsMembers c.insert.new.self (members_view ns)) (sym front) (one_more c.loop-i.names c.insert.new.self m.0 _ (take i ms) c.loop-i.invariant c.in_ok-insert.ensures.updates.0)

pub returns-then-len-le-FEW : goal.returns-then-len-le-FEW
returns-then-len-le-FEW c = λ many. absurd (omega arith)
