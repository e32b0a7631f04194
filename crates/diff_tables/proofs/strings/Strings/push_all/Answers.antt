use Rattle.std.proofs.Common.{◌≡◌, ◌+◌, ◌++◌, ◌∷◌, [], arith, get_or, refl, subst, take}
use Rattle.std.proofs.lemmas.List.{append_assoc, take_all, take_more}
use Rattle.diff_tables.specs.Strings.{AreStrings}
use Rattle.diff_tables.proofs.strings.Strings.push_all.Goals as goal

pub loop-i-preserved : goal.loop-i-preserved
loop-i-preserved g c = record {
  room = omega (arith, c.loop-i.invariant.room, c.push_within.ensures.ends, c.push_within.ensures.capacity);
  pushed = λ all old.
      let more : take (c.loop-i.i + 1) (g.S.StringList.strings c.args.strings.now) ≡ take c.loop-i.i (g.S.StringList.strings c.args.strings.now) ++ get_or (g.S.StringList.strings c.args.strings.now) c.loop-i.i [] ∷ [] =
      take_more (g.S.StringList.strings c.args.strings.now) c.loop-i.i [] (omega arith) in
      let one : (all ++ take c.loop-i.i (g.S.StringList.strings c.args.strings.now)) ++ c.string.result.now ∷ [] ≡ all ++ take (c.loop-i.i + 1) (g.S.StringList.strings c.args.strings.now) =
      rw (more, c.string.ensures, append_assoc) refl in
      subst (λ l. AreStrings c.push_within.new.self l) one (c.in_ok-push_within.ensures.pushed (all ++ take c.loop-i.i (g.S.StringList.strings c.args.strings.now)) (c.loop-i.invariant.pushed all old));
}

pub returns : goal.returns
returns g c = λ all old.
    let end : take c.loop-i.i (g.S.StringList.strings c.args.strings.now) ≡ g.S.StringList.strings c.args.strings.now = take_all c.loop-i.i (g.S.StringList.strings c.args.strings.now) (omega arith) in
    subst (λ l. AreStrings c.loop-i.self (all ++ l)) end (c.loop-i.invariant.pushed all old)
