use Rattle.std.proofs.Common.{arith, ◌≡◌, ◌∙◌, sym, ap, subst, ◌++◌, ◌∷◌, [], ◌+◌, get_or, take}
use Rattle.std.proofs.lemmas.List.{take_all, map_more}
use Rattle.diff_tables.specs.Keys.{row_key, row_keys}
use Rattle.diff_tables.specs.Strings.{AreStrings}
use Rattle.diff_tables.proofs.keys.keys_of.Goals as goal

pub loop-i-preserved : goal.loop-i-preserved
loop-i-preserved c =
    let before = row_keys c.args.columns.now (take c.loop-i.i c.args.table.now.rows) in
    let key : c.deref.result.now ≡ row_key c.args.columns.now (get_or c.args.table.now.rows c.loop-i.i []) = c.deref.ensures.value ∙ c.in_ok-write_key.ensures in
    let is : row_keys c.args.columns.now (take c.loop-i.i c.args.table.now.rows) ++ c.deref.result.now ∷ [] ≡ row_keys c.args.columns.now (take (c.loop-i.i + 1) c.args.table.now.rows) =
    ap (λ x. row_keys c.args.columns.now (take c.loop-i.i c.args.table.now.rows) ++ x ∷ []) key ∙ sym (map_more (row_key c.args.columns.now) c.args.table.now.rows c.loop-i.i [] (omega arith)) in
    subst (λ l. AreStrings c.push.new.self l) is (c.in_ok-push.ensures (row_keys c.args.columns.now (take c.loop-i.i c.args.table.now.rows)) c.loop-i.invariant)

pub into_array-requires : goal.into_array-requires
into_array-requires c = (row_keys c.args.columns.now (take c.loop-i.i c.args.table.now.rows), c.loop-i.invariant)

pub returns : goal.returns
returns c =
    let all : take c.loop-i.i c.args.table.now.rows ≡ c.args.table.now.rows = take_all c.loop-i.i c.args.table.now.rows (omega arith) in
    c.in_ok-array.ensures.1 (row_keys c.args.columns.now (take c.loop-i.i c.args.table.now.rows)) c.loop-i.invariant ∙ ap (row_keys c.args.columns.now) all
