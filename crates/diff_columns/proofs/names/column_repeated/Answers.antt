use Rattle.std.proofs.Common.{◌≡◌, false, true, sym, ◌∙◌, below_more, rules}
use Rattle.diff_columns.specs.Names.{IsRepeated}
use Rattle.diff_columns.proofs.NameLemmas.{are_distinct}
use Rattle.diff_columns.proofs.names.column_repeated.Goals as goal

pub loop-column-preserved : goal.loop-column-preserved
loop-column-preserved g c =
    let not_here : c.is_repeated.result ≡ false = search rules in
    below_more (λ d. ¬ (IsRepeated (g.N.ByteRows.strings c.args.names.now) d)) c.loop-column.column c.loop-column.invariant
    (λ h. let clash : true ≡ false = sym (c.is_repeated.ensures.1 h) ∙ not_here in absurd (cc))

pub returns : goal.returns
returns g c = are_distinct (g.N.ByteRows.strings c.args.names.now) c.loop-column.column (search rules) c.loop-column.invariant

pub returns-then-is_repeated : goal.returns-then-is_repeated
returns-then-is_repeated g c = c.is_repeated.ensures.0 c.if-is_repeated.true
