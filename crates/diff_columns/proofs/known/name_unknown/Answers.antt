use Rattle.std.proofs.Common.{◌≡◌, true, [], arith, sym, subst, below_more, rules}
use Rattle.diff_columns.specs.Names.{IsKnown, name_at, names_of}
use Rattle.diff_columns.proofs.NameLemmas.{all_meet, length_names, name_lent, nothing}
use Rattle.diff_columns.proofs.known.name_unknown.Goals as goal

pub loop-k-preserved : goal.loop-k-preserved
loop-k-preserved g c =
    let left = g.L.ByteRows.strings c.args.left.now in
    let right = g.R.ByteRows.strings c.args.right.now in
    let names = c.args.names.now in
    let known : c.is_known.result ≡ true = search rules in
    below_more (λ k. IsKnown left right (name_at (names_of names) k)) c.loop-k.k c.loop-k.invariant
    (subst (λ name. IsKnown left right name) (sym (name_lent names c.loop-k.k nothing [] (omega arith))) (c.is_known.ensures.0 known))

pub returns : goal.returns
returns g c =
    all_meet (IsKnown (g.L.ByteRows.strings c.args.left.now) (g.R.ByteRows.strings c.args.right.now)) (names_of c.args.names.now) c.loop-k.k (omega (arith, length_names c.args.names.now)) c.loop-k.invariant
