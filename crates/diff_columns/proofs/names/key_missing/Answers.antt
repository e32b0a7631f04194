use Rattle.std.proofs.Common.{◌≡◌, true, [], arith, sym, subst, below_more, rules}
use Rattle.std.specs.Prelude.{Contains}
use Rattle.diff_columns.specs.Names.{name_at, names_of}
use Rattle.diff_columns.proofs.NameLemmas.{all_there, length_names, name_lent, nothing}
use Rattle.diff_columns.proofs.names.key_missing.Goals as goal

pub loop-k-preserved : goal.loop-k-preserved
loop-k-preserved g c =
    let names = g.N.ByteRows.strings c.args.names.now in
    let keys = c.args.keys.now in
    let has : c.has_column.result ≡ true = search rules in
    below_more (λ k. Contains names (name_at (names_of keys) k)) c.loop-k.k c.loop-k.invariant
    (subst (λ name. Contains names name) (sym (name_lent keys c.loop-k.k nothing [] (omega arith))) (c.has_column.ensures.0 has))

pub returns : goal.returns
returns g c =
    all_there (g.N.ByteRows.strings c.args.names.now) (names_of c.args.keys.now) c.loop-k.k (omega (arith, length_names c.args.keys.now)) c.loop-k.invariant
