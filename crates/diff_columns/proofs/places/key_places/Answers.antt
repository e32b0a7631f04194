use Rattle.std.proofs.Common.{◌<◌, ◌+◌, [], length, arith, sym, subst}
use Rattle.diff_columns.specs.Layout.{IsPlace}
use Rattle.diff_columns.specs.Names.{names_of}
use Rattle.diff_columns.specs.Pairs.{HasPlace}
use Rattle.diff_columns.proofs.LayoutLemmas.{one_place}
use Rattle.diff_columns.proofs.NameLemmas.{length_names, name_lent, nothing}
use Rattle.diff_columns.proofs.places.key_places.Goals as goal

pub place_named-place-requires-clause-place : goal.place_named-place-requires-clause-place
place_named-place-requires-clause-place g c =
    let keys = c.args.keys.now in
    let within : c.loop-k.k < length keys = omega arith in
    subst (λ name. HasPlace (g.N.ByteRows.strings c.args.names.now) c.args.columns.now name) (name_lent keys c.loop-k.k nothing [] within)
    (c.requires.places c.loop-k.k [] (omega (arith, within, length_names keys)))

pub loop-k-preserved : goal.loop-k-preserved
loop-k-preserved g c =
    let names = g.N.ByteRows.strings c.args.names.now in
    let columns = c.args.columns.now in
    let keys = c.args.keys.now in
    let place = c.place_named-place.result in
    rw c.in_ok-push.ensures.items
    (one_place names columns (names_of keys) c.loop-k.k (c.loop-k.k + 1) place c.loop-k.places.items c.loop-k.invariant
    (subst (λ name. IsPlace names columns name place) (sym (name_lent keys c.loop-k.k nothing [] (omega arith))) c.place_named-place.ensures) (omega arith))
