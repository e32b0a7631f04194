use Rattle.std.proofs.Common.{arith}
use Rattle.std.proofs.lemmas.Int.{ints}
use Rattle.polars_compute_slots.proofs.Marked.{place-is}
use Rattle.arrow_unique.proofs.Marked.{marked-number}
use Rattle.arrow_unique.proofs.marking.mark_number.Goals as goal

pub set_bit-requires : goal.set_bit-requires
set_bit-requires g c =
    let far = place-is (g.T.Number.value c.args.span.now.least) (g.T.Number.value c.args.number) c.requires.fit.0 in
    omega (arith, ints, far, c.requires.fit.1, c.slot.ensures, c.requires.room)

pub returns : goal.returns
returns g c =
    marked-number (g.T.Number.value c.args.span.now.least) (g.T.Number.value c.args.number) c.args.span.now.count c.slot.result c.args.words.now c.set_bit.new.words
    c.set_bit.ensures c.requires.fit c.slot.ensures
