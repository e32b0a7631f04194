use Rattle.std.proofs.Common.{◌≡◌, ◌<◌, ◌*◌, ◌-◌, ◌^◌, ℤ, bit_and, length, ap, arith}
use Rattle.std.specs.Int.{w128}
use Rattle.std.proofs.lemmas.Int.{ints, to_z-of_z}
use Rattle.polars_compute_slots.specs.State.{set_of}
use Rattle.arrow_unique.proofs.Lowest.{less-left}
use Rattle.arrow_unique.proofs.Seen.{has-room, left-next, left-word, listed-all, listed-end, listed-next, listed-none, listed-word, place-in}
use Rattle.arrow_unique.specs.Memory.{state_in}
use Rattle.arrow_unique.proofs.listing.list.Goals as goal
use mir.Val.{of_z, to_z}

pub loop-k-init : goal.loop-k-init
loop-k-init c = listed-none (to_z w128 (of_z w128 c.args.least)) c.args.count c.args.words.now c.args.out.now

pub loop-rest-init : goal.loop-rest-init
loop-rest-init c =
    let least = to_z w128 (of_z w128 c.args.least) in (
      listed-word least c.args.count c.args.words.now c.args.out.now c.loop-k.k c.word-rest.result c.loop-k.n c.loop-k.out (omega arith) c.word-rest.ensures c.loop-k.invariant,
      left-word least c.args.count c.args.words.now c.loop-k.k c.word-rest.result c.word-rest.ensures,
    )

pub low_word_at-requires : goal.low_word_at-requires
low_word_at-requires c =
    let inside = place-in (to_z w128 (of_z w128 c.args.least)) c.args.count c.args.words.now c.loop-k.k c.loop-rest.rest (omega (arith, c.loop-rest-test.true)) (omega arith) c.loop-rest.invariant.1 in
    omega (arith, ints, inside, c.requires.numbers)

pub bounds-out-n : goal.bounds-out-n
bounds-out-n c =
    let least = to_z w128 (of_z w128 c.args.least) in
    let same : least ≡ c.args.least = to_z-of_z w128 c.args.least c.ranges.least in
    let room = ap (λ (l : ℤ). length (set_of (state_in l c.args.count c.args.words.now 0))) same in
    let has = has-room least c.args.count c.args.words.now c.loop-k.k c.loop-rest.rest (omega (arith, c.loop-rest-test.true)) (omega arith) c.loop-rest.invariant.1 c.args.out.now c.loop-rest.n 0 c.loop-rest.out c.loop-rest.invariant.0 (omega (arith, room, c.requires.room 0)) in
    omega (arith, has, c.loop-rest.auto.out, c.loop-k.auto.out)

pub loop-rest-preserved : goal.loop-rest-preserved
loop-rest-preserved c =
    let least = to_z w128 (of_z w128 c.args.least) in
    let same : least ≡ c.args.least = to_z-of_z w128 c.args.least c.ranges.least in
    let rest = c.loop-rest.rest in
    let some : 0 < rest = omega (arith, c.loop-rest-test.true) in
    let fits : rest < 2 ^ 64 = omega arith in
    let small : bit_and rest (rest - 1) < 2 ^ 64 = omega (arith, less-left rest some) in
    let room = ap (λ (l : ℤ). length (set_of (state_in l c.args.count c.args.words.now 0))) same in
    let has = has-room least c.args.count c.args.words.now c.loop-k.k rest some fits c.loop-rest.invariant.1 c.args.out.now c.loop-rest.n 0 c.loop-rest.out c.loop-rest.invariant.0 (omega (arith, room, c.requires.room 0)) in (
      listed-next least c.args.count c.args.words.now c.loop-k.k rest some fits c.loop-rest.invariant.1 c.args.out.now c.loop-rest.n c.low_word_at.result c.loop-rest.out small c.loop-rest.invariant.0 has c.low_word_at.ensures,
      left-next least c.args.count c.args.words.now c.loop-k.k rest some fits c.loop-rest.invariant.1 small,
    )

pub loop-rest-smaller : goal.loop-rest-smaller
loop-rest-smaller c = less-left c.loop-rest.rest (omega (arith, c.loop-rest-test.true))

pub loop-k-preserved : goal.loop-k-preserved
loop-k-preserved c =
    listed-end (to_z w128 (of_z w128 c.args.least)) c.args.count c.args.words.now c.args.out.now c.loop-k.k c.loop-rest.rest c.loop-rest.n c.loop-rest.out (omega (arith, c.loop-rest-test.false)) c.loop-rest.invariant.0

pub returns : goal.returns
returns c flag =
    let least = to_z w128 (of_z w128 c.args.least) in
    let same : least ≡ c.args.least = to_z-of_z w128 c.args.least c.ranges.least in
    rw same at (listed-all least c.args.count c.args.words.now c.args.out.now (64 * c.loop-k.k) c.loop-k.n flag c.loop-k.out (omega (arith, c.loop-k-test.false)) c.loop-k.invariant)
