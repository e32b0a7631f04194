use Rattle.std.proofs.Common.{◌≡◌, ◌+◌, ◌-◌, ◌*◌, ◌%◌, ◌≤◌, List, Bool, ℕ, length, subst, arith}
use Rattle.polars_arrays_words.specs.Packing.{AreAppended}
use Rattle.polars_arrays_words.proofs.Appends.{appended-none, appended-more}
use Rattle.polars_arrays_words.proofs.write.append_values.Goals as goal

pub loop-k-init : goal.loop-k-init
loop-k-init g c = appended-none c.args.words.now c.args.from (g.V.TruthValues.values c.args.values.now)

pub loop-k-preserved : goal.loop-k-preserved
loop-k-preserved g c =
    let values : List Bool = g.V.TruthValues.values c.args.values.now in
    let k : ℕ = c.loop-k.k in
    let next : 64 * k + 64 ≡ 64 * (k + 1) = omega arith in
    let room : c.args.from + (64 * k + 64) ≤ 64 * length c.args.words.now = omega (arith, c.len-len.ensures, c.requires.room) in
    subst
    (λ n. AreAppended c.args.words.now c.put_word.new.words c.args.from values n)
    next
    (appended-more
    c.args.words.now c.loop-k.words c.put_word.new.words c.args.from c.pack_word.result values (64 * k) 64 room (omega arith)
    c.pack_word.ensures.bits c.loop-k.invariant c.put_word.ensures)

pub returns : goal.returns
returns g c =
    let values : List Bool = g.V.TruthValues.values c.args.values.now in
    let len : ℕ = c.len-len.result in
    let rest : ℕ = len % 64 in
    let done : 64 * c.loop-k.k ≡ len - rest = omega arith in
    let all : len - rest + rest ≡ length values = omega (arith, c.len-len.ensures) in
    let room : c.args.from + (len - rest + rest) ≤ 64 * length c.args.words.now = omega (arith, all, c.requires.room) in
    subst
    (λ n. AreAppended c.args.words.now c.put_word-2.new.words c.args.from values n)
    all
    (appended-more
    c.args.words.now c.loop-k.words c.put_word-2.new.words c.args.from c.pack_few.result values (len - rest) rest room (omega arith)
    c.pack_few.ensures.bits
    (subst (λ n. AreAppended c.args.words.now c.loop-k.words c.args.from values n) done c.loop-k.invariant)
    c.put_word-2.ensures)
