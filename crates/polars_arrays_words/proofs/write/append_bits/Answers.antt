use Rattle.std.proofs.Common.{◌≡◌, ◌+◌, ◌-◌, ◌*◌, ◌<◌, ◌≤◌, List, Bool, ℕ, false, length, min, sym, subst, ◌∙◌, arith}
use Rattle.polars_arrays_words.specs.Bits.{first_of}
use Rattle.polars_arrays_words.specs.Packing.{AreAppended}
use Rattle.polars_arrays_words.proofs.Appends.{appended-more}
use Rattle.polars_arrays_words.proofs.Firsts.{get_or-first}
use Rattle.polars_arrays_words.proofs.write.append_bits.Goals as goal

pub loop-k-preserved : goal.loop-k-preserved
loop-k-preserved g c =
    let values : List Bool = first_of (g.S.BitSource.bit c.args.source.now) c.args.len in
    let n : ℕ = 64 * c.loop-k.k in
    let low : n < c.args.len = omega (arith, c.loop-k-test.true, c.div_ceil-k-end.ensures) in
    let here : min n c.args.len ≡ n = omega (arith, low) in
    let count : ℕ = min (64 * (c.loop-k.k + 1)) c.args.len - n in
    let few : count ≤ 64 = omega arith in
    let next : n + count ≡ min (64 * (c.loop-k.k + 1)) c.args.len = omega (arith, low) in
    let within : n + count ≤ c.args.len = omega (arith, low) in
    let room : c.args.from + (n + count) ≤ 64 * length c.args.words.now = omega (arith, within, c.requires.room) in
    subst
    (λ m. AreAppended c.args.words.now c.put_word.new.words c.args.from values m)
    next
    (appended-more
    c.args.words.now c.loop-k.words c.put_word.new.words c.args.from c.word.result values n count room few
    (λ i below. c.word.ensures.bits i (omega (arith, below, few)) ∙ sym (get_or-first (g.S.BitSource.bit c.args.source.now) c.args.len (n + i) false (omega (arith, below, within))))
    (subst (λ m. AreAppended c.args.words.now c.loop-k.words c.args.from values m) here c.loop-k.invariant)
    c.put_word.ensures)
