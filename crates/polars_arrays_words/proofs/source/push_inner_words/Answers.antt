use Rattle.std.proofs.Common.{◌≡◌, ◌∙◌, ℕ, refl, subst, arith}
use Rattle.polars_arrays_words.specs.Bits.{AreWords}
use Rattle.polars_arrays_words.proofs.Pushed.{AreWords-pushed}
use Rattle.polars_arrays_words.proofs.source.push_inner_words.Goals as goal

pub loop-k-init : goal.loop-k-init
loop-k-init g c = record { words = c.requires.before; room = refl }

pub inner_word-requires : goal.inner_word-requires
inner_word-requires g c = omega (arith, c.requires.inner, c.loop-k-test.true)

pub push_reserved-requires : goal.push_reserved-requires
push_reserved-requires g c =
    omega (arith, c.loop-k.words.ok.0, c.loop-k.invariant.words.count, c.loop-k.invariant.room, c.requires.room, c.loop-k-test.true)

pub loop-k-preserved : goal.loop-k-preserved
loop-k-preserved g c = record {
  words = AreWords-pushed (g.S.BitSource.bit c.args.source.now) c.loop-k.k _ c.inner_word.result c.loop-k.words.items c.push_reserved.new.self.items c.loop-k.invariant.words c.inner_word.ensures c.push_reserved.ensures.items refl;
  room = c.push_reserved.ensures.capacity ∙ c.loop-k.invariant.room;
}

pub returns-clause-words : goal.returns-clause-words
returns-clause-words g c =
    let done : c.loop-k.k ≡ c.args.to = omega (arith, c.loop-k.auto.k-end c.requires.order, c.loop-k-test.false) in
    subst (λ (n : ℕ). AreWords (g.S.BitSource.bit c.args.source.now) n c.loop-k.words.items) done c.loop-k.invariant.words
