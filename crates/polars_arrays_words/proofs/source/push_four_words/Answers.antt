use Rattle.std.proofs.Common.{◌∙◌, ◌+◌, arith}
use Rattle.polars_arrays_words.proofs.Pushed.{AreWords-pushed}
use Rattle.polars_arrays_words.proofs.source.push_four_words.Goals as goal

pub push_reserved-requires : goal.push_reserved-requires
push_reserved-requires g c = omega (arith, c.args.words.now.ok.0, c.requires.before.count, c.requires.room)

pub push_reserved-requires-2 : goal.push_reserved-requires-2
push_reserved-requires-2 g c = omega (arith, c.args.words.now.ok.0, c.requires.before.count, c.requires.room, c.push_reserved.ensures.len, c.push_reserved.ensures.capacity)

pub push_reserved-requires-3 : goal.push_reserved-requires-3
push_reserved-requires-3 g c = omega (arith, c.args.words.now.ok.0, c.requires.before.count, c.requires.room, c.push_reserved.ensures.len, c.push_reserved.ensures.capacity, c.push_reserved-2.ensures.len, c.push_reserved-2.ensures.capacity)

pub push_reserved-requires-4 : goal.push_reserved-requires-4
push_reserved-requires-4 g c = omega (arith, c.args.words.now.ok.0, c.requires.before.count, c.requires.room, c.push_reserved.ensures.len, c.push_reserved.ensures.capacity, c.push_reserved-2.ensures.len, c.push_reserved-2.ensures.capacity, c.push_reserved-3.ensures.len, c.push_reserved-3.ensures.capacity)

pub returns-clause-words : goal.returns-clause-words
returns-clause-words g c =
    let bit = g.S.BitSource.bit c.args.source.now in
    let k = c.args.k in
    let first = AreWords-pushed bit k (k + 1) c.inner_word-first.result c.args.words.now.items c.push_reserved.new.self.items c.requires.before c.inner_word-first.ensures c.push_reserved.ensures.items (omega arith) in
    let second = AreWords-pushed bit (k + 1) (k + 2) c.inner_word-second.result c.push_reserved.new.self.items c.push_reserved-2.new.self.items first c.inner_word-second.ensures c.push_reserved-2.ensures.items (omega arith) in
    let third = AreWords-pushed bit (k + 2) (k + 3) c.inner_word-third.result c.push_reserved-2.new.self.items c.push_reserved-3.new.self.items second c.inner_word-third.ensures c.push_reserved-3.ensures.items (omega arith) in
    AreWords-pushed bit (k + 3) (k + 4) c.inner_word-fourth.result c.push_reserved-3.new.self.items c.push_reserved-4.new.self.items third c.inner_word-fourth.ensures c.push_reserved-4.ensures.items (omega arith)

pub returns-clause-room : goal.returns-clause-room
returns-clause-room g c = c.push_reserved-4.ensures.capacity ∙ c.push_reserved-3.ensures.capacity ∙ c.push_reserved-2.ensures.capacity ∙ c.push_reserved.ensures.capacity
