use Rattle.std.proofs.Common.{◌*◌, ◌/◌, ◌≤◌, arith}
use Rattle.polars_arrays_words.proofs.WrittenBits.{written-more}
use Rattle.polars_arrays_words.proofs.write.fill_bits.Goals as goal

pub write_bits-requires : goal.write_bits-requires
write_bits-requires c = record {
  order = omega (arith, c.div_ceil-first.ensures);
  room = omega (arith, c.if-first-last.true, c.requires.room);
}

pub write_words-requires : goal.write_words-requires
write_words-requires c = record {
  order = omega (arith, c.if-first-last.true);
  room = omega (arith, c.requires.room, c.write_bits.ensures.count);
}

pub write_bits-requires-then-first-last : goal.write_bits-requires-then-first-last
write_bits-requires-then-first-last c = record {
  order = omega arith;
  room = omega (arith, c.requires.room, c.write_bits.ensures.count, c.write_words.ensures.count);
}

pub returns-then-first-last : goal.returns-then-first-last
returns-then-first-last c =
    let first = 64 * c.div_ceil-first.result in
    let last = 64 * (c.args.to / 64) in
    let begin : c.args.from ≤ first = omega (arith, c.div_ceil-first.ensures) in
    let middle : first ≤ last = omega (arith, c.if-first-last.true) in
    let words = written-more c.args.words.now c.write_bits.new.words c.write_words.new.words c.args.from first last c.args.value c.write_bits.ensures c.write_words.ensures begin middle in
    written-more c.args.words.now c.write_words.new.words c.write_bits-then-first-last.new.words c.args.from last c.args.to c.args.value words c.write_bits-then-first-last.ensures (omega (arith, begin, middle)) (omega arith)

pub returns-else-first-last : goal.returns-else-first-last
returns-else-first-last c = c.write_bits-else-first-last.ensures
