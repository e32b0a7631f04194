use Rattle.std.proofs.Common.{◌≡◌, ◌++◌, replicate}
use Rattle.document_words.proofs.numbers.push_zeros.Given as goal

abbrev pub invariant-loop : goal.invariant-loop
invariant-loop l = l.out.items ≡ l.fn.out.items ++ replicate l.counter 48
