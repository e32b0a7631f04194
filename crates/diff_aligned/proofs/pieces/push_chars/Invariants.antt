use Rattle.std.proofs.Common.{◌≡◌, ◌++◌, drop}
use Rattle.std.specs.Prelude.{encode_utf8_all}
use Rattle.diff_aligned.proofs.pieces.push_chars.Given as goal

abbrev pub invariant-loop-c : goal.invariant-loop-c
invariant-loop-c l = l.out.items ++ encode_utf8_all (drop l.c-index l.text) ≡ l.fn.out.items ++ encode_utf8_all l.text
