use Rattle.std.proofs.Common.{◌≡◌, ◌++◌}
use Rattle.std.specs.List.{flat_map}
use Rattle.bstr.specs.Utf8.{lossy_chars}
use Rattle.diff_aligned.specs.Shown.{shown_char}
use Rattle.diff_aligned.proofs.shown.push_text.Given as goal

abbrev pub invariant-loop-c : goal.invariant-loop-c
invariant-loop-c l = l.out.items ++ flat_map shown_char l.c-iterator ≡ l.fn.out.items ++ flat_map shown_char (lossy_chars l.fn.bytes)
