use Rattle.std.proofs.Common.{◌≡◌, ◌++◌, ◌∷◌, []}
use Rattle.std.specs.List.{flat_map}
use Rattle.bstr.specs.Utf8.{lossy_chars}
use Rattle.diff_json.specs.Strings.{char_text}
use Rattle.diff_json.proofs.strings.push_string.Given as goal

abbrev pub invariant-loop-c : goal.invariant-loop-c
invariant-loop-c l = l.out.items ++ flat_map char_text l.c-iterator ≡ (l.fn.out.items ++ 34 ∷ []) ++ flat_map char_text (lossy_chars l.fn.bytes)
