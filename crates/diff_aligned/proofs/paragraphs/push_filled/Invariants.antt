use Rattle.std.proofs.Common.{◌≡◌, ◌++◌, drop}
use Rattle.std.specs.Prelude.{map}
use Rattle.diff_aligned.specs.Paragraphs.{filled, texts_bytes}
use Rattle.diff_aligned.proofs.paragraphs.push_filled.Given as goal

abbrev pub invariant-loop-word : goal.invariant-loop-word
invariant-loop-word l =
    l.out.items ++ texts_bytes (filled l.width l.line.items (map (λ v. v.items) (drop l.word-index l.words))) ≡ l.fn.out.items ++ texts_bytes (filled l.fn.width l.fn.first.items (map (λ v. v.items) l.words))
