use Rattle.std.proofs.Common.{◌≡◌, ◌++◌, take}
use Rattle.diff_page.specs.Page.{untagged}
use Rattle.diff_page.proofs.page.push_untagged.Given as goal

abbrev pub invariant-loop-byte : goal.invariant-loop-byte
invariant-loop-byte l = l.out.items ≡ l.fn.out.items ++ untagged (take l.byte-index l.text)
