use Rattle.std.proofs.Common.{rules, ◌≡◌, ◌++◌, false}
use Rattle.std.specs.Prelude.{codes}
use Rattle.std.specs.Str.{bytes_eq}
use Rattle.diff_markdown.specs.Escapes.{safe}
use Rattle.diff_markdown.proofs.TextLemmas.{noted}
use Rattle.diff_markdown.proofs.counts.push_hidden.Goals as goal

pub returns : goal.returns
returns c =
    let some : bytes_eq c.args.count.now (codes "0") ≡ false = search rules in
    let counted : c.push_safe.new.out.items ≡ c.extend_from_slice.new.self.items ++ safe c.args.count.now = search rules in
    noted (bytes_eq c.args.count.now (codes "0")) _ _ _ _ _ _ _ some c.in_ok-extend_from_slice.ensures.items counted c.in_ok-extend_from_slice-2.ensures.items
