use Rattle.std.proofs.Common.{◌≡◌, length, rules}
use Rattle.diff_keys.specs.Found.{AreClasses}
use Rattle.diff_keys.proofs.FoundLemmas.{classes_below}
use Rattle.diff_keys.proofs.partners.push_block.Goals as goal

pub heads_of-requires : goal.heads_of-requires
heads_of-requires g c =
    let count : c.len.result ≡ length c.args.waiting.now.heads.items = search rules in
    let classes : AreClasses (g.L.ByteRows.strings c.args.left.now) (length c.args.waiting.now.heads.items) c.args.start c.args.end c.deref.result.now = rw (c.deref.ensures.value, ← count) c.in_ok-classes.ensures in
    classes_below (g.L.ByteRows.strings c.args.left.now) (length c.args.waiting.now.heads.items) c.args.start c.args.end c.deref.result.now classes c.requires.found.waiting.some
