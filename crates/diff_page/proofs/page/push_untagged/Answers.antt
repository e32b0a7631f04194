use Rattle.std.proofs.Common.{arith, ◌≡◌, ◌∙◌, ap, refl, sym, ◌++◌, [], ◌+◌, get_or}
use Rattle.std.proofs.lemmas.List.{append-nil, take_all}
use Rattle.diff_page.specs.Page.{untagged, untagged_byte}
use Rattle.diff_page.proofs.Escapes.{untagged_more}
use Rattle.diff_page.proofs.page.push_untagged.Goals as goal

pub loop-byte-init : goal.loop-byte-init
unfolding untagged
loop-byte-init c = sym (append-nil c.args.out.now.items)

pub loop-byte-preserved : goal.loop-byte-preserved
loop-byte-preserved c =
    let step : c.push_byte.new.out.items ≡ c.loop-byte.out.items ++ untagged_byte (get_or c.args.text.now c.loop-byte.byte-index 0) = c.in_ok-push_byte.ensures in
    step ∙ (ap (λ l. l ++ untagged_byte (get_or c.args.text.now c.loop-byte.byte-index 0)) c.loop-byte.invariant
    ∙ untagged_more c.args.out.now.items c.args.text.now c.loop-byte.byte-index (omega arith))
