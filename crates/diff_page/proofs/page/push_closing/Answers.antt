use Rattle.diff_page.specs.declared.frame.TheConstants.{MIDDLE}
use Rattle.diff_page.specs.declared.script.TheConstants.{SCRIPT}
use Rattle.diff_page.specs.declared.frame.TheConstants.{END}
use Rattle.diff_page.specs.Page.{closing}
use Rattle.diff_page.proofs.Escapes.{three}
use Rattle.diff_page.proofs.page.push_closing.Goals as goal

pub returns : goal.returns
unfolding closing
returns c =
    three c.args.out.now.items MIDDLE.now SCRIPT.now END.now _ _ _ _ _ _
    c.as_bytes.ensures.value c.as_bytes-2.ensures.value c.as_bytes-3.ensures.value
    c.in_ok-extend_from_slice.ensures.items c.in_ok-extend_from_slice-2.ensures.items c.in_ok-extend_from_slice-3.ensures.items
