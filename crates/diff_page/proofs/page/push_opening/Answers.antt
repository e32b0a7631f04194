use Rattle.diff_page.specs.declared.frame.TheConstants.{HEAD}
use Rattle.diff_page.specs.declared.style.TheConstants.{STYLE}
use Rattle.diff_page.specs.declared.frame.TheConstants.{BODY}
use Rattle.diff_page.specs.Page.{opening}
use Rattle.diff_page.proofs.Escapes.{three}
use Rattle.diff_page.proofs.page.push_opening.Goals as goal

pub returns : goal.returns
unfolding opening
returns c =
    three c.args.out.now.items HEAD.now STYLE.now BODY.now _ _ _ _ _ _
    c.as_bytes.ensures.value c.as_bytes-2.ensures.value c.as_bytes-3.ensures.value
    c.in_ok-extend_from_slice.ensures.items c.in_ok-extend_from_slice-2.ensures.items c.in_ok-extend_from_slice-3.ensures.items
