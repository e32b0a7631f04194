use Rattle.std.proofs.Common.{◌+◌, ◌/◌, ◌%◌, ◌-◌}
use Rattle.diff_aligned.specs.Shown.{unit_escape}
use Rattle.diff_aligned.proofs.TextLemmas.{appended}
use Rattle.diff_aligned.proofs.shown.push_surrogates.Goals as goal

pub returns : goal.returns
returns c =
    appended c.args.out.now.items (unit_escape (0xD800 + (c.args.code - 0x10000) / 1024)) (unit_escape (0xDC00 + c.args.code % 1024)) _ _ c.in_ok-push_unit.ensures c.in_ok-push_unit-2.ensures
