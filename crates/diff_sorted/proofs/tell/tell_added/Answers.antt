use Rattle.std.proofs.Common.{arith, refl}
use Rattle.diff_report.specs.Sides.{naming_of}
use Rattle.diff_report.specs.declared.lines.Alone.TheVariants.{Added}
use Rattle.diff_run.specs.Lines.{row_alone}
use Rattle.diff_sorted.proofs.LineLemmas.{line_kept, line_passed}
use Rattle.diff_sorted.proofs.tell.tell_added.Goals as goal

pub returns-then-is_full : goal.returns-then-is_full
returns-then-is_full g c = λ s i all frame row h.
    line_passed c.args.limit all (row_alone c.args.frame.now.format Added (naming_of s) s.right i) c.args.lines.now c.pass.new.self (omega arith) h c.in_ok-pass.ensures

pub returns : goal.returns
returns g c = λ s i all frame row h.
    line_kept c.args.limit all (row_alone c.args.frame.now.format Added (naming_of s) s.right i) c.args.lines.now _ c.close.new.self (omega arith) h (c.in_ok-push_added.ensures s i frame row) refl refl c.in_ok-close.ensures
