use Rattle.std.proofs.Common.{arith, refl}
use Rattle.diff_run.specs.Lines.{pair_at}
use Rattle.diff_sorted.proofs.LineLemmas.{line_kept, line_passed}
use Rattle.diff_sorted.proofs.tell.tell_changed.Goals as goal

pub returns-then-is_full : goal.returns-then-is_full
returns-then-is_full g c = λ s m k all frame left right h.
    line_passed c.args.limit all (pair_at c.args.frame.now.format s m k) c.args.lines.now c.pass.new.self (omega arith) h c.in_ok-pass.ensures

pub returns : goal.returns
returns g c = λ s m k all frame left right h.
    line_kept c.args.limit all (pair_at c.args.frame.now.format s m k) c.args.lines.now _ c.close.new.self (omega arith) h (c.in_ok-push_changed.ensures s m k frame left right) refl refl c.in_ok-close.ensures
