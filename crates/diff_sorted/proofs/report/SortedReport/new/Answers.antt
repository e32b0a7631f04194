use Rattle.std.proofs.Common.{◌≡◌, ◌∙◌, [], length, replicate, ap, arith, sym}
use Rattle.std.specs.Prelude.{slice_index}
use Rattle.diff_report.proofs.CountLemmas.{counts_none}
use Rattle.diff_report.specs.Naming.{Naming}
use Rattle.diff_report.specs.Pairs.{is_apart}
use Rattle.diff_report.specs.Sides.{naming_of}
use Rattle.diff_report.specs.declared.lines.Alone.TheVariants.{Removed, Added}
use Rattle.diff_run.specs.Lines.{row_alone}
use Rattle.diff_sorted.proofs.BeginLemmas.{none_listed_yet, none_paired, none_told}
use Rattle.diff_sorted.proofs.report.SortedReport.new.Goals as goal

pub returns-clause-told : goal.returns-clause-told
returns-clause-told c = λ m e.
    let f = c.args.frame in
    record {
      changed = [];
      pairs = none_paired m e;
      listed = none_listed_yet m e;
      same = ap length e.left_rows;
      left_few = omega arith;
      right_few = omega arith;
      told = λ s whole frame left right begins.
          let zeros : c.in_ok-counts.counts.items ≡ replicate c.count-width.result 0 = c.in_ok-counts.ensures.items_if_clones_equal (λ y same. same) in
          let width : c.count-width.result ≡ length (naming_of s).names = c.count-width.ensures ∙ ap (λ (n : Naming). length n.names) (sym frame.naming) in
          record {
            changed_lines = c.new.ensures c.args.limit;
            removed_lines = none_told (row_alone f.format Removed (naming_of s) s.left) m.removed.items c.args.limit _ e.removed (c.new-2.ensures c.args.limit);
            added_lines = none_told (row_alone f.format Added (naming_of s) s.right) m.added.items c.args.limit _ e.added (c.new-3.ensures c.args.limit);
            counts = zeros ∙ (ap (λ n. replicate n 0) width ∙ counts_none (λ column k. is_apart s (slice_index whole.left_rows.items k) (slice_index whole.right_rows.items k) column) (length (naming_of s).names));
          };
    }
