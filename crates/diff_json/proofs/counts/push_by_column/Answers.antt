use Rattle.std.proofs.Common.{◌∙◌, ◌+◌, cond, ap, sym, refl, arith}
use Rattle.std.proofs.lemmas.List.{append-nil}
use Rattle.std.specs.Prelude.{codes}
use Rattle.diff_words.specs.Lists.{listed}
use Rattle.diff_words.proofs.ListLemmas.{kept_count, kept_within, kept_written}
use Rattle.polars_arrays_bytes.specs.OffsetStrings.{offset_strings}
use Rattle.diff_report.specs.Summary.{is_counted}
use Rattle.diff_json.specs.Counts.{column_member}
use Rattle.diff_json.proofs.counts.push_by_column.Goals as goal

pub loop-column-init : goal.loop-column-init
unfolding listed
loop-column-init c = record { text = sym (append-nil c.args.out.now.items); count = refl }

pub push_if_counted-requires-clause-room : goal.push_if_counted-requires-clause-room
push_if_counted-requires-clause-room c = omega (arith, kept_within (is_counted c.args.counts.now) c.loop-column.column, c.loop-column.invariant.count)

pub loop-column-preserved : goal.loop-column-preserved
loop-column-preserved c = record {
  text = kept_written (codes ",") (column_member (offset_strings (λ x. x) c.args.names.now) c.args.counts.now) (is_counted c.args.counts.now) c.args.out.now.items _ _ c.loop-column.column _
      c.loop-column.invariant.count c.loop-column.invariant.text c.in_ok-written.ensures.text;
  count = c.in_ok-written.ensures.count
      ∙ (ap (λ n. n + cond (is_counted c.args.counts.now c.loop-column.column) 1 0) c.loop-column.invariant.count ∙ sym (kept_count (is_counted c.args.counts.now) c.loop-column.column));
}
