use Rattle.std.proofs.Common.{◌≡◌, ◌++◌, length, map}
use Rattle.std.specs.List.{filter, range_with_len}
use Rattle.std.specs.Prelude.{codes}
use Rattle.diff_words.specs.Lists.{listed}
use Rattle.polars_arrays_bytes.specs.OffsetStrings.{offset_strings}
use Rattle.diff_report.specs.Summary.{count_text, is_counted}
use Rattle.diff_report.proofs.summary.push_by_column.Given as goal

abbrev pub invariant-loop-column : goal.invariant-loop-column
invariant-loop-column l = record {
  text : l.out.items
      ≡ (l.fn.out.items ++ codes "  By column: ") ++ listed (codes ", ") (map (count_text (offset_strings (λ x. x) l.names) l.counts) (filter (is_counted l.counts) (range_with_len 0 l.column)));
  count : l.written ≡ length (filter (is_counted l.counts) (range_with_len 0 l.column));
}
