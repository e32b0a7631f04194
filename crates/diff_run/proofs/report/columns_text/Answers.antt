use Rattle.std.proofs.Common.{length}
use Rattle.polars_arrays_bytes.specs.OffsetStrings.{offset_strings}
use Rattle.diff_columns.specs.Layout.{IsAlone}
use Rattle.diff_columns.specs.LayoutLaws.{listed_within}
use Rattle.diff_run.proofs.report.columns_text.Goals as goal

pub push_alone-requires : goal.push_alone-requires
push_alone-requires c =
    let left = offset_strings (λ x. x) c.args.heads.now.left_names in
    let right = offset_strings (λ x. x) c.args.heads.now.right_names in
    rw c.deref.ensures.value (listed_within (IsAlone c.args.options.now.choice left right) (length left) c.args.heads.now.layout.left_alone.items c.requires.left_alone)

pub push_alone-requires-then-not-options : goal.push_alone-requires-then-not-options
push_alone-requires-then-not-options c =
    let left = offset_strings (λ x. x) c.args.heads.now.left_names in
    let right = offset_strings (λ x. x) c.args.heads.now.right_names in
    rw c.deref-then-not-options.ensures.value (listed_within (IsAlone c.args.options.now.choice right left) (length right) c.args.heads.now.layout.right_alone.items c.requires.right_alone)
