use Rattle.polars_arrays_bytes.specs.OffsetStrings.{offset_strings}
use Rattle.diff_columns.specs.LayoutLaws.{left_within}
use Rattle.diff_run.proofs.sides.frame_of.Goals as goal

pub names_at-requires : goal.names_at-requires
names_at-requires c =
    rw c.deref-2.ensures.value (left_within (offset_strings (λ x. x) c.args.heads.now.left_names) (offset_strings (λ x. x) c.args.heads.now.right_names) c.args.options.now.choice c.args.heads.now.layout c.requires)
