use Rattle.std.proofs.Common.{◌<◌, ◌∙◌, ap₂, arith, false, refl, sym}
use Rattle.std.specs.Str.{bytes_eq}
use Rattle.std.proofs.lemmas.Bool.{both_ways, leb-false}
use Rattle.polars_arrays_views.specs.Views.{view_len}
use Rattle.polars_arrays_views.proofs.EqualRows.{unequal_from_head}
use Rattle.polars_arrays_views.proofs.GoodViews.{len_from_head}
use Rattle.arrow_parts.specs.Lent.{lent_buffers}
use Rattle.arrow_equality.proofs.views.lead_to_equal_rows.Goals as goal

pub returns-then-is_short : goal.returns-then-is_short
returns-then-is_short c =
    c.guess_equal.ensures (lent_buffers c.args.buffers.now) (lent_buffers c.args.others.now) c.requires.left c.requires.right (sym c.is_short.ensures ∙ c.if-is_short.true)

pub returns-then-not-same_head : goal.returns-then-not-same_head
returns-then-not-same_head c =
    sym (unequal_from_head (lent_buffers c.args.buffers.now) (lent_buffers c.args.others.now) c.args.v.now c.args.w.now _ _ c.requires.left c.requires.right refl refl (λ head. both_ways false refl (c.if-not-same_head.ensures.1 head)))

pub long_row-requires-2-clause-long : goal.long_row-requires-2-clause-long
long_row-requires-2-clause-long c =
    let long : 12 < view_len c.args.v.now = leb-false (view_len c.args.v.now) 12 (sym c.is_short.ensures ∙ c.if-is_short.false) in
    omega (arith, long, len_from_head c.args.v.now c.args.w.now (c.if-not-same_head.ensures.0 refl))

pub long_row-requires-2-clause-lies : goal.long_row-requires-2-clause-lies
long_row-requires-2-clause-lies c = c.requires.right.long (long_row-requires-2-clause-long c)

pub returns : goal.returns
returns c = c.bytes_equal.ensures ∙ ap₂ bytes_eq c.long_row.ensures c.long_row-2.ensures
