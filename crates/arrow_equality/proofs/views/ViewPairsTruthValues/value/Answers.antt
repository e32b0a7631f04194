use Rattle.std.proofs.Common.{◌<◌, ◌∙◌, ℕ, List, false, ap₂, arith, sym, subst}
use Rattle.std.specs.Str.{bytes_eq}
use Rattle.polars_arrays_bytes.specs.SizedStrings.{sized_string}
use Rattle.polars_arrays_views.specs.Views.{GoodView, row_bytes}
use Rattle.polars_arrays_words.proofs.Firsts.{get_or-first}
use Rattle.arrow_parts.specs.Lent.{lent_buffers}
use Rattle.arrow_equality.proofs.LentViews.{count-same}
use Rattle.arrow_equality.proofs.views.ViewPairsTruthValues.value.Goals as goal

pub view_at-v-requires : goal.view_at-v-requires
view_at-v-requires c =
    let p = c.args.self.now in
    omega (arith, c.requires, count-same (lent_buffers p.left_buffers.now) (lent_buffers p.right_buffers.now) p.left.now p.right.now p.n, p.left_views.size)

pub view_at-w-requires : goal.view_at-w-requires
view_at-w-requires c =
    let p = c.args.self.now in
    omega (arith, c.requires, count-same (lent_buffers p.left_buffers.now) (lent_buffers p.right_buffers.now) p.left.now p.right.now p.n, p.right_views.size)

pub lead_to_equal_rows-requires-clause-left : goal.lead_to_equal_rows-requires-clause-left
lead_to_equal_rows-requires-clause-left c =
    let p = c.args.self.now in
    let low : c.args.i < p.n = omega (arith, c.requires, count-same (lent_buffers p.left_buffers.now) (lent_buffers p.right_buffers.now) p.left.now p.right.now p.n) in
    subst (GoodView (lent_buffers p.left_buffers.now)) (sym c.view_at-v.ensures) (p.left_views.rows c.args.i low).good

pub lead_to_equal_rows-requires-clause-right : goal.lead_to_equal_rows-requires-clause-right
lead_to_equal_rows-requires-clause-right c =
    let p = c.args.self.now in
    let low : c.args.i < p.n = omega (arith, c.requires, count-same (lent_buffers p.left_buffers.now) (lent_buffers p.right_buffers.now) p.left.now p.right.now p.n) in
    subst (GoodView (lent_buffers p.right_buffers.now)) (sym c.view_at-w.ensures) (p.right_views.rows c.args.i low).good

pub returns : goal.returns
returns c =
    let p = c.args.self.now in
    let buffers = lent_buffers p.left_buffers.now in
    let others = lent_buffers p.right_buffers.now in
    let low : c.args.i < p.n = omega (arith, c.requires, count-same buffers others p.left.now p.right.now p.n) in
    c.lead_to_equal_rows.ensures
    ∙ ap₂ (λ (v w : List ℕ). bytes_eq (row_bytes buffers v) (row_bytes others w)) c.view_at-v.ensures c.view_at-w.ensures
    ∙ sym (get_or-first (λ (i : ℕ). bytes_eq (row_bytes buffers (sized_string 16 p.left.now i)) (row_bytes others (sized_string 16 p.right.now i))) p.n c.args.i false low)
