use Rattle.std.proofs.Common.{sym, ap, ◌∙◌}
use Rattle.std.specs.Ordering.{nat_cmp, is_lt, ordering_then}
use Rattle.polars_arrays_views.proofs.LessRows.{either_less, inlined_decide}
use Rattle.polars_arrays_views.proofs.view.View.inlined_less.Goals as goal

pub returns : goal.returns
returns c =
    let s = c.rest-s.ensures in
    let t = c.rest-t.ensures in
    let n = c.len.ensures.length in
    let m = c.len-2.ensures.length in
    let p = c.prefix-p.ensures in
    let q = c.prefix-q.ensures in
    either_less _ _ _ (ordering_then (nat_cmp c.rest-s.result c.rest-t.result) (nat_cmp c.len.result c.len-2.result)) c.pair_less.ensures
    ∙ (λ i. is_lt (ordering_then (nat_cmp (p i) (q i)) (ordering_then (nat_cmp (s i) (t i)) (nat_cmp (n i) (m i)))))
    ∙ sym (ap is_lt (inlined_decide c.args.self.now c.args.other.now c.len.ensures.view c.len-2.ensures.view c.requires.short c.requires.other_short c.requires.zeros c.requires.other_zeros))
