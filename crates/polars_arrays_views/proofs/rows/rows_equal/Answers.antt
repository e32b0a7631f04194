use Rattle.std.proofs.Common.{refl, sym, arith}
use Rattle.std.proofs.lemmas.Bool.Decides.{same_from_decides, Decides-like, Decides-and}
use Rattle.std.proofs.lemmas.Slice.Eq.{bytes_eq-Decides}
use Rattle.polars_arrays_views.proofs.Counts.{not_counted, one_counted}
use Rattle.polars_arrays_views.proofs.EqualRows.{unequal_from_head, not_followed-other_head, equal_by_both, not_followed-short, followed-long}
use Rattle.polars_arrays_views.proofs.rows.rows_equal.Goals as goal

pub returns-then-not-same_head-clause-same : goal.returns-then-not-same_head-clause-same
returns-then-not-same_head-clause-same c =
    let v = c.view-v.ensures in
    let w = c.view-w.ensures in
    sym (unequal_from_head _ _ _ _ _ _ v.good w.good v.row w.row (λ same. let t = c.if-not-same_head.ensures.1 same in cc t))

pub returns-then-not-same_head-clause-counted : goal.returns-then-not-same_head-clause-counted
returns-then-not-same_head-clause-counted c =
    let v = c.view-v.ensures in
    let w = c.view-w.ensures in
    not_counted _ _ (not_followed-other_head _ _ _ _ _ _ v.good w.good v.row w.row (λ same. let t = c.if-not-same_head.ensures.1 same in cc t))

pub returns-then-len-le12-clause-same : goal.returns-then-len-le12-clause-same
returns-then-len-le12-clause-same c =
    let v = c.view-v.ensures in
    let w = c.view-w.ensures in
    let told = equal_by_both _ _ _ _ _ _ v.good w.good v.row w.row (omega (arith, c.len.ensures.length)) in
    same_from_decides _ _ (Decides-like _ told.0 told.1 (Decides-and _ _ c.same_head.ensures c.same_tail.ensures)) (bytes_eq-Decides _ _)

pub returns-then-len-le12-clause-counted : goal.returns-then-len-le12-clause-counted
returns-then-len-le12-clause-counted c =
    let v = c.view-v.ensures in
    let w = c.view-w.ensures in
    not_counted _ _ (not_followed-short _ _ _ _ _ _ v.good w.good v.row w.row (omega (arith, c.len.ensures.length)))

pub returns-clause-counted : goal.returns-clause-counted
returns-clause-counted c =
    let v = c.view-v.ensures in
    let w = c.view-w.ensures in
    one_counted _ _ _ (followed-long _ _ _ _ _ _ v.good w.good v.row w.row (c.if-not-same_head.ensures.0 refl) (omega (arith, c.len.ensures.length))) c.add.ensures
