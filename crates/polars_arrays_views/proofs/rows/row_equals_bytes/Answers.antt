use Rattle.std.proofs.Common.{sym, ◌∙◌, arith}
use Rattle.std.proofs.lemmas.Bool.Decides.{same_from_decides, Decides-like, Decides-and}
use Rattle.std.proofs.lemmas.Slice.Eq.{bytes_eq-Decides}
use Rattle.polars_arrays_views.proofs.EqualRows.{equal_to_short, unequal_from_length, unequal_from_prefix}
use Rattle.polars_arrays_views.proofs.rows.row_equals_bytes.Goals as goal

pub returns-then-size-le12 : goal.returns-then-size-le12
returns-then-size-le12 c =
    let v = c.view-v.ensures in
    let told = equal_to_short _ _ _ _ _ v.good v.row c.view-w.ensures (omega arith) in
    same_from_decides _ _ (Decides-like _ told.0 told.1 (Decides-and _ _ c.same_head.ensures c.same_tail.ensures)) (bytes_eq-Decides _ _)

pub returns-then-len-size : goal.returns-then-len-size
returns-then-len-size c =
    let v = c.view-v.ensures in
    sym (unequal_from_length _ _ _ _ _ v.good v.row c.view-w.ensures (λ same. c.if-len-size.true (c.len.ensures.length ∙ same ∙ sym c.len-size.ensures)))

pub returns-then-prefix : goal.returns-then-prefix
returns-then-prefix c =
    let v = c.view-v.ensures in
    sym (unequal_from_prefix _ _ _ _ _ v.good v.row c.view-w.ensures (λ same. c.if-prefix.true (c.prefix.ensures ∙ same ∙ sym c.prefix-2.ensures)))
