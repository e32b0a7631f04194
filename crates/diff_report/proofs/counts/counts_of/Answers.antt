use Rattle.std.proofs.Common.{◌≡◌, ◌<◌, ◌≤◌, ◌∙◌, ◌-◌, ◌^◌, length, get_or, replicate, take, ap, arith}
use Rattle.std.proofs.lemmas.List.{get_or_read, length-take}
use Rattle.std.proofs.lemmas.List.Elements.{All-from_get_or, All-get_or}
use Rattle.diff_report.specs.Pairs.{is_apart}
use Rattle.diff_report.specs.Sides.{naming_of}
use Rattle.diff_report.proofs.CountLemmas.{count_within, counts_more, counts_none}
use Rattle.diff_report.proofs.counts.counts_of.Goals as goal

pub loop-n-init : goal.loop-n-init
loop-n-init c =
    let width : c.width.result ≡ length (naming_of c.args.sides.now).names = c.width.ensures ∙ c.requires.sides.left.width in
    let zeros : c.in_ok-counts.counts.items ≡ replicate c.width.result 0 = c.in_ok-counts.ensures.items_if_clones_equal (λ y same. same) in
    zeros ∙ (ap (λ n. replicate n 0) width
    ∙ counts_none (λ column k. is_apart c.args.sides.now (get_or c.args.comparison.now.matching.left_rows.items k 0) (get_or c.args.comparison.now.matching.right_rows.items k 0) column) (length (naming_of c.args.sides.now).names))

pub count_pair-requires-clause-room : goal.count_pair-requires-clause-room
count_pair-requires-clause-room c =
    All-from_get_or (λ n. n < 2 ^ 64 - 1) c.loop-n.counts.items 0
    (λ k within.
    let most : get_or c.loop-n.counts.items k 0 ≤ length (take c.loop-n.n c.args.comparison.now.changed.items) =
    count_within (λ column k. is_apart c.args.sides.now (get_or c.args.comparison.now.matching.left_rows.items k 0) (get_or c.args.comparison.now.matching.right_rows.items k 0) column)
    (length (naming_of c.args.sides.now).names) (take c.loop-n.n c.args.comparison.now.changed.items) c.loop-n.counts.items c.loop-n.invariant k within in
    omega (arith, most, length-take c.loop-n.n c.args.comparison.now.changed.items))

pub loop-n-preserved : goal.loop-n-preserved
loop-n-preserved c =
    let within : c.loop-n.n < length c.args.comparison.now.changed.items = omega arith in
    let read : c.index-k.result.now ≡ get_or c.args.comparison.now.changed.items c.loop-n.n 0 = get_or_read c.args.comparison.now.changed.items c.loop-n.n _ within c.index-k.ensures 0 in
    let listed : get_or c.args.comparison.now.changed.items c.loop-n.n 0 < length c.args.comparison.now.matching.left_rows.items =
    All-get_or (λ k. k < length c.args.comparison.now.matching.left_rows.items) c.args.comparison.now.changed.items c.loop-n.n 0 within c.requires.rows.changed in
    let left : c.index.result.now ≡ get_or c.args.comparison.now.matching.left_rows.items c.index-k.result.now 0 =
    get_or_read c.args.comparison.now.matching.left_rows.items c.index-k.result.now _ (omega (arith, read, listed)) c.index.ensures 0 in
    let right : c.index-in-loop-n.result.now ≡ get_or c.args.comparison.now.matching.right_rows.items c.index-k.result.now 0 =
    get_or_read c.args.comparison.now.matching.right_rows.items c.index-k.result.now _ (omega (arith, read, listed, c.requires.rows.pairs.one_length)) c.index-in-loop-n.ensures 0 in
    counts_more (λ column k. is_apart c.args.sides.now (get_or c.args.comparison.now.matching.left_rows.items k 0) (get_or c.args.comparison.now.matching.right_rows.items k 0) column)
    (length (naming_of c.args.sides.now).names) c.args.comparison.now.changed.items c.loop-n.n 0 c.loop-n.counts.items c.count_pair.new.counts.items within c.loop-n.invariant
    (rw (← read, ← left, ← right) c.count_pair.ensures)
