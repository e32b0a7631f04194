use Rattle.std.proofs.Common.{◌≡◌, ◌++◌, arith, subst, sym}
use Rattle.std.proofs.lemmas.List.{get_or_read}
use Rattle.std.specs.Prelude.{OnOk, slice_index}
use Rattle.diff_json.specs.Lines.{changed_object}
use Rattle.diff_report.specs.Lines.{changed_line}
use Rattle.diff_run.specs.Lines.{pair_at}
use Rattle.diff_run.proofs.lines.push_pair_at.Goals as goal

pub returns-in-Text : goal.returns-in-Text
unfolding changed_line
returns-in-Text c =
    let m = c.args.matching.now in
    let left : c.index.result.now ≡ slice_index m.left_rows.items c.args.k = get_or_read m.left_rows.items c.args.k _ c.requires.place c.index.ensures 0 in
    let right : c.index-2.result.now ≡ slice_index m.right_rows.items c.args.k = get_or_read m.right_rows.items c.args.k _ (omega (arith, c.requires.place, c.requires.rows.one_length)) c.index-2.ensures 0 in
    let step : OnOk c.push_pair_line.result (c.push_pair_line.new.out.items ≡ c.args.out.now.items ++ changed_line c.args.sides.now m c.args.k) = rw (← left, ← right) c.push_pair_line.ensures in
    subst (λ f. OnOk c.push_pair_line.result (c.push_pair_line.new.out.items ≡ c.args.out.now.items ++ pair_at f c.args.sides.now m c.args.k)) (sym c.in-Text.is) step

pub returns-in-Json : goal.returns-in-Json
unfolding changed_object
returns-in-Json c =
    let m = c.args.matching.now in
    let left : c.index.result.now ≡ slice_index m.left_rows.items c.args.k = get_or_read m.left_rows.items c.args.k _ c.requires.place c.index.ensures 0 in
    let right : c.index-2.result.now ≡ slice_index m.right_rows.items c.args.k = get_or_read m.right_rows.items c.args.k _ (omega (arith, c.requires.place, c.requires.rows.one_length)) c.index-2.ensures 0 in
    let step : OnOk c.push_pair.result (c.push_pair.new.out.items ≡ c.args.out.now.items ++ changed_object c.args.sides.now m c.args.k) = rw (← left, ← right) c.push_pair.ensures in
    subst (λ f. OnOk c.push_pair.result (c.push_pair.new.out.items ≡ c.args.out.now.items ++ pair_at f c.args.sides.now m c.args.k)) (sym c.in-Json.is) step
