use Rattle.std.proofs.Common.{◌≡◌, ◌∙◌, ◌<◌, ◌-◌, suc, length, take, ap, arith}
use Rattle.std.proofs.lemmas.List.{get_or_read}
use Rattle.std.specs.List.{concat}
use Rattle.std.specs.Prelude.{slice_index}
use Rattle.diff_sorted.proofs.LineLemmas.{cut_there}
use Rattle.diff_sorted.proofs.lines.Lines.first.Goals as goal

pub returns : goal.returns
returns c = λ limit all below h.
    let l = c.args.self.now in
    let within : c.args.room - 1 < length l.ends.items = omega arith in
    let read : c.index-end.result.now ≡ slice_index l.ends.items (c.args.room - 1) = get_or_read l.ends.items (c.args.room - 1) _ within c.index-end.ensures 0 in
    let place : suc (c.args.room - 1) ≡ c.args.room = omega arith in
    let end : c.index-end.result.now ≡ length (concat (take c.args.room all)) = read ∙ (h.ends (c.args.room - 1) within ∙ ap (λ n. length (concat (take n all))) place) in
    let cut = cut_there limit c.args.room c.index-end.result.now all l below h end in
    let least : c.min.result ≡ c.index-end.result.now = omega (arith, cut.0) in
    rw (least, c.deref-2.ensures.value) cut.1
