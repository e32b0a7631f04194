use Rattle.std.proofs.Common.{◌≡◌, ◌<◌, ◌∙◌, ◌++◌, length, get_or, map, take, ap, sym, arith, rules}
use Rattle.std.proofs.lemmas.List.{append-nil, length-map, take_all}
use Rattle.diff_words.specs.Lists.{gap, listed}
use Rattle.diff_words.proofs.ListLemmas.{elements_written}
use Rattle.json_changes.specs.Texts.{change_view}
use Rattle.document_report.specs.Pairs.{change_in, separator_in}
use Rattle.document_report.proofs.Joins.{none_told, told_at}
use Rattle.document_report.proofs.pairs.push_changes.Goals as goal

pub loop-n-init : goal.loop-n-init
unfolding listed
loop-n-init c = sym (append-nil c.args.out.now.items)

pub loop-n-preserved : goal.loop-n-preserved
loop-n-preserved c =
    let changes = c.args.changes.now in
    let within : c.loop-n.n < length changes = omega arith in
    let size : length (map change_view changes) ≡ length changes = length-map changes change_view in
    let at : c.index-changes-n.result ≡ get_or changes c.loop-n.n c.index-changes-n.result = search rules in
    let read : change_view c.index-changes-n.result ≡ get_or (map change_view changes) c.loop-n.n none_told = told_at changes c.loop-n.n c.index-changes-n.result within at in
    let gapped : c.push_gap.new.out.items ≡ c.loop-n.out.items ++ gap (separator_in c.args.format) c.loop-n.n = rw (← c.separator_in.ensures) c.in_ok-push_gap.ensures in
    elements_written (separator_in c.args.format) (change_in c.args.format c.args.colored) c.args.out.now.items _ _ _ (map change_view changes) c.loop-n.n none_told (change_view c.index-changes-n.result)
    (omega (arith, within, size)) c.loop-n.invariant gapped c.in_ok-push_change_in.ensures read

pub returns : goal.returns
returns c =
    let changes = c.args.changes.now in
    let size : length (map change_view changes) ≡ length changes = length-map changes change_view in
    let all : take c.loop-n.n (map change_view changes) ≡ map change_view changes = take_all c.loop-n.n (map change_view changes) (omega (arith, size)) in
    c.loop-n.invariant ∙ ap (λ l. c.args.out.now.items ++ listed (separator_in c.args.format) (map (change_in c.args.format c.args.colored) l)) all
