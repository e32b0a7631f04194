use Rattle.std.proofs.Common.{◌≡◌, ◌<◌, ◌∙◌, ◌++◌, length, get_or, take, ap, arith, sym}
use Rattle.std.proofs.lemmas.List.{append-nil, get_or_read}
use Rattle.std.proofs.lemmas.List.Elements.{All-get_or}
use Rattle.std.specs.List.{flat_map}
use Rattle.diff_report.proofs.LineLemmas.{shown}
use Rattle.diff_words.proofs.ListLemmas.{texts_written}
use Rattle.diff_run.specs.Lines.{pair_at}
use Rattle.diff_run.proofs.lines.push_pairs.Goals as goal

pub loop-n-init : goal.loop-n-init
loop-n-init c = sym (append-nil c.args.out.now.items)

pub push_pair_at-requires-clause-place : goal.push_pair_at-requires-clause-place
push_pair_at-requires-clause-place c =
    let places = c.args.comparison.now.changed.items in
    let within : c.loop-n.n < length places = omega arith in
    let read : c.index-k.result.now ≡ get_or places c.loop-n.n 0 = get_or_read places c.loop-n.n _ within c.index-k.ensures 0 in
    let listed : get_or places c.loop-n.n 0 < length c.args.comparison.now.matching.left_rows.items =
    All-get_or (λ k. k < length c.args.comparison.now.matching.left_rows.items) places c.loop-n.n 0 within c.requires.rows.changed in
    omega (arith, read, listed)

pub loop-n-preserved : goal.loop-n-preserved
loop-n-preserved c =
    let places = c.args.comparison.now.changed.items in
    let within : c.loop-n.n < length places = omega arith in
    let read : c.index-k.result.now ≡ get_or places c.loop-n.n 0 = get_or_read places c.loop-n.n _ within c.index-k.ensures 0 in
    texts_written (pair_at c.args.format c.args.sides.now c.args.comparison.now.matching) c.args.out.now.items _ _ places c.loop-n.n 0 _ within c.loop-n.invariant c.in_ok-push_pair_at.ensures read

pub returns : goal.returns
returns c =
    let all : take c.loop-n.n c.args.comparison.now.changed.items ≡ take c.args.limit c.args.comparison.now.changed.items =
    shown c.args.comparison.now.changed.items c.loop-n.n c.args.limit (omega arith) in
    c.loop-n.invariant ∙ ap (λ l. c.args.out.now.items ++ flat_map (pair_at c.args.format c.args.sides.now c.args.comparison.now.matching) l) all
