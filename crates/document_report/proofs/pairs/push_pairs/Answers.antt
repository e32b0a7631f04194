use Rattle.std.proofs.Common.{◌≡◌, ◌<◌, ◌∙◌, ◌++◌, length, take, ap, sym, arith, refl}
use Rattle.std.proofs.lemmas.List.{append-nil}
use Rattle.std.proofs.lemmas.List.Elements.{All-get_or}
use Rattle.std.specs.List.{flat_map}
use Rattle.diff_report.proofs.LineLemmas.{shown}
use Rattle.diff_words.proofs.ListLemmas.{texts_written}
use Rattle.document_report.specs.Pairs.{pair_at}
use Rattle.document_report.proofs.pairs.push_pairs.Goals as goal

pub loop-n-init : goal.loop-n-init
loop-n-init c = sym (append-nil c.args.out.now.items)

pub push_pair_at-requires-clause-place : goal.push_pair_at-requires-clause-place
push_pair_at-requires-clause-place c =
    let within : c.loop-n.n < length c.args.changed.now = omega arith in
    All-get_or (λ k. k < length c.args.matching.now.left_rows.items) c.args.changed.now c.loop-n.n 0 within c.requires.rows.changed

pub loop-n-preserved : goal.loop-n-preserved
loop-n-preserved c =
    let within : c.loop-n.n < length c.args.changed.now = omega arith in
    texts_written (pair_at c.args.format c.args.sides.now c.args.matching.now) c.args.out.now.items _ _ c.args.changed.now c.loop-n.n 0 _ within c.loop-n.invariant c.in_ok-push_pair_at.ensures refl

pub returns : goal.returns
returns c =
    let all : take c.loop-n.n c.args.changed.now ≡ take c.args.limit c.args.changed.now = shown c.args.changed.now c.loop-n.n c.args.limit (omega arith) in
    c.loop-n.invariant ∙ ap (λ l. c.args.out.now.items ++ flat_map (pair_at c.args.format c.args.sides.now c.args.matching.now) l) all
