use Rattle.std.proofs.Common.{◌≡◌, ◌∙◌, ◌++◌, length, map, ap, sym, arith}
use Rattle.std.proofs.lemmas.List.{append-nil, length-map}
use Rattle.std.specs.List.{range_with_len}
use Rattle.std.specs.Prelude.{codes}
use Rattle.diff_report.specs.Sides.{row_of}
use Rattle.diff_words.specs.Lists.{listed}
use Rattle.document_words.proofs.CountedLemmas.{counted_written}
use Rattle.document_words.specs.Keys.{key_member}
use Rattle.document_words.specs.Sides.{names_of}
use Rattle.document_words.proofs.keys.push_key_members.Goals as goal

pub loop-k-init : goal.loop-k-init
unfolding listed
loop-k-init c = sym (append-nil c.args.out.now.items)

pub loop-k-preserved : goal.loop-k-preserved
loop-k-preserved c =
    counted_written (codes ",") (key_member (names_of c.args.sides.now) (row_of c.args.side.now c.args.i)) c.args.out.now.items _ _ _ c.loop-k.k
    c.loop-k.invariant c.in_ok-push_gap.ensures c.in_ok-push_key_member.ensures

pub returns : goal.returns
returns c =
    let all : c.loop-k.k ≡ length (names_of c.args.sides.now) = omega (arith, length-map c.args.sides.now.keys.items (λ v. v.items)) in
    c.loop-k.invariant ∙ ap (λ n. c.args.out.now.items ++ listed (codes ",") (map (key_member (names_of c.args.sides.now) (row_of c.args.side.now c.args.i)) (range_with_len 0 n))) all
