use Rattle.std.proofs.Common.{◌≡◌, ◌<◌, ◌∙◌, ◌++◌, length, get_or, map, take, ap, sym, arith}
use Rattle.std.proofs.lemmas.List.{append-nil, get_or_read, take_all}
use Rattle.std.specs.Prelude.{codes}
use Rattle.diff_words.specs.Lists.{listed}
use Rattle.diff_words.proofs.ListLemmas.{elements_written}
use Rattle.diff_json.specs.Keys.{key_member}
use Rattle.diff_report.specs.Sides.{naming_of, row_of}
use Rattle.diff_json.proofs.keys.push_keys.Goals as goal

pub loop-k-init : goal.loop-k-init
unfolding listed
loop-k-init c = sym (append-nil c.args.out.now.items)

pub loop-k-preserved : goal.loop-k-preserved
loop-k-preserved c =
    let within : c.loop-k.k < length c.args.sides.now.keys.items = omega arith in
    let read : c.index.result.now ≡ get_or c.args.sides.now.keys.items c.loop-k.k 0 = get_or_read c.args.sides.now.keys.items c.loop-k.k _ within c.index.ensures 0 in
    elements_written (codes ",") (key_member (naming_of c.args.sides.now) (row_of c.args.side.now c.args.i)) c.args.out.now.items _ _ _ c.args.sides.now.keys.items c.loop-k.k 0 _ within
    c.loop-k.invariant c.in_ok-push_gap.ensures c.in_ok-push_key.ensures read

pub returns : goal.returns
returns c =
    let all : take c.loop-k.k c.args.sides.now.keys.items ≡ c.args.sides.now.keys.items = take_all c.loop-k.k c.args.sides.now.keys.items (omega arith) in
    c.loop-k.invariant ∙ ap (λ l. c.args.out.now.items ++ listed (codes ",") (map (key_member (naming_of c.args.sides.now) (row_of c.args.side.now c.args.i)) l)) all
