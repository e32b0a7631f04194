use Rattle.std.proofs.Common.{◌≡◌, ◌<◌, ◌++◌, length, arith}
use Rattle.std.proofs.lemmas.List.{get_or_read}
use Rattle.std.specs.Fmt.{decimal}
use Rattle.std.specs.Prelude.{slice_index}
use Rattle.diff_json.proofs.Pieces.{piece}
use Rattle.document_report.specs.Pairs.{pair_json, pair_object}
use Rattle.document_report.proofs.pairs.push_pair_object.Goals as goal

pub returns : goal.returns
unfolding pair_json pair_object
returns c =
    let old = c.args.out.now.items in
    let left_lines = c.args.sides.now.left.lines.items in
    let right_lines = c.args.sides.now.right.lines.items in
    let left_within : c.args.i < length left_lines = omega (arith, c.requires.sides.left.lines, c.requires.left) in
    let right_within : c.args.j < length right_lines = omega (arith, c.requires.sides.right.lines, c.requires.right) in
    let left_read : c.index.result.now ≡ slice_index left_lines c.args.i = get_or_read left_lines c.args.i _ left_within c.index.ensures 0 in
    let right_read : c.index-2.result.now ≡ slice_index right_lines c.args.j = get_or_read right_lines c.args.j _ right_within c.index-2.ensures 0 in
    let left_line : c.push_decimal.new.out.items ≡ c.extend_from_slice-2.new.self.items ++ decimal (slice_index left_lines c.args.i) = rw (← left_read) c.in_ok-push_decimal.ensures in
    let right_line : c.push_decimal-2.new.out.items ≡ c.extend_from_slice-3.new.self.items ++ decimal (slice_index right_lines c.args.j) = rw (← right_read) c.in_ok-push_decimal-2.ensures in
    let key = piece old _ _ _ _ (piece old _ _ _ _ c.in_ok-extend_from_slice.ensures.items c.in_ok-push_key_members.ensures) c.in_ok-extend_from_slice-2.ensures.items in
    let lines = piece old _ _ _ _ (piece old _ _ _ _ (piece old _ _ _ _ key left_line) c.in_ok-extend_from_slice-3.ensures.items) right_line in
    piece old _ _ _ _ (piece old _ _ _ _ (piece old _ _ _ _ lines c.in_ok-extend_from_slice-4.ensures.items) c.in_ok-push_differences.ensures) c.in_ok-extend_from_slice-5.ensures.items
