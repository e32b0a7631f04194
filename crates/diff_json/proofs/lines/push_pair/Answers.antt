use Rattle.std.proofs.Common.{◌≡◌, ◌<◌, ◌++◌, length, arith}
use Rattle.std.proofs.lemmas.List.{get_or_read}
use Rattle.std.specs.Fmt.{decimal}
use Rattle.std.specs.Prelude.{codes, slice_index}
use Rattle.diff_report.specs.Sides.{number_of}
use Rattle.diff_json.specs.Lines.{pair_object}
use Rattle.diff_json.proofs.Pieces.{piece, pieces}
use Rattle.diff_json.proofs.lines.push_pair.Goals as goal

pub returns : goal.returns
unfolding pair_object
returns c =
    let old = c.args.out.now.items in
    let left_lines = c.args.sides.now.left.lines.items in
    let right_lines = c.args.sides.now.right.lines.items in
    let left_within : c.args.i < length left_lines = omega (arith, c.requires.sides.left.lines, c.requires.left) in
    let right_within : c.args.j < length right_lines = omega (arith, c.requires.sides.right.lines, c.requires.right) in
    let left_read : c.index.result.now ≡ slice_index left_lines c.args.i = get_or_read left_lines c.args.i _ left_within c.index.ensures 0 in
    let right_read : c.index-2.result.now ≡ slice_index right_lines c.args.j = get_or_read right_lines c.args.j _ right_within c.index-2.ensures 0 in
    let left_line : c.push_number-3.new.out.items ≡ c.push_number-2.new.out.items ++ codes ",\"left_line\":" ++ decimal (slice_index left_lines c.args.i) = rw (← left_read) c.in_ok-push_number-3.ensures in
    let right_line : c.push_number-4.new.out.items ≡ c.push_number-3.new.out.items ++ codes ",\"right_line\":" ++ decimal (slice_index right_lines c.args.j) = rw (← right_read) c.in_ok-push_number-4.ensures in
    let left_row : c.push_number.new.out.items ≡ c.push_keys.new.out.items ++ codes "},\"left_row\":" ++ decimal (number_of c.args.sides.now.left c.args.i) = rw (← c.number.ensures) c.in_ok-push_number.ensures in
    let right_row : c.push_number-2.new.out.items ≡ c.push_number.new.out.items ++ codes ",\"right_row\":" ++ decimal (number_of c.args.sides.now.right c.args.j) = rw (← c.number-2.ensures) c.in_ok-push_number-2.ensures in
    let key = piece old _ _ _ _ c.in_ok-extend_from_slice.ensures.items c.in_ok-push_keys.ensures in
    let rows = pieces old _ _ _ _ _ (pieces old _ _ _ _ _ key left_row) right_row in
    let lines = pieces old _ _ _ _ _ (pieces old _ _ _ _ _ rows left_line) right_line in
    piece old _ _ _ _ (piece old _ _ _ _ (piece old _ _ _ _ lines c.in_ok-extend_from_slice-2.ensures.items) c.in_ok-push_changes.ensures) c.in_ok-extend_from_slice-3.ensures.items
