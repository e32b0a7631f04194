use Rattle.std.proofs.Common.{◌≡◌, ◌<◌, ◌++◌, length, arith}
use Rattle.std.proofs.lemmas.List.{get_or_read}
use Rattle.std.specs.Fmt.{decimal}
use Rattle.std.specs.Prelude.{codes, slice_index}
use Rattle.diff_report.specs.Sides.{number_of}
use Rattle.diff_json.specs.Lines.{row_object, side_object}
use Rattle.diff_json.proofs.Pieces.{piece, pieces}
use Rattle.diff_json.proofs.lines.push_alone.Goals as goal

pub returns : goal.returns
unfolding row_object side_object
returns c =
    let old = c.args.out.now.items in
    let lines = c.args.side.now.lines.items in
    let within : c.args.i < length lines = omega (arith, c.requires.side.lines, c.requires.row) in
    let read : c.index.result.now ≡ slice_index lines c.args.i = get_or_read lines c.args.i _ within c.index.ensures 0 in
    let line : c.push_number-2.new.out.items ≡ c.push_number.new.out.items ++ codes ",\"line\":" ++ decimal (slice_index lines c.args.i) = rw (← read) c.in_ok-push_number-2.ensures in
    let number : c.push_number.new.out.items ≡ c.push_keys.new.out.items ++ codes "},\"row\":" ++ decimal (number_of c.args.side.now c.args.i) = rw (← c.number.ensures) c.in_ok-push_number.ensures in
    let kind = piece old _ _ _ _ c.in_ok-extend_from_slice.ensures.items c.in_ok-extend_from_slice-2.ensures.items in
    let key = piece old _ _ _ _ (piece old _ _ _ _ kind c.in_ok-extend_from_slice-3.ensures.items) c.in_ok-push_keys.ensures in
    piece old _ _ _ _ (pieces old _ _ _ _ _ (pieces old _ _ _ _ _ key number) line) c.in_ok-extend_from_slice-4.ensures.items
