use Rattle.diff_json.proofs.Pieces.{piece}
use Rattle.diff_words.specs.Colors.{painted}
use Rattle.document_report.specs.Pairs.{pair_line, pair_text}
use Rattle.document_report.proofs.pairs.push_pair_line.Goals as goal

pub returns : goal.returns
unfolding pair_line pair_text painted
returns c =
    let old = c.args.out.now.items in
    let name = piece _ _ _ _ _ c.in_ok-extend_from_slice.ensures.items c.in_ok-push_document_name.ensures in
    let mark = piece old _ _ _ _ c.in_ok-push_color.ensures name in
    piece old _ _ _ _ (piece old _ _ _ _ (piece old _ _ _ _ (piece old _ _ _ _ mark c.in_ok-push_color-2.ensures) c.in_ok-extend_from_slice-2.ensures.items) c.in_ok-push_differences.ensures)
    c.in_ok-push.ensures.items
