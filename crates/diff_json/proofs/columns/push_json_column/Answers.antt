use Rattle.std.proofs.Common.{◌∙◌, ◌++◌, ap}
use Rattle.diff_json.specs.Columns.{column_object}
use Rattle.diff_json.proofs.Pieces.{piece}
use Rattle.diff_json.proofs.columns.push_json_column.Goals as goal

pub returns : goal.returns
unfolding column_object
returns c =
    let old = c.args.out.now.items in
    let word = c.in_ok-extend_from_slice-3.ensures.items ∙ ap (λ l. c.extend_from_slice-2.new.self.items ++ l) c.word_of.ensures in
    piece old _ _ _ _ (piece old _ _ _ _ (piece old _ _ _ _ (piece old _ _ _ _ c.in_ok-extend_from_slice.ensures.items c.in_ok-push_string.ensures) c.in_ok-extend_from_slice-2.ensures.items) word)
    c.in_ok-extend_from_slice-4.ensures.items
