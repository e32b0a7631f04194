use Rattle.std.proofs.Common.{◌∙◌, ◌++◌, ap}
use Rattle.schema_report.proofs.Pieces.{piece}
use Rattle.schema_documents.specs.Changes.{alone_object}
use Rattle.schema_documents.proofs.changes_json.push_alone.Goals as goal

pub returns : goal.returns
unfolding alone_object
returns c =
    let old = c.args.out.now.items in
    let word = c.in_ok-extend_from_slice-3.ensures.items ∙ ap (λ l. c.extend_from_slice-2.new.self.items ++ l) c.word_of.ensures in
    piece old _ _ _ _ (piece old _ _ _ _ (piece old _ _ _ _ (piece old _ _ _ _ c.in_ok-extend_from_slice.ensures.items c.in_ok-push_string.ensures) c.in_ok-extend_from_slice-2.ensures.items) word)
    c.in_ok-extend_from_slice-4.ensures.items
