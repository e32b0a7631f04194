use Rattle.std.proofs.Common.{◌∙◌, ◌++◌, ap, sym}
use Rattle.std.specs.Prelude.{codes}
use Rattle.json.specs.Value.{value_view}
use Rattle.json_paths.specs.Views.{path_view}
use Rattle.document_rows.proofs.PartLemmas.{narrow_part, unique_part}
use Rattle.document_rows.proofs.RowLemmas.{null_text}
use Rattle.document_rows.specs.Documents.{cell_of}
use Rattle.document_rows.proofs.parts.write_part.Goals as goal

pub write_text-requires-clause-unique : goal.write_text-requires-clause-unique
write_text-requires-clause-unique c =
    unique_part (path_view c.args.key.now) (value_view c.args.value.now) (value_view c.in-Some.part.now) c.requires.unique (rw c.in-Some.is at c.part_of.ensures)

pub write_text-requires-clause-narrow : goal.write_text-requires-clause-narrow
write_text-requires-clause-narrow c =
    narrow_part (path_view c.args.key.now) (value_view c.args.value.now) (value_view c.in-Some.part.now) c.requires.narrow (rw c.in-Some.is at c.part_of.ensures)

pub returns-in_ok-extend_from_slice-in-None : goal.returns-in_ok-extend_from_slice-in-None
returns-in_ok-extend_from_slice-in-None c =
    let none = rw c.in-None.is at c.part_of.ensures in
    c.in_ok-extend_from_slice-in-None.ensures.items ∙ (ap (λ l. l ++ codes "null") c.clear.ensures.items ∙ (sym null_text ∙ ap cell_of none))
