use Rattle.std.proofs.Common.{◌≡◌, ◌∙◌, ℕ, List, [], length, map, sym}
use Rattle.std.proofs.lemmas.List.{length-map}
use Rattle.document_rows.specs.Documents.{tree_of}
use Rattle.json.specs.Tree.{HasNumbers}
use Rattle.schema_paths.specs.Documents.{parts_in, whole}
use Rattle.schema_paths.proofs.LineLemmas.{lines_many}
use Rattle.schema_paths.proofs.NumberLemmas.{all_of_lists}
use Rattle.schema_paths.proofs.read.table_paths.Goals as goal

pub schemas_of-requires : goal.schemas_of-requires
schemas_of-requires c =
    let (skip_bad, lines, rows) = c.requires in
    let gathered = c.in_ok-gathered.ensures skip_bad lines rows in (
      map parts_in lines,
      all_of_lists (λ p. HasNumbers p.value) (λ line. HasNumbers (tree_of line)) parts_in (λ line h. c.part_laws.ensures [] (tree_of line) h) lines gathered.numbers,
      c.into_groups-groups.ensures (map parts_in lines) gathered.held,
    )

pub returns-in-Ok : goal.returns-in-Ok
returns-in-Ok c = λ skip_bad lines rows.
    let gathered = c.in_ok-gathered.ensures skip_bad lines rows in
    let many = c.count.ensures ∙ lines_many (whole skip_bad) c.args.table.now lines rows in
    c.in-Ok.ensures (map parts_in lines) (c.into_groups-groups.ensures (map parts_in lines) gathered.held) (many ∙ sym (length-map lines parts_in))
