-- The schema of a text of documents, one a line.
--
-- The lines {"id": 1}, [2] and {"n": 3} have two documents, with the paths id and n. Where lines
-- that are no documents are passed over, the line with the number 2 is.
use Rattle.std.specs.Prelude.{◌≡◌, ◌==◌, ◌&&◌, ℕ, All, Bool, false, not, List, [], None, length}
use Rattle.std.specs.Prelude.{map}
use Rattle.document_rows.specs.Documents.{tree_of}
use Rattle.document_rows.specs.Lines.{lines_of}
use Rattle.document_rows.specs.Numbers.{AreNumbered, numbered_lines}
use Rattle.document_rows.specs.declared.reading.Reading.{Reading}
use Rattle.json.specs.Tree.{HasNumbers}
use Rattle.json_groups.specs.Groups.{HoldsDocuments}
use Rattle.json_groups.specs.declared.groups.Groups.{Groups}
use Rattle.json_parts.specs.Parts.{Part, parts_below}
use Rattle.schema_paths.specs.Kinds.{HasKinds}
use Rattle.schema_paths.specs.Paths.{AreSchemasOf}
use Rattle.schema_paths.specs.declared.kinds.Kinds.{Kinds}
use Rattle.schema_paths.specs.declared.read.DocumentSchema.{DocumentSchema}

-- all documents are read; lines that are no documents are passed over, or they are errors
abbrev pub whole : Bool → Reading
whole skip_bad = record { null_keys = false; skip_bad = skip_bad; part = None }

-- no line is a document, and some are passed over: of the numbers of lines that are documents, and
-- of those that are none, there are only the latter
abbrev pub none_kept : List ℕ → List ℕ → Bool
none_kept numbers skipped = (length numbers == 0) && not (length skipped == 0)

-- the parts of the document of a line
abbrev pub parts_in : List ℕ → List Part
parts_in line = parts_below [] (tree_of line)

-- the parts of the documents of these lines are gathered, and their numbers are numbers
pub record AreGathered (lines : List (List ℕ)) (groups : Groups Kinds) : Type 0 where
  pub held : HoldsDocuments HasKinds (map parts_in lines) groups
  pub numbers : All (λ line. HasNumbers (tree_of line)) lines

-- the schemas of the paths of the documents of these lines
pub record IsSchemaOfLines (lines : List (List ℕ)) (s : DocumentSchema) : Type 0 where
  pub documents_are : s.documents ≡ length lines
  pub paths : AreSchemasOf (map parts_in lines) s.paths.items

-- these are the schemas of the paths of the lines of a text that are documents, and the numbers of
-- the other lines; unless these may be passed over, there are none
pub record IsSchemaOfText (text : List ℕ) (skip_bad : Bool) (s : DocumentSchema) : Type 0 where
  pub numbers : List ℕ
  pub numbered : AreNumbered (whole skip_bad) [] (lines_of text) numbers s.skipped.items
  pub some : none_kept numbers s.skipped.items ≡ false
  pub skip_bad_is : s.skip_bad ≡ skip_bad
  pub schema : IsSchemaOfLines (numbered_lines (lines_of text) numbers) s
