-- The documents of a part of all.
--
-- The key of {"id": 7} by the path id is the byte "7" and its end, 0 and 0, and so is that of {"n":
-- 1, "id": 7.0}. So they are in one part, of however many there are.
use Rattle.std.specs.List.{range_with_len}
use Rattle.std.specs.Prelude.{◌≡◌, ℕ, Bool, true, List, Option, Some, None, length}
use Rattle.diff_parts.specs.Parts.{PartNumber}
use Rattle.diff_parts.specs.Rows.{has_row}
use Rattle.document_rows.specs.Documents.{IsDocument, key_cells, tree_of}
use Rattle.document_rows.specs.declared.reading.Reading.{Reading}
use Rattle.json.specs.Json.{Json}
use Rattle.json_paths.specs.Paths.{Path}

-- a value is in a part, or there is no part; its part depends on the normal texts of its parts at
-- the keys, each with its end
abbrev pub is_in : Option PartNumber → List Path → Json → Bool
is_in None keys j = true
is_in (Some part) keys j = has_row part (range_with_len 0 (length keys)) (key_cells keys j)

-- a line is a document that is kept: any document, or one of the part if there is one
pub record IsWanted (reading : Reading) (keys : List Path) (line : List ℕ) : Type 0 where
  pub document : IsDocument reading keys line
  pub in_part : is_in reading.part keys (tree_of line) ≡ true
