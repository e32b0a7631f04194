-- Documents: lines that are JSON objects, and the rows that they make.
--
-- With the keys order.id and n the line {"n": 1.0, "order": {"id": "A"}} has the row of the cells
-- "A" with its quotes, 1, and the line itself. With the key m it is a document only where keys may
-- be null, and has the cells null and the line.
use Rattle.std.specs.Prelude.{◌≡◌, ℕ, false, All, IsSome, List, [], ◌∷◌, ◌++◌, Option, Some, None}
use Rattle.std.specs.Prelude.{map, unwrap_or}
use Rattle.std.specs.Str.{IsUtf8}
use Rattle.json.specs.Json.{Json, null, Members, object, document}
use Rattle.json.specs.Strict.{HasUniqueKeys}
use Rattle.json_normal.specs.Narrow.{HasNarrowNumbers}
use Rattle.json_normal.specs.Normal.{normal_text}
use Rattle.json_paths.specs.Paths.{Path, part_at}
use Rattle.document_rows.specs.declared.reading.Reading.{Reading}

-- the value of a line, or null if the line is no JSON
abbrev pub tree_of : List ℕ → Json
tree_of line = unwrap_or (document line) null

-- each key leads to a part
abbrev pub HasParts : List Path → Json → Type 0
HasParts keys j = All (λ path. IsSome (part_at path j)) keys

-- each key leads to a part, unless keys may be null
abbrev pub HasKeys : Reading → List Path → Json → Type 0
HasKeys reading keys j = reading.null_keys ≡ false → HasParts keys j

-- a line is UTF-8 and a JSON object; no object in it has a name twice, no number has a wide
-- exponent, and each key leads to a part, unless keys may be null
pub record IsDocument (reading : Reading) (keys : List Path) (line : List ℕ) : Type 0 where
  pub utf8 : IsUtf8 line
  pub members : Members
  pub json : document line ≡ Some (object members)
  pub unique : HasUniqueKeys (object members)
  pub narrow : HasNarrowNumbers (object members)
  pub keys_there : HasKeys reading keys (object members)

-- the normal text of a part, or that of null if there is none
abbrev pub cell_of : Option Json → List ℕ
cell_of None = normal_text null
cell_of (Some part) = normal_text part

-- the normal text of a value's part at each key, or that of null if there is none
abbrev pub key_cells : List Path → Json → List (List ℕ)
key_cells keys j = map (λ path. cell_of (part_at path j)) keys

-- the row of a document: the cells of the keys, and then the line
abbrev pub document_row : List Path → List ℕ → List (List ℕ)
document_row keys line = key_cells keys (tree_of line) ++ line ∷ []
