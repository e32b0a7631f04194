-- Columns as JSON lines.
--
-- {"column":"id","type":"whole
-- number","rows":4,"null":0,"missing":0,"distinct":4,"least":"1","greatest":"4"}
use Rattle.std.specs.Fmt.{decimal}
use Rattle.std.specs.List.{flat_map}
use Rattle.std.specs.Prelude.{ℕ, List, ◌++◌, codes, Option, None, Some, option_map}
use Rattle.diff_json.specs.Strings.{json_string}
use Rattle.schema_columns.specs.declared.column.ColumnSchema.{ColumnSchema}
use Rattle.schema_report.specs.Words.{kind_word}

-- a count, or null where there is none
abbrev pub count_member : Option ℕ → List ℕ
count_member None = codes "null"
count_member (Some n) = decimal n

-- a value as a string, or null where there is none
abbrev pub value_member : Option (List ℕ) → List ℕ
value_member None = codes "null"
value_member (Some bytes) = json_string bytes

-- the members with a column's name and its kind
unfoldable pub head_members : ColumnSchema → List ℕ
head_members s = codes "{\"column\":" ++ json_string s.name.items
    ++ codes ",\"type\":\"" ++ kind_word s.kind

-- the members with its counts
unfoldable pub count_members : ColumnSchema → List ℕ
count_members s =
    codes "\",\"rows\":" ++ decimal s.rows ++ codes ",\"null\":" ++ decimal s.nulls
    ++ codes ",\"missing\":" ++ decimal s.missing ++ codes ",\"distinct\":"
    ++ count_member s.distinct

-- the members with its least and its greatest value
unfoldable pub end_members : ColumnSchema → List ℕ
end_members s =
    codes ",\"least\":" ++ value_member (option_map (λ t. t.items) s.least)
    ++ codes ",\"greatest\":" ++ value_member (option_map (λ t. t.items) s.greatest)
    ++ codes "}\n"

-- a column as an object in a line
abbrev pub column_line : ColumnSchema → List ℕ
column_line s = head_members s ++ count_members s ++ end_members s

-- columns as JSON lines
abbrev pub schema_lines : List ColumnSchema → List ℕ
schema_lines columns = flat_map column_line columns
