-- The lines of columns that only one input has.
--
-- {"kind":"column","column":"note","only_in":"left"}
use Rattle.std.specs.Prelude.{ℕ, List, ◌++◌, codes}
use Rattle.diff_columns.specs.Errors.{word_of}
use Rattle.diff_columns.specs.declared.error.Side.{Side}
use Rattle.diff_json.specs.Strings.{json_string}

-- the line of a column that only one input has
unfoldable pub column_object : Side → List ℕ → List ℕ
column_object side name = codes "{\"kind\":\"column\",\"column\":" ++ json_string name
    ++ codes ",\"only_in\":\"" ++ word_of side ++ codes "\"}\n"
