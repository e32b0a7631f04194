-- The schemas of paths as JSON lines.
--
-- {"path":"a","documents":2,"null":0,"missing":0,"truth_value":0,"text":0,"object":0,"array":1,
-- "number":1,"distinct":1,"least":"7","greatest":"7"}
-- Where lines may be passed over, the member "skipped" stands after "documents".
use Rattle.std.specs.Fmt.{decimal}
use Rattle.std.specs.List.{flat_map}
use Rattle.std.specs.Prelude.{ℕ, Bool, if◌then◌else◌, List, [], ◌++◌, length, codes, option_map}
use Rattle.diff_json.specs.Strings.{json_string}
use Rattle.schema_paths.specs.declared.paths.PathSchema.{PathSchema}
use Rattle.schema_paths.specs.declared.read.DocumentSchema.{DocumentSchema}
use Rattle.schema_report.specs.JsonLines.{count_member, value_member}

-- the members with a path and the number of documents
unfoldable pub name_members : PathSchema → List ℕ
name_members s = codes "{\"path\":" ++ json_string s.path.items ++ codes ",\"documents\":"
    ++ decimal s.documents

-- the member with the number of lines that are passed over, if lines may be
abbrev pub skipped_member : Bool → ℕ → List ℕ
skipped_member skip_bad count =
    if skip_bad then codes ",\"skipped\":" ++ decimal count else []

-- the members with the number of its nulls, and that of the documents without it
unfoldable pub hole_members : PathSchema → List ℕ
hole_members s = codes ",\"null\":" ++ decimal s.nulls ++ codes ",\"missing\":"
    ++ decimal s.missing

-- the members with the numbers of values of the other kinds but numbers
unfoldable pub kind_members : PathSchema → List ℕ
kind_members s = codes ",\"truth_value\":" ++ decimal s.truths ++ codes ",\"text\":"
    ++ decimal s.texts ++ codes ",\"object\":" ++ decimal s.objects ++ codes ",\"array\":"
    ++ decimal s.arrays

-- the members with how many numbers there are, and how many of them differ
unfoldable pub number_members : PathSchema → List ℕ
number_members s = codes ",\"number\":" ++ decimal s.numbers ++ codes ",\"distinct\":"
    ++ count_member s.distinct

-- the members with the least and the greatest number
unfoldable pub end_members : PathSchema → List ℕ
end_members s = codes ",\"least\":" ++ value_member (option_map (λ t. t.items) s.least)
    ++ codes ",\"greatest\":" ++ value_member (option_map (λ t. t.items) s.greatest)
    ++ codes "}\n"

-- the members with a path, the number of documents and of lines that are passed over, that of its
-- nulls, and that of the documents without it
abbrev pub head_members : Bool → ℕ → PathSchema → List ℕ
head_members skip_bad count s = name_members s ++ skipped_member skip_bad count ++ hole_members s

-- a path as an object in a line
abbrev pub path_line : Bool → ℕ → PathSchema → List ℕ
path_line skip_bad count s = head_members skip_bad count s ++ kind_members s ++ number_members s
    ++ end_members s

-- the paths of documents as JSON lines
abbrev pub schema_lines : DocumentSchema → List ℕ
schema_lines s = flat_map (path_line s.skip_bad (length s.skipped.items)) s.paths.items
