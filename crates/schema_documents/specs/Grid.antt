-- The schemas of paths, as a table of words.
use Rattle.std.specs.Fmt.{decimal}
use Rattle.std.specs.Prelude.{◌==◌, ℕ, if◌then◌else◌, List, [], ◌∷◌, ◌++◌, codes, option_map}
use Rattle.json_plain.specs.Plain.{plain_json}
use Rattle.schema_columns.specs.declared.kind.Kind.TheVariants.{Number}
use Rattle.schema_paths.specs.declared.paths.PathSchema.{PathSchema}
use Rattle.schema_report.specs.Words.{count_text, value_text}

-- the headings of a path, of its nulls, and of the documents without it
abbrev pub head_names : List (List ℕ)
head_names = codes "path" ∷ codes "null" ∷ codes "missing" ∷ []

-- the headings of the other kinds but numbers
abbrev pub kind_names : List (List ℕ)
kind_names = codes "truth value" ∷ codes "text" ∷ codes "object" ∷ codes "array" ∷ []

-- the headings of what is said of numbers
abbrev pub number_names : List (List ℕ)
number_names = codes "number" ∷ codes "distinct" ∷ codes "least" ∷ codes "greatest" ∷ []

-- the headings of all properties
abbrev pub header : List (List ℕ)
header = head_names ++ kind_names ++ number_names

-- a path, the number of its nulls, and that of the documents without it
abbrev pub head_cells : PathSchema → List (List ℕ)
head_cells s = plain_json s.path.items ∷ decimal s.nulls ∷ decimal s.missing ∷ []

-- the numbers of values of the other kinds but numbers
abbrev pub kind_cells : PathSchema → List (List ℕ)
kind_cells s = decimal s.truths ∷ decimal s.texts ∷ decimal s.objects ∷ decimal s.arrays ∷ []

-- how many of the numbers differ, or a hyphen where there are no numbers
abbrev pub distinct_text : PathSchema → List ℕ
distinct_text s = if s.numbers == 0 then codes "-" else count_text s.distinct

-- how many numbers there are, and how many of them differ
abbrev pub number_cells : PathSchema → List (List ℕ)
number_cells s = decimal s.numbers ∷ distinct_text s ∷ []

-- the least and the greatest number
abbrev pub end_cells : PathSchema → List (List ℕ)
end_cells s =
    value_text Number (option_map (λ t. t.items) s.least) ∷ value_text Number
    (option_map (λ t. t.items) s.greatest) ∷ []

-- the properties of a path
unfoldable pub row_of : PathSchema → List (List ℕ)
row_of s = head_cells s ++ kind_cells s ++ number_cells s ++ end_cells s
