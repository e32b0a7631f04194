-- The properties of columns, as a table of words.
use Rattle.std.specs.Prelude.{ℕ, List, [], ◌∷◌, ◌++◌, codes, Some, option_map}
use Rattle.diff_words.specs.Words.{word_text}
use Rattle.schema_columns.specs.declared.column.ColumnSchema.{ColumnSchema}
use Rattle.schema_report.specs.Words.{count_text, kind_word, value_text}

-- the headings of a column's name and its kind
abbrev pub head_names : List (List ℕ)
head_names = codes "column" ∷ codes "type" ∷ []

-- the headings of its counts
abbrev pub count_names : List (List ℕ)
count_names = codes "null" ∷ codes "missing" ∷ codes "distinct" ∷ []

-- the headings of its least and its greatest value
abbrev pub end_names : List (List ℕ)
end_names = codes "least" ∷ codes "greatest" ∷ []

-- the headings of all properties
abbrev pub header : List (List ℕ)
header = head_names ++ count_names ++ end_names

-- a column's name and its kind
abbrev pub head_cells : ColumnSchema → List (List ℕ)
head_cells s = word_text s.name.items ∷ kind_word s.kind ∷ []

-- the numbers of its null cells, missing cells and different values
abbrev pub count_cells : ColumnSchema → List (List ℕ)
count_cells s = count_text (Some s.nulls) ∷ count_text (Some s.missing) ∷ count_text s.distinct ∷ []

-- its least and its greatest value
abbrev pub end_cells : ColumnSchema → List (List ℕ)
end_cells s =
    value_text s.kind (option_map (λ t. t.items) s.least) ∷ value_text s.kind
    (option_map (λ t. t.items) s.greatest) ∷ []

-- the properties of a column
abbrev pub row_of : ColumnSchema → List (List ℕ)
row_of s = head_cells s ++ count_cells s ++ end_cells s
