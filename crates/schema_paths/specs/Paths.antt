-- The schemas of the paths of documents.
--
-- In {"a": 7} and {"b": 1, "a": [8, 9]} the path a has a number, 7, and an array, and is missing in
-- no document. The path a[] has two numbers, 8 the least of them, and is missing in one
-- document. So a and a[] do not have the same kinds of values. In {"a": [9], "c": [7]} the paths
-- a[] and c[] do, one number each, and so do a and c.
use Rattle.std.specs.List.{count_by}
use Rattle.std.specs.Prelude.{◌≡◌, ◌==◌, ◌&&◌, ℕ, All, Bool, not, if◌then◌else◌, List, length}
use Rattle.std.specs.Prelude.{map, option_map}
use Rattle.json.specs.Json.{Json}
use Rattle.json.specs.Tree.{HasNumbers}
use Rattle.json_groups.specs.Groups.{all_parts, has, paths_of, values_at}
use Rattle.json_parts.specs.Parts.{Part}
use Rattle.schema_paths.specs.Kinds.{is_array, is_null, is_object, is_text, is_truth}
use Rattle.schema_paths.specs.Kinds.{numbers_in}
use Rattle.schema_paths.specs.declared.paths.PathSchema.{PathSchema}
use Rattle.schema_values.specs.Numbers.{TellsNumbers}
use Rattle.schema_values.specs.Told.{Told}

-- the texts of all numbers in parts are numbers
abbrev pub AreNumeric : List (List Part) → Type 0
AreNumeric documents = All (λ p. HasNumbers p.value) (all_parts documents)

-- the numbers of a schema: how many differ, the least and the greatest
abbrev pub told_in : PathSchema → Told
told_in s = record {
  distinct = s.distinct;
  least = option_map (λ t. t.items) s.least;
  greatest = option_map (λ t. t.items) s.greatest;
}

-- values are counted by their kinds, and the numbers among them have this summary
pub record AreCounted (values : List Json) (s : PathSchema) : Type 0 where
  pub nulls : s.nulls ≡ count_by is_null values
  pub truths : s.truths ≡ count_by is_truth values
  pub texts : s.texts ≡ count_by is_text values
  pub objects : s.objects ≡ count_by is_object values
  pub arrays : s.arrays ≡ count_by is_array values
  pub numbers : s.numbers ≡ length (numbers_in values)
  pub extremes : TellsNumbers (numbers_in values) (told_in s)

-- the schema of its path in documents: the number of documents, of those without a value there, and
-- the counts of the values there
pub record IsSchemaOf (documents : List (List Part)) (s : PathSchema) : Type 0 where
  pub documents_are : s.documents ≡ length documents
  pub missing : s.missing ≡ count_by (λ parts. not (has s.path.items parts)) documents
  pub values : AreCounted (values_at s.path.items (all_parts documents)) s

-- there is a schema for each path of documents, in the order in which the paths first come
pub record AreSchemasOf (documents : List (List Part)) (schemas : List PathSchema) : Type 0 where
  pub paths : map (λ s. s.path.items) schemas ≡ paths_of (all_parts documents)
  pub each : All (IsSchemaOf documents) schemas

-- two counts are both 0, or neither is
abbrev pub is_alike : ℕ → ℕ → Bool
is_alike m n = if m == 0 then n == 0 else not (n == 0)

-- two paths have values of the same kinds: of each kind both have values, or neither has
abbrev pub same_kinds : PathSchema → PathSchema → Bool
same_kinds s t = is_alike s.nulls t.nulls && is_alike s.truths t.truths
    && is_alike s.numbers t.numbers && is_alike s.texts t.texts
    && is_alike s.objects t.objects && is_alike s.arrays t.arrays
