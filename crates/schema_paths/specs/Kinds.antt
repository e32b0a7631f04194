-- Values counted by their kinds.
--
-- Of null, 7, "a" and 1.50 one is null, one is a text, and two are numbers, whose texts are 7 and
-- 1.50.
use Rattle.std.specs.List.{count_by, flat_map}
use Rattle.std.specs.Prelude.{◌≡◌, ℕ, Bool, true, false, List, [], ◌∷◌}
use Rattle.diff_tables.specs.Strings.{AreStrings}
use Rattle.json.specs.Json.{Json, null, boolean, number, string, array, object}
use Rattle.schema_paths.specs.declared.kinds.Kinds.{Kinds}

-- a value is null
abbrev pub is_null : Json → Bool
is_null null = true
is_null (boolean b) = false
is_null (number s) = false
is_null (string s) = false
is_null (array js) = false
is_null (object ms) = false

-- a value is true or false
abbrev pub is_truth : Json → Bool
is_truth null = false
is_truth (boolean b) = true
is_truth (number s) = false
is_truth (string s) = false
is_truth (array js) = false
is_truth (object ms) = false

-- a value is a string
abbrev pub is_text : Json → Bool
is_text null = false
is_text (boolean b) = false
is_text (number s) = false
is_text (string s) = true
is_text (array js) = false
is_text (object ms) = false

-- a value is an object
abbrev pub is_object : Json → Bool
is_object null = false
is_object (boolean b) = false
is_object (number s) = false
is_object (string s) = false
is_object (array js) = false
is_object (object ms) = true

-- a value is an array
abbrev pub is_array : Json → Bool
is_array null = false
is_array (boolean b) = false
is_array (number s) = false
is_array (string s) = false
is_array (array js) = true
is_array (object ms) = false

-- the text of a number, and nothing of another value
abbrev pub number_text : Json → List (List ℕ)
number_text null = []
number_text (boolean b) = []
number_text (number s) = s ∷ []
number_text (string s) = []
number_text (array js) = []
number_text (object ms) = []

-- the texts of the numbers among values
abbrev pub numbers_in : List Json → List (List ℕ)
numbers_in values = flat_map number_text values

-- the values were counted, and the texts of the numbers were kept
pub record HasKinds (values : List Json) (k : Kinds) : Type 0 where
  pub nulls : k.nulls ≡ count_by is_null values
  pub truths : k.truths ≡ count_by is_truth values
  pub texts : k.texts ≡ count_by is_text values
  pub objects : k.objects ≡ count_by is_object values
  pub arrays : k.arrays ≡ count_by is_array values
  pub numbers : AreStrings k.numbers (numbers_in values)
