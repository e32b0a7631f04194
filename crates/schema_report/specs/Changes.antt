-- Differences between the parts of two schemas, which are columns or paths. The n-th part of a name
-- is compared with the n-th part of this name in the other schema, its partner.
--
-- The left columns are id, a whole number, note and note. The right columns are id, a text, note,
-- and day. The column id is changed, the second note is removed, and day is added.
use Rattle.std.specs.List.{count_by}
use Rattle.std.specs.Prelude.{ℕ, suc, ◌-◌, ◌==◌, Bool, false, not, if◌then◌else◌, List, [], ◌∷◌}
use Rattle.std.specs.Prelude.{◌++◌, length, Option, None, Some, is_none}
use Rattle.std.specs.Str.{bytes_eq}
use Rattle.diff_columns.specs.declared.error.Side.{Side}
use Rattle.diff_columns.specs.declared.error.Side.TheVariants.{Left, Right}
use Rattle.schema_report.specs.declared.changes.SchemaCounts.{SchemaCounts}

-- the number of parts that have this name
abbrev pub count_named : {S : Type 0} → (S → List ℕ) → List ℕ → List S → ℕ
count_named name_of name parts = count_by (λ s. bytes_eq (name_of s) name) parts

-- the part of this name before which n parts have the name
abbrev pub nth_named : {S : Type 0} → (S → List ℕ) → List ℕ → ℕ → List S → Option S
nth_named name_of name n [] = None
nth_named name_of name n (s ∷ more) =
    if bytes_eq (name_of s) name
    then (if n == 0 then Some s else nth_named name_of name (n - 1) more)
    else nth_named name_of name n more

-- the partner of part s, which comes after the parts `before`: of the others with its name, the one
-- that has as many others of the name before it as `before` has
abbrev pub partner : {S : Type 0} → (S → List ℕ) → List S → List S → S → Option S
partner name_of others before s =
    nth_named name_of (name_of s) (count_named name_of (name_of s) before) others

-- a part has no partner among the others
abbrev pub is_alone : {S : Type 0} → (S → List ℕ) → List S → List S → S → Bool
is_alone name_of others before s = is_none (partner name_of others before s)

-- there is another part, and its kinds are not the same
abbrev pub differs_from : {S : Type 0} → (S → S → Bool) → S → Option S → Bool
differs_from same s None = false
differs_from same s (Some other) = not (same s other)

-- the partner of a part has other kinds
abbrev pub is_changed : {S : Type 0} → (S → List ℕ) → (S → S → Bool) → List S → List S → S
    → Bool
is_changed name_of same others before s = differs_from same s (partner name_of others before s)

-- how many parts of a list meet a condition on all parts before a part and on the part. The parts
-- `before` come before the list
abbrev pub count_parts : {S : Type 0} → (List S → S → Bool) → List S → List S → ℕ
count_parts p before [] = 0
count_parts p before (s ∷ more) =
    if p before s then suc (count_parts p (before ++ s ∷ []) more)
    else count_parts p (before ++ s ∷ []) more

-- the texts of the parts of a list, each by all parts before the part and by the part. The parts
-- `before` come before the list
abbrev pub texts_of : {S : Type 0} → (List S → S → List ℕ) → List S → List S → List ℕ
texts_of text before [] = []
texts_of text before (s ∷ more) = text before s ++ texts_of text (before ++ s ∷ []) more

-- the numbers of parts that have other kinds, are in one schema alone, and are the same
abbrev pub counts_of : {S : Type 0} → (S → List ℕ) → (S → S → Bool) → List S → List S
    → SchemaCounts
counts_of name_of same left right = record {
  changed = count_parts (is_changed name_of same right) [] left;
  removed = count_parts (is_alone name_of right) [] left;
  added = count_parts (is_alone name_of left) [] right;
  same = length left - count_parts (is_changed name_of same right) [] left
      - count_parts (is_alone name_of right) [] left;
}

-- what is written of a left part, by its partner
abbrev pub change_by : {S : Type 0} → (S → S → Bool) → (Side → S → List ℕ) → (S → S → List ℕ) → S
    → Option S → List ℕ
change_by same alone changed s None = alone Left s
change_by same alone changed s (Some other) = if same s other then [] else changed s other

-- what is written of a left part, unless it is the same as its partner
abbrev pub change_text : {S : Type 0} → (S → List ℕ) → (S → S → Bool) → (Side → S → List ℕ)
    → (S → S → List ℕ) → List S → List S → S → List ℕ
change_text name_of same alone changed right before s =
    change_by same alone changed s (partner name_of right before s)

-- what is written of a right part, if it has no partner
abbrev pub lone_text : {S : Type 0} → (S → List ℕ) → (Side → S → List ℕ) → List S → List S → S
    → List ℕ
lone_text name_of alone left before s =
    if is_alone name_of left before s then alone Right s else []

-- what the parts of two schemas differ in, by what is written of a part that one side has alone,
-- and of two parts whose kinds differ
abbrev pub changes_text : {S : Type 0} → (S → List ℕ) → (S → S → Bool) → (Side → S → List ℕ)
    → (S → S → List ℕ) → List S → List S → List ℕ
changes_text name_of same alone changed left right =
    texts_of (change_text name_of same alone changed right) [] left
    ++ texts_of (lone_text name_of alone left) [] right
