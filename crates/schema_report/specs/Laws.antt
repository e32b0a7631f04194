-- A schema has no differences from itself, even if several parts have the same name.
--
-- If a table has two columns a, one of texts and one of whole numbers, its columns are the same as
-- its own columns, and nothing is written.
use Rattle.std.specs.Prelude.{◌≡◌, ℕ, Bool, true, List, [], length}
use Rattle.schema_report.specs.Changes.{changes_text, counts_of}
use Rattle.diff_columns.specs.declared.error.Side.{Side}

-- each part has the same kinds as itself
abbrev pub HasOwnKinds : {S : Type 0} → (S → S → Bool) → Type 0
HasOwnKinds same = (s : _) → same s s ≡ true

-- compared with itself, a schema has only parts that are the same
abbrev pub AllTheSame : {S : Type 0} → (S → List ℕ) → (S → S → Bool) → Type 0
AllTheSame name_of same = (parts : List _) → counts_of name_of same parts parts
    ≡ record { changed = 0; removed = 0; added = 0; same = length parts }

-- compared with itself, a schema has no differences that are written
abbrev pub NothingWritten : {S : Type 0} → (S → List ℕ) → (S → S → Bool) → Type 0
NothingWritten name_of same =
    (alone : Side → _ → List ℕ) (changed : _ → _ → List ℕ) (parts : List _)
    → changes_text name_of same alone changed parts parts ≡ []
