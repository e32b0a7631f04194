-- Worked examples of the definitions.
use Rattle.std.specs.Fmt.{digits}
use Rattle.std.specs.Prelude.{◌≡◌, ℕ, List, [], ◌∷◌, ◌++◌, take, Some, None, codes, refl}
use Rattle.std.specs.Str.{bytes_eq}
use Rattle.diff_words.specs.Quoted.{byte_text, quoted}
use Rattle.diff_words.specs.Words.{word_text}
use Rattle.schema_columns.specs.declared.kind.Kind.TheVariants.{Truth, Whole, Text}
use Rattle.schema_report.specs.Aligned.{aligned}
use Rattle.schema_report.specs.Changes.{changes_text, counts_of, nth_named}
use Rattle.schema_report.specs.ColumnChanges.{kind_line}
use Rattle.schema_report.specs.Text.{head_line}
use Rattle.schema_report.specs.Words.{value_text}

-- two rows of two words
two-rows : aligned 2 ((codes "id" ∷ codes "type" ∷ []) ∷ (codes "amount" ∷ codes "text" ∷ []) ∷ []) ≡ codes "id      type\namount  text\n"
two-rows = refl

-- a number, a text, and a value that there is none of
number-shown : value_text Whole (Some (codes "-7")) ≡ codes "-7"
unfolding word_text
number-shown = refl

text-shown : value_text Text (Some (codes "Oslo")) ≡ codes "\"Oslo\""
unfolding quoted byte_text
text-shown = refl

none-shown : value_text Text None ≡ codes "-"
none-shown = refl

-- a file with one row and two columns
one-row : head_line (codes "one.csv") 1 2 ≡ codes "one.csv: 1 row, 2 columns\n"
unfolding head_line word_text digits
one-row = refl

-- a column whose kinds differ
kinds-differ : kind_line (codes "paid") Truth Text ≡ codes "~ column paid  truth value -> text\n"
unfolding kind_line word_text
kinds-differ = refl

-- parts whose name is their first letter, and whose kind is the second one
abbrev name : List ℕ → List ℕ
name part = take 1 part

abbrev left : List (List ℕ)
left = codes "ix" ∷ codes "nx" ∷ codes "ax" ∷ codes "ny" ∷ []

abbrev right : List (List ℕ)
right = codes "ax" ∷ codes "iy" ∷ codes "nx" ∷ codes "dx" ∷ []

second-named : nth_named name (codes "n") 1 left ≡ Some (codes "ny")
second-named = refl

their-counts : counts_of name bytes_eq left right ≡ record { changed = 1; removed = 1; added = 1; same = 2 }
their-counts = refl

their-changes : changes_text name bytes_eq (λ side s. s ++ codes " alone ") (λ s t. s ++ t ++ codes " ") left right ≡ codes "ixiy ny alone dx alone "
their-changes = refl
