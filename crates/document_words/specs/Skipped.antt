-- The numbers of lines of two files that are passed over, since they are no documents.
--
-- Skipped 2 lines of old.ndjson (the first is line 7).
-- Skipped 1 line of new.ndjson (line 12).
-- In JSON these are the members ,"left_skipped":2,"right_skipped":1
use Rattle.std.specs.Fmt.{decimal}
use Rattle.std.specs.Prelude.{ℕ, ◌==◌, Bool, if◌then◌else◌, List, [], ◌++◌, length, slice_index}
use Rattle.std.specs.Prelude.{codes}
use Rattle.diff_words.specs.Words.{word_text}
use Rattle.document_words.specs.declared.sides.DocumentSides.{DocumentSides}

-- the words after the number of lines
abbrev pub lines_word : ℕ → List ℕ
lines_word count = if count == 1 then codes " line of " else codes " lines of "

-- the words before the number of the first line, where this number of lines is passed over
abbrev pub first_word : ℕ → List ℕ
first_word count = if count == 1 then codes " (line " else codes " (the first is line "

-- the number of lines of a file that are passed over, and the number of the first such line;
-- nothing if there is none
unfoldable pub skipped_text : List ℕ → List ℕ → List ℕ
skipped_text name numbers = if length numbers == 0 then [] else codes "Skipped "
    ++ decimal (length numbers) ++ lines_word (length numbers) ++ word_text name
    ++ first_word (length numbers) ++ decimal (slice_index numbers 0) ++ codes ").\n"

-- the text for the left file, and then that for the right one
abbrev pub skipped_lines : DocumentSides → List ℕ
skipped_lines s = skipped_text s.left.name.items s.left_skipped.items
    ++ skipped_text s.right.name.items s.right_skipped.items

-- the number of lines that are passed over in the left file, and in the right one, in JSON, if
-- these are reported
unfoldable pub skipped_members : Bool → ℕ → ℕ → List ℕ
skipped_members told left right = if told then codes ",\"left_skipped\":" ++ decimal left
    ++ codes ",\"right_skipped\":" ++ decimal right else []
