-- The numbers of the lines of a text that are documents.
--
-- Of the lines {"id": 7}, [8] and {"id": 9} those with the numbers 1 and 3 are documents, and that
-- with the number 2 is none. It is passed over, where such lines are. A part of the documents may
-- have the number 3 alone.
use Rattle.std.specs.Prelude.{◌≡◌, ◌<◌, ◌-◌, ℕ, suc, false, All, List, [], get_or, length, map}
use Rattle.diff_keys.specs.Rising.{ListsRising}
use Rattle.json_paths.specs.Paths.{Path}
use Rattle.document_rows.specs.Documents.{IsDocument}
use Rattle.document_rows.specs.Lines.{lines_of}
use Rattle.document_rows.specs.Parts.{IsWanted}
use Rattle.document_rows.specs.declared.reading.Reading.{Reading}

-- the line with a number, the first being 1
abbrev pub numbered_line : List (List ℕ) → ℕ → List ℕ
numbered_line lines n = get_or lines (n - 1) []

-- the lines with these numbers
abbrev pub numbered_lines : List (List ℕ) → List ℕ → List (List ℕ)
numbered_lines lines numbers = map (numbered_line lines) numbers

-- the line with a number is one of the lines that are meant
abbrev pub IsNumberOf : (List ℕ → Type 0) → List (List ℕ) → ℕ → Type 0
IsNumberOf IsMeant lines n = (0 < n) × IsMeant (numbered_line lines n)

-- these are the numbers of the lines that are meant, in rising order
abbrev pub AreNumbersOf : (List ℕ → Type 0) → List (List ℕ) → List ℕ → Type 0
AreNumbersOf IsMeant lines numbers =
    ListsRising (IsNumberOf IsMeant lines) (suc (length lines)) numbers

-- these are the numbers of the lines that are documents, and in the part if there is one, and the
-- numbers of the lines that are not documents; unless lines may be passed over, each line is a
-- document
pub record AreNumbered (reading : Reading) (keys : List Path) (lines : List (List ℕ))
    (numbers skipped : List ℕ) : Type 0 where
  pub documents : AreNumbersOf (IsWanted reading keys) lines numbers
  pub others : AreNumbersOf (λ line. ¬ IsDocument reading keys line) lines skipped
  pub none_skipped : reading.skip_bad ≡ false → All (IsDocument reading keys) lines

-- these are the numbers of the lines of a text that are documents, and in the part if there is one
abbrev pub AreDocumentNumbers : List ℕ → Reading → List Path → List ℕ → Type 0
AreDocumentNumbers text reading keys numbers = (skipped : List ℕ)
    × AreNumbered reading keys (lines_of text) numbers skipped
