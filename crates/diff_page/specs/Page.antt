-- The page of a report.
--
-- A report is JSON, where < stands in strings alone. Written as \u003c it is the same character to
-- JSON, and no tag to a browser: the text a<b is a\u003cb in a page.
use Rattle.std.specs.Prelude.{ℕ, ◌≡◌, ◌==◌, false, if◌then◌else◌, List, [], ◌∷◌, ◌++◌, All, codes}
use Rattle.diff_json.specs.Strings.{json_string}
use Rattle.diff_page.specs.declared.frame.TheConstants.{HEAD, BODY, MIDDLE, END}
use Rattle.diff_page.specs.declared.script.TheConstants.{SCRIPT}
use Rattle.diff_page.specs.declared.style.TheConstants.{STYLE}

-- a byte, or the escape that means it where it would begin a tag
abbrev pub untagged_byte : ℕ → List ℕ
untagged_byte b = if b == 60 then codes "\\u003c" else b ∷ []

-- a text in which no tag begins
unfoldable pub untagged : List ℕ → List ℕ
untagged [] = []
untagged (b ∷ rest) = untagged_byte b ++ untagged rest

-- no byte begins a tag
abbrev pub HasNoTag : List ℕ → Type 0
HasNoTag text = All (λ b. (b == 60) ≡ false) text

-- the line of JSON that names two inputs
abbrev pub files_object : List ℕ → List ℕ → List ℕ
files_object left right = codes "{\"kind\":\"files\",\"left\":" ++ json_string left
    ++ codes ",\"right\":" ++ json_string right ++ codes "}\n"

-- the part of a page before the report
unfoldable pub opening : List ℕ
opening = HEAD.now ++ STYLE.now ++ BODY.now

-- the part of a page after the report
unfoldable pub closing : List ℕ
closing = MIDDLE.now ++ SCRIPT.now ++ END.now

-- the page of a report: within the frame, the names of the inputs and the report
abbrev pub page_of : List ℕ → List ℕ → List ℕ → List ℕ
page_of left right report = opening ++ untagged (files_object left right) ++ untagged report
    ++ closing
