-- The texts of values, names and keys.
--
-- The string Oslo is "Oslo", the member id with 7 is id=7, and the member "a b" with null is "a
-- b"=null.
use Rattle.std.specs.List.{list_all}
use Rattle.std.specs.Prelude.{ℕ, ◌==◌, Bool, not, ◌&&◌, nat_lt, if◌then◌else◌, List, [], ◌++◌}
use Rattle.std.specs.Prelude.{length, codes, Option, Some, None, option_and_then}
use Rattle.json.specs.Find.{as_object, get}
use Rattle.json.specs.Json.{Json, string, Members, no_members, member}
use Rattle.json.specs.Print.{print}
use Rattle.json.specs.Tree.{json_tokens}
use Rattle.diff_aligned.specs.Shown.{text_of}
use Rattle.diff_lines.specs.Parts.{number_at}

-- a value as JSON with no blank
unfoldable pub value_text : Json → List ℕ
value_text j = text_of (print (json_tokens j))

-- a byte above a space that is no quote, comma, equals sign, backslash, 127 or 194, with which
-- U+0080 to U+00BF begin
abbrev pub is_word_byte : ℕ → Bool
is_word_byte b = nat_lt 32 b && not (b == 34) && not (b == 44) && not (b == 61) && not (b == 92)
    && not (b == 127) && not (b == 194)

-- bytes that may all stand in a word
abbrev pub is_word : List ℕ → Bool
is_word bytes = not (length bytes == 0) && list_all is_word_byte bytes

-- a name unchanged if it is a word, and otherwise as a JSON string
unfoldable pub name_text : List ℕ → List ℕ
name_text name = if is_word name then text_of name else value_text (string name)

-- the value of one side, if it has the part
abbrev pub side_text : Option Json → List ℕ
side_text None = codes "missing"
side_text (Some j) = value_text j

-- a member
unfoldable pub pair_text : List ℕ → Json → List ℕ
pair_text name j = name_text name ++ codes "=" ++ value_text j

-- members one after another, with commas between them, and something before the first
abbrev pub pairs_after : List ℕ → Members → List ℕ
pairs_after gap no_members = []
pairs_after gap (member name j rest) = gap ++ pair_text name j ++ pairs_after (codes ",") rest

-- the members that there are
abbrev pub pairs_in : Option Members → List ℕ
pairs_in None = []
pairs_in (Some ms) = pairs_after [] ms

-- the members of a part that is an object
unfoldable pub pairs_text : Option Json → List ℕ
pairs_text part = pairs_in (option_and_then as_object part)

-- a number as it is written
unfoldable pub number_text : List ℕ → Json → List ℕ
number_text name j = text_of (number_at name j)

-- a key, or the lines of both files where there is none
abbrev pub key_or_lines : List ℕ → Json → List ℕ
key_or_lines key j = if length key == 0 then codes "lines " ++ number_text (codes "left_line") j
    ++ codes " and " ++ number_text (codes "right_line") j else key

-- the name of a changed row
unfoldable pub row_name : Json → List ℕ
row_name j = key_or_lines (pairs_text (get (codes "key") j)) j
