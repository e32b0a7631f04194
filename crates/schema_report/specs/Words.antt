-- The words for the kinds, counts and values of columns.
--
-- The least value Oslo of texts is shown as "Oslo", with its quotes, and the least value 7 of whole
-- numbers as 7.
use Rattle.std.specs.Fmt.{decimal}
use Rattle.std.specs.Prelude.{ℕ, zero, suc, ◌&&◌, nat_lt, nat_le, if◌then◌else◌, List, ◌++◌, length}
use Rattle.std.specs.Prelude.{take, get_or, codes, Option, None, Some}
use Rattle.diff_words.specs.Quoted.{quoted}
use Rattle.diff_words.specs.Words.{word_text}
use Rattle.schema_columns.specs.declared.kind.Kind.{Kind}
use Rattle.schema_columns.specs.declared.kind.Kind.TheVariants.{Empty, Truth, Whole, Number, Text}

-- the words for a kind
abbrev pub kind_word : Kind → List ℕ
kind_word Empty = codes "empty"
kind_word Truth = codes "truth value"
kind_word Whole = codes "whole number"
kind_word Number = codes "number"
kind_word Text = codes "text"

-- a count, or a hyphen where there is none
abbrev pub count_text : Option ℕ → List ℕ
count_text None = codes "-"
count_text (Some n) = decimal n

-- the longest front of at most n bytes that ends before the first byte of a character
abbrev pub front_len : List ℕ → ℕ → ℕ
front_len bytes zero = 0
front_len bytes (suc n) = if nat_lt 127 (get_or bytes (suc n) 0)
    && nat_lt (get_or bytes (suc n) 0) 192 then front_len bytes n else suc n

-- a string between quotes; no more than its first 40 bytes are shown
abbrev pub shown_string : List ℕ → List ℕ
shown_string bytes =
    if nat_le (length bytes) 40 then quoted bytes else quoted (take (front_len bytes 40) bytes)
    ++ codes ".."

-- a value of a kind
abbrev pub shown : Kind → List ℕ → List ℕ
shown Empty bytes = word_text bytes
shown Truth bytes = word_text bytes
shown Whole bytes = word_text bytes
shown Number bytes = word_text bytes
shown Text bytes = shown_string bytes

-- a value of a kind, or a hyphen where there is none
abbrev pub value_text : Kind → Option (List ℕ) → List ℕ
value_text kind None = codes "-"
value_text kind (Some bytes) = shown kind bytes
