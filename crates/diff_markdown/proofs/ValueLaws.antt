-- Law: what is written of a value is JSON of the same value.
use Rattle.std.proofs.Common.{◌≡◌, ℕ, ◌≤◌, Bool, true, false, cond, ◌&&◌, List, [], ◌∷◌, ◌++◌, Some, option_and_then, refl, sym, ap, ap₂, ◌∙◌, append_assoc, append-nil}
use Rattle.std.specs.List.{list_all}
use Rattle.json.specs.Json.{Json, document, if_last, max_depth, value}
use Rattle.json.specs.Lex.{between, fresh, lex, punctuate, string_token, token, tokens}
use Rattle.json.specs.Print.{ArePrintable, IsNumber, IsPrintable, begins, ends, escape, print, print_from, quoted, token_text}
use Rattle.json.specs.Token.{Token, begin_object, end_object, begin_array, end_array, key, string, number, boolean, null, bad}
use Rattle.json.specs.Tree.{HasNumbers, depth, json_tokens}
use Rattle.json.specs.Word.{ends_word, word}
use Rattle.json.proofs.Printed.Numbers.{in_word-ended, lex-number}
use Rattle.json.proofs.Printed.Strings.{content-escape, lex-escape}
use Rattle.json.proofs.Printed.Tokens.{tokens-print}
use Rattle.json.proofs.Printed.Trees.{ArePrintable-json_tokens, value-json_tokens}
use Rattle.diff_markdown.specs.Cells.{value_text}
use Rattle.diff_markdown.specs.Escapes.{safe_behind, safe_byte, safe}
use Rattle.diff_markdown.proofs.NumberLemmas.{is_low, number_low}
use Rattle.diff_markdown.proofs.StringLemmas.{Spells, calm, low_first, low_run, spells}

-- the safe text from the front
abbrev safely : List ℕ → List ℕ
safely r = safe_behind 0 r

one_first : (x : ℕ) (r : List ℕ) → is_low x ≡ true → safely (x ∷ r) ≡ x ∷ safely r
one_first x r low = low_first 0 x r low ∙ ap (λ l. x ∷ l) (calm x r low)

-- the lexer makes the same of a text and of its safe text
abbrev LexesSame : List ℕ → Type 0
LexesSame r = lex between (safely r) ≡ lex between r

quoted_same : (s r : List ℕ) → LexesSame r → LexesSame (quoted s ++ r)
unfolding lex
quoted_same s r same =
    let e = append_assoc (escape s) (34 ∷ []) r in
    let spelt : Spells (safe_behind 34 (escape s ++ 34 ∷ r)) s r = spells s r 34 refl in
    let text : safely (quoted s ++ r) ≡ 34 ∷ safe_behind 34 (escape s ++ 34 ∷ r) = ap (λ l. safely (34 ∷ l)) e ∙ low_first 0 34 (escape s ++ 34 ∷ r) refl in
    ap (lex between) text ∙ ap₂ (λ o l. token (string_token o) ∷ l) spelt.read (spelt.lexed ∙ same)
    ∙ sym (ap (λ l. lex between (34 ∷ l)) e ∙ ap₂ (λ o l. token (string_token o) ∷ l) (content-escape s r) (lex-escape s r))

-- a text that lexes as one token before what ends a word
number_same : (s r : List ℕ) → IsNumber s → ends_word r ≡ true → ends_word (safely r) ≡ true → LexesSame r → LexesSame (s ++ r)
number_same s r h ended safe_ended same =
    ap (lex between) (run s (number_low s h)) ∙ lex-number s (safely r) h safe_ended ∙ ap (λ l. token (number s) ∷ l) same ∙ sym (lex-number s r h ended)
  where
    run : (xs : List ℕ) → list_all is_low xs ≡ true → safely (xs ++ r) ≡ xs ++ safely r
    run [] low = refl
    run (x ∷ xs) low = low_run 0 (x ∷ xs) r low

-- what follows a value ends a word
after_value_ends : (ts : List Token) → (ends_word (print_from true ts) ≡ true) × (ends_word (safely (print_from true ts)) ≡ true)
unfolding print_from safe_byte
after_value_ends [] = (refl, refl)
after_value_ends (begin_object ∷ ts) = (refl, refl)
after_value_ends (end_object ∷ ts) = (refl, refl)
after_value_ends (begin_array ∷ ts) = (refl, refl)
after_value_ends (end_array ∷ ts) = (refl, refl)
after_value_ends (key s ∷ ts) = (refl, refl)
after_value_ends (string s ∷ ts) = (refl, refl)
after_value_ends (number s ∷ ts) = (refl, refl)
after_value_ends (boolean b ∷ ts) = (refl, refl)
after_value_ends (null ∷ ts) = (refl, refl)
after_value_ends (bad ∷ ts) = (refl, refl)

token_same : (t : Token) (r : List ℕ) → IsPrintable t → (ends t ≡ true → (ends_word r ≡ true) × (ends_word (safely r) ≡ true)) → LexesSame r → LexesSame (token_text t ++ r)
unfolding lex word
token_same begin_object r h ended same = ap (lex between) (one_first 123 r refl) ∙ ap (λ l. token begin_object ∷ l) same
token_same end_object r h ended same = ap (lex between) (one_first 125 r refl) ∙ ap (λ l. token end_object ∷ l) same
token_same begin_array r h ended same = ap (lex between) (one_first 91 r refl) ∙ ap (λ l. token begin_array ∷ l) same
token_same end_array r h ended same = ap (lex between) (one_first 93 r refl) ∙ ap (λ l. token end_array ∷ l) same
token_same (key s) r h ended same =
    let colon : LexesSame (58 ∷ r) = ap (lex between) (one_first 58 r refl) ∙ ap (λ l. lex between (58 ∷ []) ++ l) same in
    ap (λ l. lex between (safely l)) (append_assoc (quoted s) (58 ∷ []) r) ∙ quoted_same s (58 ∷ r) colon ∙ sym (ap (lex between) (append_assoc (quoted s) (58 ∷ []) r))
token_same (string s) r h ended same = quoted_same s r same
token_same (number s) r h ended same = number_same s r h (ended refl).0 (ended refl).1 same
token_same (boolean true) r h ended same =
    ap (lex between) (low_run 0 (token_text (boolean true)) r refl)
    ∙ ap₂ (λ b l. token (cond b (boolean true) bad) ∷ l) ((ended refl).1 ∙ sym (ended refl).0) (in_word-ended (safely r) (ended refl).1 ∙ same ∙ sym (in_word-ended r (ended refl).0))
token_same (boolean false) r h ended same =
    ap (lex between) (low_run 0 (token_text (boolean false)) r refl)
    ∙ ap₂ (λ b l. token (cond b (boolean false) bad) ∷ l) ((ended refl).1 ∙ sym (ended refl).0) (in_word-ended (safely r) (ended refl).1 ∙ same ∙ sym (in_word-ended r (ended refl).0))
token_same null r h ended same =
    ap (lex between) (low_run 0 (token_text null) r refl)
    ∙ ap₂ (λ b l. token (cond b null bad) ∷ l) ((ended refl).1 ∙ sym (ended refl).0) (in_word-ended (safely r) (ended refl).1 ∙ same ∙ sym (in_word-ended r (ended refl).0))
token_same bad r h ended same = absurd h

separator_same : (b : Bool) (r : List ℕ) → LexesSame r → LexesSame (cond b (44 ∷ []) [] ++ r)
unfolding lex
separator_same true r same = ap (lex between) (one_first 44 r refl) ∙ ap (λ l. lex between (44 ∷ []) ++ l) same
separator_same false r same = same

tokens_same : (c : Bool) (ts : List Token) → ArePrintable ts → LexesSame (print_from c ts)
unfolding print_from ArePrintable lex
tokens_same c [] h = refl
tokens_same c (t ∷ ts) h =
    separator_same (c && begins t) (token_text t ++ print_from (ends t) ts)
    (token_same t (print_from (ends t) ts) h.0 (λ e. rw e (after_value_ends ts)) (tokens_same (ends t) ts h.1))

-- what is written of a value is JSON of it
pub value_kept : (j : Json) → HasNumbers j → depth j ≤ max_depth → document (value_text j) ≡ Some j
unfolding value_text safe
value_kept j numbers shallow =
    let printable : ArePrintable (json_tokens j) = ArePrintable-json_tokens j numbers in
    let same : tokens (safely (print (json_tokens j))) ≡ json_tokens j ++ [] =
    ap (punctuate fresh) (tokens_same false (json_tokens j) printable) ∙ (tokens-print (json_tokens j) printable ∙ sym (append-nil (json_tokens j))) in
    ap (λ ts. option_and_then (λ p. if_last p.0 p.1) (value max_depth ts)) same
    ∙ ap (option_and_then (λ p. if_last p.0 p.1)) (value-json_tokens j max_depth [] shallow)
