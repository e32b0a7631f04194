-- Objects are read back.
use Rattle.std.proofs.Common.{◌≡◌, ℕ, ◌<◌, ◌≤◌, ◌^◌, true, false, cond, List, [], ◌∷◌, ◌++◌, Some, map, refl, sym, ap, ap₂, ◌∙◌, arith, append_assoc, option_and_then}
use Rattle.std.specs.Fmt.{decimal}
use Rattle.std.specs.List.{flat_map}
use Rattle.std.specs.Prelude.{codes}
use Rattle.std.specs.Str.Lossy.{utf8_lossy}
use Rattle.json.specs.Json.{Json, null, number, string, object, Members, no_members, member, document, if_last, max_depth}
use Rattle.json.specs.Json as Json
use Rattle.json.specs.Lex.{after_comma, after_value, begins_colon, between, fresh, lex, punctuate, token}
use Rattle.json.specs.Token.{Token}
use Rattle.json.specs.Tree.{depth, json_tokens, members_depth, members_tokens}
use Rattle.json.specs.Word.{ends_word, word}
use Rattle.json.proofs.Printed.Decimals.{IsNumber-decimal}
use Rattle.json.proofs.Printed.Numbers.{in_word-ended, lex-number}
use Rattle.json.proofs.Printed.Trees.{value-json_tokens}
use Rattle.diff_words.specs.Lists.{listed}
use Rattle.diff_json.specs.Laws.{members_of}
use Rattle.diff_json.specs.Strings.{json_string}
use Rattle.diff_json.proofs.StringLaws.{lex_string}

-- what may follow a value: neither more of a word nor a colon
pub record Closes (r : List ℕ) : Type 0 where
  ends : ends_word r ≡ true
  value : begins_colon (lex between r) ≡ false

-- a text is read as a value, before what may follow one
pub record Reads (text : List ℕ) (j : Json) : Type 0 where
  pub read : (r : List ℕ) → Closes r → punctuate fresh (lex between (text ++ r)) ≡ json_tokens j ++ punctuate after_value (lex between r)

pub string_reads : (bytes : List ℕ) → Reads (json_string bytes) (string (utf8_lossy bytes))
unfolding punctuate
string_reads bytes = record { read = λ r after. ap (punctuate fresh) (lex_string bytes r) ∙ rw after.value refl }

pub number_reads : (n : ℕ) → n < 2 ^ 64 → Reads (decimal n) (number (decimal n))
unfolding punctuate
number_reads n low = record { read = λ r after. ap (punctuate fresh) (lex-number (decimal n) r (IsNumber-decimal n low) after.ends) }

pub null_reads : Reads (codes "null") null
unfolding punctuate lex word
null_reads = record { read = λ r after. ap₂ (λ b l. punctuate fresh (token (cond b Token.null Token.bad) ∷ l)) after.ends (in_word-ended r after.ends) }

-- a name and its colon, the first one of an object
first_name : (name r : List ℕ) → punctuate fresh (lex between (json_string name ++ 58 ∷ r)) ≡ Token.key (utf8_lossy name) ∷ punctuate fresh (lex between r)
unfolding punctuate lex
first_name name r = ap (punctuate fresh) (lex_string name (58 ∷ r))

-- a later one, after its comma
later_name : (name r : List ℕ) → punctuate after_value (lex between (44 ∷ json_string name ++ 58 ∷ r)) ≡ Token.key (utf8_lossy name) ∷ punctuate fresh (lex between r)
unfolding punctuate lex
later_name name r = ap (punctuate after_comma) (lex_string name (58 ∷ r))

-- a name and a value
abbrev pub member_text : {X : Type 0} → (X → List ℕ) → (X → List ℕ) → X → List ℕ
member_text name text x = json_string (name x) ++ 58 ∷ text x

-- the members after the first one, and the end of the object
abbrev later_text : {X : Type 0} → (X → List ℕ) → (X → List ℕ) → List X → List ℕ → List ℕ
later_text name text xs r = flat_map (λ y. codes "," ++ y) (map (member_text name text) xs) ++ 125 ∷ r

-- members whose values nest no deeper than d
pub depth_within : {X : Type 0} (name : X → List ℕ) (value : X → Json) (d : ℕ) → ((x : X) → depth (value x) ≤ d) → (xs : List X) → members_depth (members_of name value xs) ≤ d
depth_within name value d h [] = omega arith
depth_within name value d h (x ∷ xs) = omega (arith, h x, depth_within name value d h xs)

module _ {X : Type 0} (name text : X → List ℕ) (value : X → Json) (each : (x : X) → Reads (text x) (value x)) where
  later_closes : (xs : List X) (r : List ℕ) → Closes (later_text name text xs r)
  unfolding lex
  later_closes [] r = record { ends = refl; value = refl }
  later_closes (x ∷ xs) r = record { ends = refl; value = refl }

  -- a value, and the members after it
  value_read : (x : X) (xs : List X) (r : List ℕ) → punctuate after_value (lex between (later_text name text xs r)) ≡ members_tokens (members_of name value xs) ++ punctuate after_value (lex between r)
      → punctuate fresh (lex between (text x ++ later_text name text xs r)) ≡ (json_tokens (value x) ++ members_tokens (members_of name value xs)) ++ punctuate after_value (lex between r)
  value_read x xs r rest =
      (each x).read (later_text name text xs r) (later_closes xs r)
      ∙ (ap (λ l. json_tokens (value x) ++ l) rest ∙ sym (append_assoc (json_tokens (value x)) (members_tokens (members_of name value xs)) (punctuate after_value (lex between r))))

  later_read : (xs : List X) (r : List ℕ) → punctuate after_value (lex between (later_text name text xs r)) ≡ members_tokens (members_of name value xs) ++ punctuate after_value (lex between r)
  unfolding punctuate lex
  later_read [] r = refl
  later_read (x ∷ xs) r =
      let behind = flat_map (λ y. codes "," ++ y) (map (member_text name text) xs) in
      ap (λ l. punctuate after_value (lex between (44 ∷ l)))
      (append_assoc (member_text name text x) behind (125 ∷ r) ∙ append_assoc (json_string (name x)) (58 ∷ text x) (behind ++ 125 ∷ r))
      ∙ (later_name (name x) (text x ++ later_text name text xs r) ∙ ap (λ l. Token.key (utf8_lossy (name x)) ∷ l) (value_read x xs r (later_read xs r)))

  -- the members of an object, and its end
  pub members_read : (xs : List X) (r : List ℕ)
      → punctuate fresh (lex between (listed (codes ",") (map (member_text name text) xs) ++ 125 ∷ r)) ≡ members_tokens (members_of name value xs) ++ punctuate after_value (lex between r)
  unfolding punctuate lex listed
  members_read [] r = refl
  members_read (x ∷ xs) r =
      let behind = flat_map (λ y. codes "," ++ y) (map (member_text name text) xs) in
      ap (λ l. punctuate fresh (lex between l))
      (append_assoc (member_text name text x) behind (125 ∷ r) ∙ append_assoc (json_string (name x)) (58 ∷ text x) (behind ++ 125 ∷ r))
      ∙ (first_name (name x) (text x ++ later_text name text xs r) ∙ ap (λ l. Token.key (utf8_lossy (name x)) ∷ l) (value_read x xs r (later_read xs r)))

  -- an object is read back
  pub object_reads : (xs : List X) → Reads (123 ∷ listed (codes ",") (map (member_text name text) xs) ++ 125 ∷ []) (object (members_of name value xs))
  unfolding punctuate lex
  object_reads xs = record {
    read = λ r after. ap (λ l. punctuate fresh (lex between (123 ∷ l))) (append_assoc (listed (codes ",") (map (member_text name text) xs)) (125 ∷ []) r)
        ∙ ap (λ l. Token.begin_object ∷ l) (members_read xs r);
  }

  -- a line that is an object is read back
  pub line_read : (xs : List X) → members_depth (members_of name value xs) < 128 → document (123 ∷ listed (codes ",") (map (member_text name text) xs) ++ codes "}\n") ≡ Some (object (members_of name value xs))
  unfolding punctuate lex
  line_read xs shallow =
      ap (λ l. option_and_then (λ p. if_last p.0 p.1) (Json.value max_depth (Token.begin_object ∷ l))) (members_read xs (10 ∷ []))
      ∙ ap (option_and_then (λ p. if_last p.0 p.1)) (value-json_tokens (object (members_of name value xs)) max_depth [] (omega arith))
