-- A string of JSON ends at the first quote that no backslash escapes.
use Rattle.std.proofs.Common.{◌≡◌, ◌<◌, ◌==◌, ◌&&◌, not, ℕ, suc, Bool, true, false, cond, nat_lt, List, [], ◌∷◌, ◌++◌, length, drop, get_or, Option, Some, None, option_map, option_and_then, refl, sym, ap, ap₂, subst, ◌∙◌, arith, true≢false}
use Rattle.std.proofs.lemmas.Bool.{and_parts, eqb-true, ne_eqb}
use Rattle.std.proofs.lemmas.List.{length-append, drop-append-le}
use Rattle.std.specs.Char.{is_digit, encode_utf8}
use Rattle.json.specs.Json.{Json, string, document, value, if_last, max_depth}
use Rattle.json.specs.Lex.{Lexeme, token, comma, colon, Class, quote, backslash, operator, space, other, class, Mode, between, in_string, in_escape, lex, lex_byte, string_token, Place, fresh, after_value, after_comma, begins_colon, if_allowed, place_token, punctuate}
use Rattle.json.specs.Text.{Within, plain, after_backslash, after_u, after_high, code_unit, short_escape, is_high_surrogate, is_low_surrogate, surrogate_pair, prepend, content}
use Rattle.json.specs.Token.{Token}
use Rattle.json.specs.Word.{is_operator, is_space}
use Rattle.json_paths.specs.Reading.{up_to_quote}

-- ---- the first quote that no backslash escapes

pub record IsQuoteAt (u : List ℕ) (n : ℕ) : Type 0 where
  pub within : n < length u
  pub byte : get_or u n 0 ≡ 34

quote_step : (q : _) (r : Option ℕ) (x n : ℕ) (u : List ℕ) → (q ≡ true → x ≡ 34) → ((m : ℕ) → r ≡ Some m → IsQuoteAt u m) → cond q (Some 0) (option_map suc r) ≡ Some n → IsQuoteAt (x ∷ u) n
quote_step true r x n u f g h = let z : 0 ≡ n = cc in subst (IsQuoteAt (x ∷ u)) z (record { within = omega arith; byte = f refl })
quote_step false None x n u f g h = absurd (cc)
quote_step false (Some m) x n u f g h =
    let z : suc m ≡ n = cc in let w = g m refl in subst (IsQuoteAt (x ∷ u)) z (record { within = omega (arith, w.within); byte = w.byte })

pub quote_at : (u : List ℕ) (escaped : _) (n : ℕ) → up_to_quote escaped u ≡ Some n → IsQuoteAt u n
quote_at [] escaped n h = absurd (cc)
quote_at (x ∷ u) escaped n h = quote_step _ _ x n u (λ e. eqb-true x 34 (and_parts (x == 34) (not escaped) e).0) (λ m e. quote_at u _ m e) h

and_true : (b : Bool) → (b && true) ≡ b
and_true true = refl
and_true false = refl

and_false : (b : Bool) → (b && false) ≡ false
and_false true = refl
and_false false = refl

next_escaped : (x : ℕ) (xs : List ℕ) → up_to_quote true (x ∷ xs) ≡ option_map suc (up_to_quote false xs)
next_escaped x xs = ap₂ (λ b e. cond b (Some 0) (option_map suc (up_to_quote e xs))) (and_false (x == 34)) (and_false (x == 92))

next_plain : (x : ℕ) (xs : List ℕ) → up_to_quote false (x ∷ xs) ≡ cond (x == 34) (Some 0) (option_map suc (up_to_quote (x == 92) xs))
next_plain x xs = ap₂ (λ b e. cond b (Some 0) (option_map suc (up_to_quote e xs))) (and_true (x == 34)) (and_true (x == 92))

-- ---- the lexer passes over the string up to there

passes : (q b o s : Bool) (x : ℕ) (xs : List ℕ) (k : Mode → List Lexeme)
    → lex_byte in_string (cond q quote (cond b backslash (cond o operator (cond s space other)))) x xs k ≡ cond q (k between) (cond b (k in_escape) (k in_string))
passes true b o s x xs k = refl
passes false true o s x xs k = refl
passes false false true s x xs k = refl
passes false false false true x xs k = refl
passes false false false false x xs k = refl

abbrev mode : Bool → Mode
mode true = in_escape
mode false = in_string

pass_step : (q b : Bool) (o : Option ℕ) (n x : ℕ) (xs : List ℕ) → ((m : ℕ) → o ≡ Some m → lex (mode b) xs ≡ lex between (drop (suc m) xs)) → cond q (Some 0) (option_map suc o) ≡ Some n
    → cond q (lex between xs) (cond b (lex in_escape xs) (lex in_string xs)) ≡ lex between (drop (suc n) (x ∷ xs))
pass_step true b o n x xs f h = let z : 0 ≡ n = cc in subst (λ m. lex between xs ≡ lex between (drop (suc m) (x ∷ xs))) z refl
pass_step false b None n x xs f h = absurd (cc)
pass_step false true (Some m) n x xs f h = let z : suc m ≡ n = cc in subst (λ i. lex in_escape xs ≡ lex between (drop (suc i) (x ∷ xs))) z (f m refl)
pass_step false false (Some m) n x xs f h = let z : suc m ≡ n = cc in subst (λ i. lex in_string xs ≡ lex between (drop (suc i) (x ∷ xs))) z (f m refl)

passed_by : (o : Option ℕ) (n x : ℕ) (xs : List ℕ) → ((m : ℕ) → o ≡ Some m → lex in_string xs ≡ lex between (drop (suc m) xs)) → option_map suc o ≡ Some n → lex in_string xs ≡ lex between (drop (suc n) (x ∷ xs))
passed_by None n x xs f h = absurd (cc)
passed_by (Some m) n x xs f h = let z : suc m ≡ n = cc in subst (λ i. lex in_string xs ≡ lex between (drop (suc i) (x ∷ xs))) z (f m refl)

passed : (xs : List ℕ) (escaped : Bool) (n : ℕ) → up_to_quote escaped xs ≡ Some n → lex (mode escaped) xs ≡ lex between (drop (suc n) xs)
unfolding lex
passed [] escaped n h = absurd (cc)
passed (x ∷ xs) true n h = passed_by (up_to_quote false xs) n x xs (λ m e. passed xs false m e) (sym (next_escaped x xs) ∙ h)
passed (x ∷ xs) false n h =
    passes (x == 34) (x == 92) (is_operator x) (is_space x) x xs (λ next. lex next xs)
    ∙ pass_step (x == 34) (x == 92) (up_to_quote (x == 92) xs) n x xs (λ m e. passed xs (x == 92) m e) (sym (next_plain x xs) ∙ h)

-- a quote after a string begins another lexeme
begins : (c : Class) (x : ℕ) (xs : List ℕ) (k : Mode → List Lexeme) → (k between ≡ [] → ⊥) → lex_byte between c x xs k ≡ [] → ⊥
begins quote x xs k f h = absurd (cc)
begins backslash x xs k f h = absurd (cc)
begins operator x xs k f h = absurd (cc)
begins space x xs k f h = f h
begins other x xs k f h = absurd (cc)

quote_left : (zs : List ℕ) → lex between (zs ++ 34 ∷ []) ≡ [] → ⊥
unfolding lex
quote_left [] h = absurd (cc)
quote_left (z ∷ zs) h = begins (class z) z (zs ++ 34 ∷ []) (λ next. lex next (zs ++ 34 ∷ [])) (quote_left zs) h

-- ---- a document that is a string has nothing after it

allowed : (b : Bool) (t : Token) (k : Place → List Token) (next : Place) → if_allowed b t k next ≡ [] → ⊥
allowed true t k next h = absurd (cc)
allowed false t k next h = absurd (cc)

placed : (p : Place) (t : Token) (b : Bool) (k : Place → List Token) → place_token p t b k ≡ [] → ⊥
placed p Token.begin_object b k h = allowed _ _ k _ h
placed p Token.end_object b k h = allowed _ _ k _ h
placed p Token.begin_array b k h = allowed _ _ k _ h
placed p Token.end_array b k h = allowed _ _ k _ h
placed p (Token.key s) b k h = absurd (cc)
placed p (Token.string s) true k h = allowed _ _ k _ h
placed p (Token.string s) false k h = allowed _ _ k _ h
placed p (Token.number s) b k h = allowed _ _ k _ h
placed p (Token.boolean s) b k h = allowed _ _ k _ h
placed p Token.null b k h = allowed _ _ k _ h
placed p Token.bad b k h = absurd (cc)

behind_comma : (ls : List Lexeme) → punctuate after_comma ls ≡ [] → ⊥
unfolding punctuate
behind_comma [] h = absurd (cc)
behind_comma (token t ∷ ls) h = placed after_comma t _ _ h
behind_comma (comma ∷ ls) h = absurd (cc)
behind_comma (colon ∷ ls) h = absurd (cc)

behind_value : (l : Lexeme) (ls : List Lexeme) → punctuate after_value (l ∷ ls) ≡ [] → ⊥
unfolding punctuate
behind_value (token t) ls h = placed after_value t _ _ h
behind_value comma ls h = behind_comma ls h
behind_value colon ls h = absurd (cc)

last_alone : (j k : Json) (ts : List Token) → if_last j ts ≡ Some k → ts ≡ []
last_alone j k [] h = refl
last_alone j k (t ∷ ts) h = absurd (cc)

record Alone (o : Option (List ℕ)) (ls : List Lexeme) : Type 0 where
  s : List ℕ
  read : o ≡ Some s
  alone : ls ≡ []

alone_go : (o : Option (List ℕ)) (ls : List Lexeme) (k : List ℕ)
    → option_and_then (λ p. if_last p.0 p.1) (value max_depth (place_token fresh (string_token o) (begins_colon ls) (λ next. punctuate next ls))) ≡ Some (string k) → Alone o ls
unfolding value
alone_go None ls k h = absurd (cc)
alone_go (Some s) [] k h = record { s = s; read = refl; alone = refl }
alone_go (Some s) (token t ∷ ls) k h = absurd (behind_value (token t) ls (last_alone (string s) (string k) _ h))
alone_go (Some s) (comma ∷ ls) k h = absurd (behind_value comma ls (last_alone (string s) (string k) _ h))
alone_go (Some s) (colon ∷ ls) k h = absurd (cc)

alone : (ys k : List ℕ) → document (34 ∷ ys) ≡ Some (string k) → Alone (content plain ys) (lex in_string ys)
unfolding lex punctuate
alone ys k h = alone_go (content plain ys) (lex in_string ys) k h

-- ---- a string that is read has a quote at its end

record Closes (escaped : Bool) (xs : List ℕ) : Type 0 where
  n : ℕ
  found : up_to_quote escaped xs ≡ Some n

closes_by : (q : Bool) (o : Option ℕ) (n : ℕ) → o ≡ Some n → (m : ℕ) × (cond q (Some 0) (option_map suc o) ≡ Some m)
closes_by true o n e = (0, refl)
closes_by false o n e = (suc n, ap (option_map suc) e)

-- whichever byte stands before
further : (escaped next : Bool) (x : ℕ) (xs : List ℕ) → ((x == 92) && not escaped) ≡ next → Closes next xs → Closes escaped (x ∷ xs)
further escaped next x xs e c =
    let p = closes_by ((x == 34) && not escaped) (up_to_quote ((x == 92) && not escaped) xs) c.n (ap (λ b. up_to_quote b xs) e ∙ c.found) in
    record { n = p.0; found = p.1 }

hex_plain : (x : ℕ) → is_digit x 16 ≡ true → (x == 92) ≡ false
hex_plain x h = ne_eqb x 92 (λ e. let no : false ≡ true = ap (λ y. is_digit y 16) (sym e) ∙ h in true≢false (sym no))

over_hex : (x : ℕ) (xs : List ℕ) → is_digit x 16 ≡ true → Closes false xs → Closes false (x ∷ xs)
over_hex x xs h = further false false x xs (and_true (x == 92) ∙ hex_plain x h)

over_four : (a b c d : ℕ) (xs : List ℕ) → (is_digit a 16 && is_digit b 16 && is_digit c 16 && is_digit d 16) ≡ true → Closes false xs → Closes false (a ∷ b ∷ c ∷ d ∷ xs)
over_four a b c d xs h k =
    let p = and_parts (is_digit a 16 && is_digit b 16 && is_digit c 16) (is_digit d 16) h in
    let q = and_parts (is_digit a 16 && is_digit b 16) (is_digit c 16) p.0 in
    let r = and_parts (is_digit a 16) (is_digit b 16) q.0 in
    over_hex a (b ∷ c ∷ d ∷ xs) r.0 (over_hex b (c ∷ d ∷ xs) r.1 (over_hex c (d ∷ xs) q.1 (over_hex d xs p.1 k)))

-- what was read after bytes that were put in front
behind_bytes : (bytes s : List ℕ) (o : Option (List ℕ)) → prepend bytes o ≡ Some s → (t : List ℕ) × (o ≡ Some t)
behind_bytes bytes s None h = absurd (cc)
behind_bytes bytes s (Some t) h = (t, refl)

abbrev escapes : Within → Bool
escapes plain = false
escapes after_backslash = true
escapes after_u = false
escapes (after_high h) = false

-- a string that is read from here closes
abbrev Leads : Within → List ℕ → Type 0
Leads w xs = (s : List ℕ) → content w xs ≡ Some s → Closes (escapes w) xs

plain_go : (q b c : Bool) (x : ℕ) (xs s : List ℕ) → (x == 34) ≡ q → (x == 92) ≡ b → Leads plain xs → Leads after_backslash xs
    → cond q (Some []) (cond b (content after_backslash xs) (cond c None (prepend (x ∷ []) (content plain xs)))) ≡ Some s → Closes false (x ∷ xs)
plain_go true b c x xs s p r f g h = record { n = 0; found = ap (λ e. cond e (Some 0) (option_map suc (up_to_quote ((x == 92) && true) xs))) (and_true (x == 34) ∙ p) }
plain_go false true c x xs s p r f g h = further false true x xs (and_true (x == 92) ∙ r) (g s h)
plain_go false false true x xs s p r f g h = absurd (cc)
plain_go false false false x xs s p r f g h = let t = behind_bytes (x ∷ []) s (content plain xs) h in further false false x xs (and_true (x == 92) ∙ r) (f t.0 t.1)

escape_go : (u : Bool) (o : Option ℕ) (x : ℕ) (xs s : List ℕ) → Leads plain xs → Leads after_u xs
    → cond u (content after_u xs) (option_and_then (λ c. prepend (c ∷ []) (content plain xs)) o) ≡ Some s → Closes true (x ∷ xs)
escape_go true o x xs s f g h = further true false x xs (and_false (x == 92)) (g s h)
escape_go false None x xs s f g h = absurd (cc)
escape_go false (Some c) x xs s f g h = let t = behind_bytes (c ∷ []) s (content plain xs) h in further true false x xs (and_false (x == 92)) (f t.0 t.1)

unit_hex : (b : Bool) (u v : ℕ) → cond b (Some u) None ≡ Some v → b ≡ true
unit_hex true u v h = refl
unit_hex false u v h = absurd (cc)

unit_digits : (a b c d v : ℕ) → code_unit a b c d ≡ Some v → (is_digit a 16 && is_digit b 16 && is_digit c 16 && is_digit d 16) ≡ true
unfolding code_unit
unit_digits a b c d v h = unit_hex _ _ v h

unit_go : (o : Option ℕ) (a b c d : ℕ) (xs s : List ℕ) → code_unit a b c d ≡ o → Leads plain xs → ((h : ℕ) → Leads (after_high h) xs)
    → option_and_then (λ u. cond (is_high_surrogate u) (content (after_high u) xs) (cond (is_low_surrogate u) None (prepend (encode_utf8 u) (content plain xs)))) o ≡ Some s → Closes false (a ∷ b ∷ c ∷ d ∷ xs)
unit_go None a b c d xs s e f g h = absurd (cc)
unit_go (Some u) a b c d xs s e f g h = over_four a b c d xs (unit_digits a b c d u e) (go (is_high_surrogate u) (is_low_surrogate u) h)
  where
    go : (p q : Bool) → cond p (content (after_high u) xs) (cond q None (prepend (encode_utf8 u) (content plain xs))) ≡ Some s → Closes false xs
    go true q h = g u s h
    go false true h = absurd (cc)
    go false false h = let t = behind_bytes (encode_utf8 u) s (content plain xs) h in f t.0 t.1

pair_go : (k l : Bool) (o : Option ℕ) (h x y a b c d : ℕ) (xs s : List ℕ) → (x == 92) ≡ k → (y == 117) ≡ l → code_unit a b c d ≡ o → Leads plain xs
    → cond (k && l) (option_and_then (λ w. cond (is_low_surrogate w) (prepend (encode_utf8 (surrogate_pair h w)) (content plain xs)) None) o) None ≡ Some s → Closes false (x ∷ y ∷ a ∷ b ∷ c ∷ d ∷ xs)
pair_go false l o h x y a b c d xs s p q e f z = absurd (cc)
pair_go true false o h x y a b c d xs s p q e f z = absurd (cc)
pair_go true true None h x y a b c d xs s p q e f z = absurd (cc)
pair_go true true (Some w) h x y a b c d xs s p q e f z =
    further false true x (y ∷ a ∷ b ∷ c ∷ d ∷ xs) (and_true (x == 92) ∙ p)
    (further true false y (a ∷ b ∷ c ∷ d ∷ xs) (and_false (y == 92)) (over_four a b c d xs (unit_digits a b c d w e) (go (is_low_surrogate w) z)))
  where
    go : (i : Bool) → cond i (prepend (encode_utf8 (surrogate_pair h w)) (content plain xs)) None ≡ Some s → Closes false xs
    go true z = let t = behind_bytes (encode_utf8 (surrogate_pair h w)) s (content plain xs) z in f t.0 t.1
    go false z = absurd (cc)

closes : (w : Within) (xs : List ℕ) → Leads w xs
unfolding content
closes plain [] s h = absurd (cc)
closes plain (x ∷ xs) s h = plain_go (x == 34) (x == 92) (nat_lt x 32) x xs s refl refl (closes plain xs) (closes after_backslash xs) h
closes after_backslash [] s h = absurd (cc)
closes after_backslash (x ∷ xs) s h = escape_go (x == 117) (short_escape x) x xs s (closes plain xs) (closes after_u xs) h
closes after_u [] s h = absurd (cc)
closes after_u (a ∷ []) s h = absurd (cc)
closes after_u (a ∷ b ∷ []) s h = absurd (cc)
closes after_u (a ∷ b ∷ c ∷ []) s h = absurd (cc)
closes after_u (a ∷ b ∷ c ∷ d ∷ xs) s h = unit_go (code_unit a b c d) a b c d xs s refl (closes plain xs) (λ u. closes (after_high u) xs) h
closes (after_high u) [] s h = absurd (cc)
closes (after_high u) (x ∷ []) s h = absurd (cc)
closes (after_high u) (x ∷ y ∷ []) s h = absurd (cc)
closes (after_high u) (x ∷ y ∷ a ∷ []) s h = absurd (cc)
closes (after_high u) (x ∷ y ∷ a ∷ b ∷ []) s h = absurd (cc)
closes (after_high u) (x ∷ y ∷ a ∷ b ∷ c ∷ []) s h = absurd (cc)
closes (after_high u) (x ∷ y ∷ a ∷ b ∷ c ∷ d ∷ xs) s h = pair_go (x == 92) (y == 117) (code_unit a b c d) u x y a b c d xs s refl refl refl (closes plain xs) h

-- ---- both together

-- what stands after the quote does not matter
extend_go : (q : Bool) (o p : Option ℕ) (n : ℕ) → (o ≡ Some n → p ≡ Some n) → cond q (Some 0) (option_map suc o) ≡ Some (suc n) → cond q (Some 0) (option_map suc p) ≡ Some (suc n)
extend_go true o p n f h = absurd (cc)
extend_go false None p n f h = absurd (cc)
extend_go false (Some m) p n f h = let e : Some m ≡ Some n = cc in ap (option_map suc) (f e)

extend : (inner rest : List ℕ) (escaped : Bool) → up_to_quote escaped (inner ++ 34 ∷ []) ≡ Some (length inner) → up_to_quote escaped (inner ++ 34 ∷ rest) ≡ Some (length inner)
extend [] rest true h = absurd (cc)
extend [] rest false h = refl
extend (x ∷ inner) rest escaped h = extend_go _ _ _ (length inner) (extend inner rest ((x == 92) && not escaped)) h

pub quote_len : (inner rest k : List ℕ) → document (34 ∷ (inner ++ 34 ∷ [])) ≡ Some (string k) → up_to_quote false (inner ++ 34 ∷ rest) ≡ Some (length inner)
quote_len inner rest k d =
    let ys = inner ++ 34 ∷ [] in
    let a = alone ys k d in
    let c = closes plain ys a.s a.read in
    let left : lex between (drop (suc c.n) ys) ≡ [] = sym (passed ys false c.n c.found) ∙ a.alone in
    let most = quote_at ys false c.n c.found in
    let short : c.n < length inner → ⊥ = λ lt. quote_left (drop (suc c.n) inner) (ap (lex between) (sym (drop-append-le (suc c.n) inner (34 ∷ []) lt)) ∙ left) in
    let last : c.n ≡ length inner = omega (arith, short, most.within, length-append inner (34 ∷ [])) in
    extend inner rest false (c.found ∙ ap Some last)
