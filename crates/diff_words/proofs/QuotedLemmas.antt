-- A byte string that is written between quotes, a byte at a time.
use Rattle.std.proofs.Common.{◌≡◌, ◌<◌, ◌≤◌, ◌+◌, ℕ, List, [], ◌∷◌, ◌++◌, length, get_or, drop, arith, ap, sym, ◌∙◌}
use Rattle.std.proofs.lemmas.List.{append_assoc, append-nil, at_drop_more, get_or-drop}
use Rattle.std.proofs.Math.ListN.{drop_of_length-le}
use Rattle.diff_words.specs.Quoted.{byte_text, texts_behind}

-- what is written and what is still to be written, a byte on
pub byte_written : (all now after : List ℕ) (before b next : ℕ) (bytes : List ℕ) (i : ℕ) → i < length bytes
    → now ++ texts_behind before (drop i bytes) ≡ all → after ≡ now ++ byte_text before b next → b ≡ get_or bytes i 0 → next ≡ get_or bytes (i + 1) 0
    → after ++ texts_behind b (drop (i + 1) bytes) ≡ all
byte_written all now after before b next bytes i within rest a e n =
    let step : texts_behind before (drop i bytes) ≡ byte_text before (get_or bytes i 0) (get_or (drop (i + 1) bytes) 0 0) ++ texts_behind (get_or bytes i 0) (drop (i + 1) bytes) =
    at_drop_more (texts_behind before) bytes i 0 within in
    let place : i + 1 + 0 ≡ i + 1 = omega arith in
    let look : get_or (drop (i + 1) bytes) 0 0 ≡ get_or bytes (i + 1) 0 = get_or-drop (i + 1) bytes 0 0 ∙ ap (λ k. get_or bytes k 0) place in
    let both : texts_behind before (drop i bytes) ≡ byte_text before b next ++ texts_behind b (drop (i + 1) bytes) = rw (e, n, ← look) step in
    ap (λ l. l ++ texts_behind b (drop (i + 1) bytes)) a ∙ (append_assoc now (byte_text before b next) (texts_behind b (drop (i + 1) bytes)) ∙ (ap (λ l. now ++ l) (sym both) ∙ rest))

-- after the last byte nothing is still to be written
pub all_written : (all now : List ℕ) (before : ℕ) (bytes : List ℕ) (i : ℕ) → length bytes ≤ i → now ++ texts_behind before (drop i bytes) ≡ all → now ≡ all
all_written all now before bytes i past rest =
    let none : drop i bytes ≡ [] = drop_of_length-le bytes past in
    sym (append-nil now) ∙ (ap (λ l. now ++ texts_behind before l) (sym none) ∙ rest)

-- a quote on each side, after what was written before
pub quotes_around : (old texts : List ℕ) → ((old ++ 34 ∷ []) ++ texts) ++ 34 ∷ [] ≡ old ++ (34 ∷ texts ++ 34 ∷ [])
quotes_around old texts = append_assoc (old ++ 34 ∷ []) texts (34 ∷ []) ∙ append_assoc old (34 ∷ []) (texts ++ 34 ∷ [])
