-- A JSON text that is written without control characters, a byte at a time.
use Rattle.std.proofs.Common.{◌≡◌, ◌<◌, ◌≤◌, ◌+◌, ℕ, List, [], ◌++◌, length, get_or, drop, arith, ap, sym, ◌∙◌}
use Rattle.std.proofs.lemmas.List.{append_assoc, append-nil, at_drop_more, get_or-drop}
use Rattle.std.proofs.Math.ListN.{drop_of_length-le}
use Rattle.json_plain.specs.Plain.{plain_behind, plain_byte}

-- what is written and what is still to be written, a byte on
pub byte_written : (all now after : List ℕ) (before b next : ℕ) (bytes : List ℕ) (i : ℕ) → i < length bytes
    → now ++ plain_behind before (drop i bytes) ≡ all → after ≡ now ++ plain_byte before b next → b ≡ get_or bytes i 0 → next ≡ get_or bytes (i + 1) 0
    → after ++ plain_behind b (drop (i + 1) bytes) ≡ all
byte_written all now after before b next bytes i within rest a e n =
    let step : plain_behind before (drop i bytes) ≡ plain_byte before (get_or bytes i 0) (get_or (drop (i + 1) bytes) 0 0) ++ plain_behind (get_or bytes i 0) (drop (i + 1) bytes) =
    at_drop_more (plain_behind before) bytes i 0 within in
    let place : i + 1 + 0 ≡ i + 1 = omega arith in
    let look : get_or (drop (i + 1) bytes) 0 0 ≡ get_or bytes (i + 1) 0 = get_or-drop (i + 1) bytes 0 0 ∙ ap (λ k. get_or bytes k 0) place in
    let both : plain_behind before (drop i bytes) ≡ plain_byte before b next ++ plain_behind b (drop (i + 1) bytes) = rw (e, n, ← look) step in
    ap (λ l. l ++ plain_behind b (drop (i + 1) bytes)) a ∙ (append_assoc now (plain_byte before b next) (plain_behind b (drop (i + 1) bytes)) ∙ (ap (λ l. now ++ l) (sym both) ∙ rest))

-- after the last byte nothing is still to be written
pub all_written : (all now : List ℕ) (before : ℕ) (bytes : List ℕ) (i : ℕ) → length bytes ≤ i → now ++ plain_behind before (drop i bytes) ≡ all → now ≡ all
all_written all now before bytes i past rest =
    let none : drop i bytes ≡ [] = drop_of_length-le bytes past in
    sym (append-nil now) ∙ (ap (λ l. now ++ plain_behind before l) (sym none) ∙ rest)
