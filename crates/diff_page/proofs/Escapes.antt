-- The loop that escapes a text, one step on.
use Rattle.std.proofs.Common.{◌≡◌, ◌<◌, ◌+◌, ℕ, List, [], ◌∷◌, ◌++◌, length, get_or, take, ap, refl, sym, ◌∙◌}
use Rattle.std.proofs.lemmas.List.{take_more, append_assoc, append-nil}
use Rattle.diff_page.specs.Page.{untagged, untagged_byte}

untagged_append : (xs ys : List ℕ) → untagged (xs ++ ys) ≡ untagged xs ++ untagged ys
unfolding untagged
untagged_append [] ys = refl
untagged_append (x ∷ xs) ys = ap (λ l. untagged_byte x ++ l) (untagged_append xs ys) ∙ sym (append_assoc (untagged_byte x) (untagged xs) (untagged ys))

untagged_one : (x : ℕ) → untagged (x ∷ []) ≡ untagged_byte x
unfolding untagged
untagged_one x = append-nil (untagged_byte x)

-- one byte more
pub untagged_more : (old text : List ℕ) (i : ℕ) → i < length text → (old ++ untagged (take i text)) ++ untagged_byte (get_or text i 0) ≡ old ++ untagged (take (i + 1) text)
untagged_more old text i within =
    let more : take (i + 1) text ≡ take i text ++ get_or text i 0 ∷ [] = take_more text i 0 within in
    rw (more, untagged_append, untagged_one, append_assoc) refl

-- three texts, appended one after another
pub three : (out a b c x y z a' b' c' : List ℕ) → a' ≡ a → b' ≡ b → c' ≡ c → x ≡ out ++ a' → y ≡ x ++ b' → z ≡ y ++ c' → z ≡ out ++ (a ++ (b ++ c))
three out a b c x y z a' b' c' p q r e f g = rw (g, f, e, p, q, r, append_assoc, append_assoc) refl
