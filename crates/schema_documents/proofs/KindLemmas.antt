-- Words that are written one after another.
use Rattle.std.proofs.Common.{◌≡◌, ◌++◌, ◌∷◌, ◌∙◌, ℕ, List, [], refl, sym, ap}
use Rattle.std.proofs.lemmas.List.{append_assoc, append-nil}
use Rattle.std.proofs.lemmas.List.Concat.{flat_map-cons}
use Rattle.std.specs.List.{flat_map}
use Rattle.std.specs.Prelude.{Bool, true, false}
use Rattle.schema_documents.specs.Changes.{AreJoined, has_words, joined}

-- no words
pub no_words : (between before : List ℕ) → AreJoined between before [] before false
no_words between before = record { text_is = sym (append-nil before); some_is = refl }

-- the first word
pub first_word : (between before : List ℕ) (words : List (List ℕ)) (text : List ℕ) (word : List ℕ) → AreJoined between before words text false → AreJoined between before (words ++ word ∷ []) (text ++ word) true
first_word between before [] text word h = record {
  text_is = ap (λ l. l ++ word) (h.text_is ∙ append-nil before) ∙ ap (λ l. before ++ l) (sym (append-nil word));
  some_is = refl;
}
first_word between before (w ∷ more) text word h = absurd (let clash : false ≡ true = h.some_is in cc)

-- one word more
pub next_word : (between before : List ℕ) (words : List (List ℕ)) (text : List ℕ) (word : List ℕ) → AreJoined between before words text true
    → AreJoined between before (words ++ word ∷ []) ((text ++ between) ++ word) true
next_word between before [] text word h = absurd (let clash : true ≡ false = h.some_is in cc)
next_word between before (w ∷ more) text word h = record {
  text_is = ap (λ l. (l ++ between) ++ word) h.text_is ∙ append_assoc (before ++ joined between (w ∷ more)) between word
      ∙ append_assoc before (joined between (w ∷ more)) (between ++ word)
      ∙ ap (λ l. before ++ l) (append_assoc w (flat_map (λ n. between ++ n) more) (between ++ word) ∙ ap (λ l. w ++ l) (one_more more));
  some_is = refl;
}
  where
    one_more : (ws : List (List ℕ)) → flat_map (λ n. between ++ n) ws ++ (between ++ word) ≡ flat_map (λ n. between ++ n) (ws ++ word ∷ [])
    one_more [] = sym (append-nil (between ++ word))
    one_more (x ∷ xs) = ap (λ l. l ++ (between ++ word)) (flat_map-cons (λ n. between ++ n) x xs) ∙ append_assoc (between ++ x) (flat_map (λ n. between ++ n) xs) (between ++ word)
        ∙ ap (λ l. (between ++ x) ++ l) (one_more xs) ∙ sym (flat_map-cons (λ n. between ++ n) x (xs ++ word ∷ []))
