-- Words joined by one space, a word at a time.
use Rattle.std.proofs.Common.{◌≡◌, ◌<◌, ◌+◌, ◌++◌, ◌∙◌, ℕ, List, [], ◌∷◌, length, map, take, get_or, refl, sym, ap, arith, append_assoc}
use Rattle.std.specs.List.{join_with_byte}
use Rattle.std.proofs.lemmas.List.{take_more, map-append, length-map, length-take-le}
use Rattle.polars_arrays_flat.specs.Row.{Row, Null}
use Rattle.polars_tables_rows.specs.Written.{row_word, row_words}

join-more : (w : List ℕ) (ws : List (List ℕ)) (next : List ℕ) → join_with_byte 32 ((w ∷ ws) ++ next ∷ []) ≡ join_with_byte 32 (w ∷ ws) ++ (32 ∷ next)
join-more w [] next = refl
join-more w (v ∷ ws) next =
    ap (λ (t : List ℕ). w ++ (32 ∷ t)) (join-more v ws next)
    ∙ sym (append_assoc w (32 ∷ join_with_byte 32 (v ∷ ws)) (32 ∷ next))

join-push : (ws : List (List ℕ)) (next : List ℕ) → 0 < length ws → join_with_byte 32 (ws ++ next ∷ []) ≡ join_with_byte 32 ws ++ (32 ∷ next)
join-push [] next h = absurd (omega arith)
join-push (w ∷ ws) next h = join-more w ws next

module _ (all : List Row) (i : ℕ) (h : i < length all) where
  -- the first word
  row_words-first : i ≡ 0 → row_words (take (i + 1) all) ≡ row_word (get_or all i Null)
  row_words-first e =
      let none : take i all ≡ [] = ap (λ (n : ℕ). take n all) e in
      ap row_words (take_more all i Null h ∙ ap (λ (bs : List Row). bs ++ get_or all i Null ∷ []) none)

  -- a word after others
  row_words-more : 0 < i → row_words (take (i + 1) all) ≡ (row_words (take i all) ++ 32 ∷ []) ++ row_word (get_or all i Null)
  row_words-more p =
      let some : 0 < length (map row_word (take i all)) = rw (length-map (take i all) row_word, length-take-le i all (omega arith)) p in
      ap row_words (take_more all i Null h)
      ∙ ap (join_with_byte 32) (map-append row_word (take i all) (get_or all i Null ∷ []))
      ∙ join-push (map row_word (take i all)) (row_word (get_or all i Null)) some
      ∙ sym (append_assoc (row_words (take i all)) (32 ∷ []) (row_word (get_or all i Null)))

-- a step of the loop that writes the words of rows
pub words_more : (all : List Row) (i : ℕ) (before spaced word after : List ℕ) → i < length all → 0 < i → before ≡ row_words (take i all) → spaced ≡ before ++ 32 ∷ [] → word ≡ row_word (get_or all i Null) → after ≡ spaced ++ word → after ≡ row_words (take (i + 1) all)
words_more all i before spaced word after h p b s w a =
    a
    ∙ ap (λ (t : List ℕ). spaced ++ t) w
    ∙ ap (λ (t : List ℕ). t ++ row_word (get_or all i Null)) (s ∙ ap (λ (t : List ℕ). t ++ 32 ∷ []) b)
    ∙ sym (row_words-more all i h p)

-- its first step
pub words_first : (all : List Row) (i : ℕ) (before word after : List ℕ) → i < length all → i ≡ 0 → before ≡ row_words (take i all) → word ≡ row_word (get_or all i Null) → after ≡ before ++ word → after ≡ row_words (take (i + 1) all)
words_first all i before word after h z b w a =
    a
    ∙ ap (λ (t : List ℕ). before ++ t) w
    ∙ ap (λ (t : List ℕ). t ++ row_word (get_or all i Null)) (b ∙ ap (λ (n : ℕ). row_words (take n all)) z)
    ∙ sym (row_words-first all i h z)
