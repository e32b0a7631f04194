-- Loops over the parts of a schema, which look at a part and at the parts before it.
use Rattle.std.proofs.Common.{◌≡◌, ℕ, suc, ◌+◌, ◌<◌, Bool, true, false, cond, List, [], ◌∷◌, ◌++◌, length, take, slice_index_or, sym, ap, ◌∙◌, append_assoc}
use Rattle.std.proofs.lemmas.List.{append-nil, take_more}
use Rattle.schema_report.specs.Changes.{count_parts, texts_of}

-- two conditions can be counted in either order
count_swap : (a b : Bool) (t r : ℕ) → t ≡ cond b (suc r) r → cond a (suc t) t ≡ cond b (suc (cond a (suc r) r)) (cond a (suc r) r)
count_swap true true t r is = ap suc is
count_swap true false t r is = ap suc is
count_swap false true t r is = is
count_swap false false t r is = is

-- the last part counts if it meets the condition
count_last : {S : Type 0} (p : List S → S → Bool) (before l : List S) (s : S) → count_parts p before (l ++ s ∷ []) ≡ cond (p (before ++ l) s) (suc (count_parts p before l)) (count_parts p before l)
count_last p before [] s = ap (λ b. cond (p b s) 1 0) (sym (append-nil before))
count_last p before (x ∷ l) s =
    let behind = count_parts p (before ++ x ∷ []) l in
    count_swap (p before x) (p (before ++ x ∷ l) s) (count_parts p (before ++ x ∷ []) (l ++ s ∷ [])) behind
    (count_last p (before ++ x ∷ []) l s ∙ ap (λ b. cond (p b s) (suc behind) behind) (append_assoc before (x ∷ []) l))

-- the last part's text comes last
texts_last : {S : Type 0} (f : List S → S → List ℕ) (before l : List S) (s : S) → texts_of f before (l ++ s ∷ []) ≡ texts_of f before l ++ f (before ++ l) s
texts_last f before [] s = append-nil (f before s) ∙ ap (λ b. f b s) (sym (append-nil before))
texts_last f before (x ∷ l) s =
    ap (λ t. f before x ++ t) (texts_last f (before ++ x ∷ []) l s ∙ ap (λ b. texts_of f (before ++ x ∷ []) l ++ f b s) (append_assoc before (x ∷ []) l))
    ∙ sym (append_assoc (f before x) (texts_of f (before ++ x ∷ []) l) (f (before ++ x ∷ l) s))

-- the first parts of a list, up to part i
next : {S : Type 0} (l : List S) (i : ℕ) (s : S) → i < length l → s ≡ slice_index_or l i s → take (i + 1) l ≡ take i l ++ s ∷ []
next l i s within is = take_more l i s within ∙ ap (λ x. take i l ++ x ∷ []) (sym is)

-- the text of part i is appended after the texts of the parts before it
pub text_appended : {S : Type 0} (f : List S → S → List ℕ) (l : List S) (i : ℕ) (s : S) (first before now : List ℕ) → i < length l → s ≡ slice_index_or l i s → before ≡ first ++ texts_of f [] (take i l) → now ≡ before ++ f (take i l) s → now ≡ first ++ texts_of f [] (take (i + 1) l)
text_appended f l i s first before now within is so_far appended =
    appended
    ∙ ap (λ t. t ++ f (take i l) s) so_far
    ∙ append_assoc first (texts_of f [] (take i l)) (f (take i l) s)
    ∙ ap (λ t. first ++ t) (sym (ap (texts_of f []) (next l i s within is) ∙ texts_last f [] (take i l) s))

-- the count of the parts up to part i, by whether that part meets the condition
count_next : {S : Type 0} (p : List S → S → Bool) (l : List S) (i : ℕ) (s : S) → i < length l → s ≡ slice_index_or l i s → count_parts p [] (take (i + 1) l) ≡ cond (p (take i l) s) (suc (count_parts p [] (take i l))) (count_parts p [] (take i l))
count_next p l i s within is = ap (count_parts p []) (next l i s within is) ∙ count_last p [] (take i l) s

-- part i meets the condition
pub count_one_more : {S : Type 0} (p : List S → S → Bool) (l : List S) (i : ℕ) (s : S) → i < length l → s ≡ slice_index_or l i s → p (take i l) s ≡ true → count_parts p [] (take (i + 1) l) ≡ suc (count_parts p [] (take i l))
count_one_more p l i s within is met = count_next p l i s within is ∙ ap (λ b. cond b (suc (count_parts p [] (take i l))) (count_parts p [] (take i l))) met

-- part i does not meet the condition
pub count_as_before : {S : Type 0} (p : List S → S → Bool) (l : List S) (i : ℕ) (s : S) → i < length l → s ≡ slice_index_or l i s → p (take i l) s ≡ false → count_parts p [] (take (i + 1) l) ≡ count_parts p [] (take i l)
count_as_before p l i s within is unmet = count_next p l i s within is ∙ ap (λ b. cond b (suc (count_parts p [] (take i l))) (count_parts p [] (take i l))) unmet
