-- Windows of a list: within windows, and written over.
use Rattle.std.proofs.Common.{◌≡◌, ℕ, zero, suc, ◌+◌, ◌-◌, ◌≤◌, List, [], ◌∷◌, ◌++◌, take, drop, length, refl, sym, ap, ◌∙◌, arith}
use Rattle.std.proofs.lemmas.List.{drop-drop, drop-take, take-take, drop_at, append_assoc, take-append-le, length-append, length-drop, length-take-le}
use Rattle.std.specs.List.{refill}

-- n elements from `at` on of a window that begins at `start`
pub take-drop-window : {A : Type 0} (n at len start : ℕ) (xs : List A) → at + n ≤ len → take n (drop at (take len (drop start xs))) ≡ take n (drop (start + at) xs)
take-drop-window n at len start xs le =
    let split : at + (len - at) ≡ len = omega arith in
    let fits : n ≤ len - at = omega arith in
    ap (λ k. take n (drop at (take k (drop start xs)))) (sym split)
    ∙ ap (take n) (drop-take at (len - at) (drop start xs))
    ∙ take-take n (len - at) (drop at (drop start xs)) fits
    ∙ ap (take n) (drop-drop at start xs)

-- what fills up a written front may be cut first
take-refilled : {A : Type 0} (len : ℕ) (ws ys : List A) → take len (ws ++ drop (length ws) ys) ≡ refill len (take len ys) ws
take-refilled len [] ys = sym (take-take len len ys (omega arith))
take-refilled zero (w ∷ ws) ys = refl
take-refilled (suc len) (w ∷ ws) [] = refl
take-refilled (suc len) (w ∷ ws) (y ∷ ys) = ap (λ l. w ∷ l) (take-refilled len ws ys)

-- the window of a list after ws was written over it from `start` on
pub take-drop-written :
    {A : Type 0} (len start n : ℕ) (xs ws others : List A) → n ≡ length xs → start + len ≤ n →
    take len (drop start (take n ((take start xs ++ (ws ++ drop (length ws) (drop start xs))) ++ others))) ≡ refill len (take len (drop start xs)) ws
take-drop-written len start n xs ws others all le =
    let ys = drop start xs in
    let written = ws ++ drop (length ws) ys in
    let split : start + (n - start) ≡ n = omega arith in
    let fits : len ≤ n - start = omega arith in
    let front : length (take start xs) ≡ start = length-take-le start xs (omega arith) in
    let enough : len ≤ length written = omega (arith, length-append ws (drop (length ws) ys), length-drop (length ws) ys, length-drop start xs) in
    ap (λ k. take len (drop start (take k ((take start xs ++ written) ++ others)))) (sym split)
    ∙ ap (take len) (drop-take start (n - start) ((take start xs ++ written) ++ others))
    ∙ take-take len (n - start) (drop start ((take start xs ++ written) ++ others)) fits
    ∙ ap (λ l. take len (drop start l)) (append_assoc (take start xs) written others)
    ∙ ap (take len) (drop_at (take start xs) (written ++ others) start front)
    ∙ take-append-le len written others enough
    ∙ take-refilled len ws ys
