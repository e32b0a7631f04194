-- Two lists, place by place.
use Rattle.std.proofs.Common.{◌≡◌, ◌<◌, ◌+◌, ◌≤◌, ◌∙◌, ℕ, zero, suc, List, [], ◌∷◌, ◌++◌, length, take, drop, get_or, set, refl, add-zero, sym, ap, arith}
use Rattle.std.specs.List.{AllZip, zip}
use Rattle.std.proofs.lemmas.List.{take_all, take_more, take_more_set, get_or-drop}
use Rattle.std.proofs.lemmas.Grind.{common_steps}

pub all_zip_push : {A : Type 0} {B : Type 0} (R : A → B → Type 0) (xs : List A) (ys : List B) (x : A) (y : B) → AllZip R xs ys → R x y → AllZip R (xs ++ x ∷ []) (ys ++ y ∷ [])
all_zip_push R [] [] x y h r = (r, tt)
all_zip_push R [] (b ∷ ys) x y h r = absurd h
all_zip_push R (a ∷ xs) [] x y h r = absurd h
all_zip_push R (a ∷ xs) (b ∷ ys) x y h r = (h.0, all_zip_push R xs ys x y h.1 r)

pub all_zip_more : {A : Type 0} {B : Type 0} (R : A → B → Type 0) (xs : List A) (ys : List B) (i : ℕ) (x : A) (y : B) → i < length xs → x ≡ get_or xs i x → AllZip R (take i xs) ys → R x y → AllZip R (take (i + 1) xs) (ys ++ y ∷ [])
all_zip_more R xs ys i x y h e z r = rw (take_more xs i x h, ← e) (all_zip_push R (take i xs) ys x y z r)

-- the element at i of two lists that agree from i on
pub same_at : {A : Type 0} (xs ys : List A) (i : ℕ) (d : A) → drop i ys ≡ drop i xs → get_or ys i d ≡ get_or xs i d
same_at xs ys i d e = sym (rw add-zero at (get_or-drop i ys 0 d)) ∙ ap (λ (l : List _). get_or l 0 d) e ∙ (rw add-zero at (get_or-drop i xs 0 d))

pub all_zip_write : {A : Type 0} {B : Type 0} (R : A → B → Type 0) (xs : List A) (ys : List B) (i : ℕ) (x d : A) (y : B) → i < length xs → i < length ys → x ≡ get_or xs i d → AllZip R (take i xs) (take i ys) → R x y → AllZip R (take (i + 1) xs) (take (i + 1) (set ys i y))
all_zip_write R xs ys i x d y h k e z r = rw (take_more xs i d h, ← e, take_more_set ys i y k) (all_zip_push R (take i xs) (take i ys) x y z r)

pub rest_same : {A : Type 0} (xs ys : List A) (i : ℕ) (y : A) → i < length ys → drop i ys ≡ drop i xs → drop (i + 1) (set ys i y) ≡ drop (i + 1) xs
rest_same xs ys i y h e = grind (arith, common_steps)

pub length_zip : {A : Type 0} {B : Type 0} (xs : List A) (ys : List B) → length ys ≡ length xs → length (zip xs ys) ≡ length xs
length_zip [] ys e = refl
length_zip (x ∷ xs) [] e = absurd (omega arith)
length_zip (x ∷ xs) (y ∷ ys) e = ap suc (length_zip xs ys (omega arith))

zip_at : {A : Type 0} {B : Type 0} (xs : List A) (ys : List B) (i : ℕ) (a : A) (b : B) → length ys ≡ length xs → get_or (zip xs ys) i (a, b) ≡ (get_or xs i a, get_or ys i b)
zip_at [] [] i a b e = refl
zip_at [] (y ∷ ys) i a b e = absurd (omega arith)
zip_at (x ∷ xs) [] i a b e = absurd (omega arith)
zip_at (x ∷ xs) (y ∷ ys) zero a b e = refl
zip_at (x ∷ xs) (y ∷ ys) (suc i) a b e = zip_at xs ys i a b (omega arith)

pub all_zip_pair : {A : Type 0} {B : Type 0} {C : Type 0} (R : A × B → C → Type 0) (xs : List A) (ys : List B) (zs : List C) (i : ℕ) (x : A) (y : B) (z : C) → length ys ≡ length xs → i < length xs → x ≡ get_or xs i x → y ≡ get_or ys i y → AllZip R (take i (zip xs ys)) zs → R (x, y) z → AllZip R (take (i + 1) (zip xs ys)) (zs ++ z ∷ [])
all_zip_pair R xs ys zs i x y z e h ex ey s r =
    let below : i < length (zip xs ys) = rw length_zip h in
    let k : (x, y) ≡ get_or (zip xs ys) i (x, y) = sym (zip_at xs ys i x y e ∙ rw (← ex, ← ey) refl) in
    all_zip_more R (zip xs ys) zs i (x, y) z below k s r

-- the pair at a place of two lists, of which the left or the right one agrees with a later list from there on
pub pair_at : {A : Type 0} {B : Type 0} (xs : List A) (ys : List B) (i : ℕ) (x : A) (y : B) → length ys ≡ length xs → x ≡ get_or xs i x → y ≡ get_or ys i y → (x, y) ≡ get_or (zip xs ys) i (x, y)
pair_at xs ys i x y e ex ey = sym (zip_at xs ys i x y e ∙ rw (← ex, ← ey) refl)

pub all_zip_over : {A : Type 0} {B : Type 0} {C : Type 0} (R : A × B → C → Type 0) (xs : List A) (ys : List B) (zs : List C) (i : ℕ) (x : A) (y : B) (z : C) → length ys ≡ length xs → i < length xs → i < length zs → x ≡ get_or xs i x → y ≡ get_or ys i y → AllZip R (take i (zip xs ys)) (take i zs) → R (x, y) z → AllZip R (take (i + 1) (zip xs ys)) (take (i + 1) (set zs i z))
all_zip_over R xs ys zs i x y z e h k ex ey s r =
    let below : i < length (zip xs ys) = rw length_zip h in
    all_zip_write R (zip xs ys) zs i (x, y) (x, y) z below k (pair_at xs ys i x y e ex ey) s r

-- past the last place all values are results
pub all_zip_end : {A : Type 0} {B : Type 0} {C : Type 0} (R : A × B → C → Type 0) (xs : List A) (ys : List B) (zs : List C) (i : ℕ) → length ys ≡ length xs → length xs ≤ i → length zs ≡ length xs → AllZip R (take i (zip xs ys)) (take i zs) → AllZip R (zip xs ys) zs
all_zip_end R xs ys zs i e h k s =
    let below : length (zip xs ys) ≤ i = rw length_zip h in
    let last : length zs ≤ i = omega arith in
    rw (take_all i (zip xs ys) below, take_all i zs last) at s

-- what holds of fewer pairs holds
pub all_zip-weaker : {A : Type 0} {B : Type 0} (R S : A → B → Type 0) → ((x : A) (y : B) → R x y → S x y) → (xs : List A) (ys : List B) → AllZip R xs ys → AllZip S xs ys
all_zip-weaker R S f [] [] h = h
all_zip-weaker R S f [] (y ∷ ys) h = absurd h
all_zip-weaker R S f (x ∷ xs) [] h = absurd h
all_zip-weaker R S f (x ∷ xs) (y ∷ ys) h = (f x y h.0, all_zip-weaker R S f xs ys h.1)

-- a list overwritten with equally many elements
pub refill-same : {A : Type 0} (xs ws : List A) → length ws ≡ length xs → take (length xs) (ws ++ drop (length ws) xs) ≡ ws
refill-same [] [] e = refl
refill-same [] (w ∷ ws) e = absurd (omega arith)
refill-same (x ∷ xs) [] e = absurd (omega arith)
refill-same (x ∷ xs) (w ∷ ws) e = ap (λ (l : List _). w ∷ l) (refill-same xs ws (omega arith))
