-- The lists of rows that words stand for, a word at a time.
use Rattle.std.proofs.Common.{◌≡◌, ◌<◌, ◌++◌, ◌∙◌, ℕ, suc, Bool, true, false, List, [], ◌∷◌, Option, Some, None, length, map, refl, sym, ap, arith, append_assoc, length-append}
use Rattle.std.specs.Prelude.{option_map, is_some, IfSome, MatchOption}
use Rattle.std.specs.List.{slice_split, onto_first}
use Rattle.std.proofs.lemmas.List.Splits.{length-slice_split, slice_split-cons_no}
use Rattle.polars_arrays_flat.specs.Row.{Row}
use Rattle.polars_arrays_flat.specs.StoredRows.{kept, masked}
use Rattle.polars_tables_rows.specs.declared.row_type.RowType.{RowType}
use Rattle.polars_tables_rows.specs.Word.{all_some, is_bar, lists_of, row_from, row_of, rows_of}

abbrev onto_list : List Row → List (List Row) → List (List Row)
onto_list made [] = []
onto_list made (rows ∷ more) = (made ++ rows) ∷ more

-- the lists with rows more in front of the first one
abbrev pub in_front : List Row → Option (List (List Row)) → Option (List (List Row))
in_front made lists = option_map (onto_list made) lists

in_front-twice : (made : List Row) (x : Row) (lists : Option (List (List Row))) → in_front made (in_front (x ∷ []) lists) ≡ in_front (made ++ x ∷ []) lists
in_front-twice made x None = refl
in_front-twice made x (Some []) = refl
in_front-twice made x (Some (rows ∷ more)) = ap (λ r. Some (r ∷ more)) (sym (append_assoc made (x ∷ []) rows))

some_parts : (words : List (List ℕ)) → 0 < length (slice_split is_bar words)
some_parts words = omega (arith, length-slice_split is_bar words)

module _ (type : RowType) (w : List ℕ) where
  row-first : (x : Row) (rows : Option (List Row)) (rest : List (Option (List Row))) → all_some (option_map (λ xs. x ∷ xs) rows ∷ rest) ≡ in_front (x ∷ []) (all_some (rows ∷ rest))
  row-first x None rest = refl
  row-first x (Some rows) rest = mapped (all_some rest) where
    mapped : (more : Option (List (List Row))) → option_map (λ ls. (x ∷ rows) ∷ ls) more ≡ in_front (x ∷ []) (option_map (λ ls. rows ∷ ls) more)
    mapped None = refl
    mapped (Some more) = refl

  parts-row : (x : Row) (parts : List (List (List ℕ))) → 0 < length parts → row_of type w ≡ Some x → all_some (map (rows_of type) (onto_first w parts)) ≡ in_front (x ∷ []) (all_some (map (rows_of type) parts))
  parts-row x [] h e = absurd (omega arith)
  parts-row x (part ∷ parts) h e =
      ap (λ (o : Option Row). all_some (all_some (o ∷ map (row_of type) part) ∷ map (rows_of type) parts)) e
      ∙ row-first x (rows_of type part) (map (rows_of type) parts)

  of_parts : (words : List (List ℕ)) → is_bar w ≡ false → lists_of type (w ∷ words) ≡ all_some (map (rows_of type) (onto_first w (slice_split is_bar words)))
  of_parts words b = ap (λ (parts : List (List (List ℕ))). all_some (map (rows_of type) parts)) (slice_split-cons_no is_bar w words b)

  lists_of-row : (words : List (List ℕ)) (x : Row) → is_bar w ≡ false → row_of type w ≡ Some x → lists_of type (w ∷ words) ≡ in_front (x ∷ []) (lists_of type words)
  lists_of-row words x b e = of_parts words b ∙ parts-row x (slice_split is_bar words) (some_parts words) e

  module _ (all : Option (List (List Row))) (made : List Row) (words more : List (List ℕ)) (before : all ≡ in_front made (lists_of type words)) (next : words ≡ w ∷ more) where
    here : all ≡ in_front made (lists_of type (w ∷ more))
    here = before ∙ ap (λ (ws : List (List ℕ)). in_front made (lists_of type ws)) next

    -- a word that is a row
    pub read-row : (x : Row) (made' : List Row) → is_bar w ≡ false → row_of type w ≡ Some x → made' ≡ made ++ x ∷ [] → all ≡ in_front made' (lists_of type more)
    read-row x made' b e m =
        here ∙ ap (in_front made) (lists_of-row more x b e) ∙ in_front-twice made x (lists_of type more)
        ∙ ap (λ (rows : List Row). in_front rows (lists_of type more)) (sym m)

all_some-as_long : {A : Type 0} (values : List (Option A)) → IfSome (all_some values) (λ xs. length xs ≡ length values)
all_some-as_long {A = A} [] = refl
all_some-as_long {A = A} (None ∷ values) = tt
all_some-as_long {A = A} (Some x ∷ values) = one_more (all_some values) (all_some-as_long values) where
  one_more : (rest : Option (List A)) → IfSome rest (λ xs. length xs ≡ length values) → IfSome (option_map (λ xs. x ∷ xs) rest) (λ xs. length xs ≡ suc (length values))
  one_more None h = tt
  one_more (Some xs) h = ap suc h

-- the rows of an array that was made a row at a time
masked-push : (bits : List Bool) (rows : List Row) (b : Bool) (x : Row) → length bits ≡ length rows → masked (bits ++ b ∷ []) (rows ++ x ∷ []) ≡ masked bits rows ++ kept b x ∷ []
masked-push [] [] b x e = refl
masked-push [] (y ∷ rows) b x e = absurd (omega arith)
masked-push (c ∷ bits) [] b x e = absurd (omega arith)
masked-push (c ∷ bits) (y ∷ rows) b x e = ap (λ rs. kept c y ∷ rs) (masked-push bits rows b x (omega arith))

pub map-push : {A B : Type 0} (f : A → B) (xs : List A) (x : A) → map f (xs ++ x ∷ []) ≡ map f xs ++ f x ∷ []
map-push f [] x = refl
map-push f (y ∷ xs) x = ap (λ ys. f y ∷ ys) (map-push f xs x)

pub length-mapped : {A B : Type 0} (f : A → B) (xs : List A) → length (map f xs) ≡ length xs
length-mapped f [] = refl
length-mapped f (x ∷ xs) = ap suc (length-mapped f xs)

kept-from : {A : Type 0} (f : A → Row) (row : Option A) (v : A) → IfSome row (λ x. v ≡ x) → kept (is_some row) (f v) ≡ row_from f row
kept-from f None v h = refl
kept-from f (Some x) v h = ap f h

pub rows-pushed : {A : Type 0} (f : A → Row) (bits bits' : List Bool) (values values' : List A) (row : Option A) (b : Bool) (v : A) → length bits ≡ length values → bits' ≡ bits ++ b ∷ [] → b ≡ is_some row → values' ≡ values ++ v ∷ [] → IfSome row (λ x. v ≡ x)
    → masked bits' (map f values') ≡ masked bits (map f values) ++ row_from f row ∷ []
rows-pushed f bits bits' values values' row b v e be bs ve h =
    rw (be, ve, bs, map-push f values v) (masked-push bits (map f values) (is_some row) (f v) (e ∙ sym (length-mapped f values))
    ∙ ap (λ (r : Row). masked bits (map f values) ++ r ∷ []) (kept-from f row v h))

lists-there : (type : RowType) (words : List (List ℕ)) → IfSome (lists_of type words) (λ lists. 0 < length lists)
lists-there type words = there (lists_of type words) (all_some-as_long (map (rows_of type) (slice_split is_bar words))) where
  there : (o : Option (List (List Row))) → IfSome o (λ xs. length xs ≡ length (map (rows_of type) (slice_split is_bar words))) → IfSome o (λ lists. 0 < length lists)
  there None h = tt
  there (Some xs) h = omega (arith, h, length-mapped (rows_of type) (slice_split is_bar words), some_parts words)

-- lists that were read with others after them are more than those
pub too-many : (P Q : Type 0) (type : RowType) (words : List (List ℕ)) (all : Option (List (List Row))) (before : List (List Row)) (most : ℕ) → all ≡ option_map (λ more. before ++ more) (lists_of type words) → is_some (lists_of type words) ≡ true → length before ≡ most → Q
    → MatchOption all P (λ lists. Q × (most < length lists))
too-many P Q type words all before most e some n q = rw e (there (lists_of type words) (lists-there type words) some) where
  there : (o : Option (List (List Row))) → IfSome o (λ lists. 0 < length lists) → is_some o ≡ true → MatchOption (option_map (λ more. before ++ more) o) P (λ lists. Q × (most < length lists))
  there None h f = absurd (cc)
  there (Some lists) h f = (q, omega (arith, length-append before lists, h, n))

-- values and their flags, one more of each
pub long-pushed : {A : Type 0} (bits bits' : List Bool) (values values' : List A) (b : Bool) (v : A) → length bits ≡ length values → bits' ≡ bits ++ b ∷ [] → values' ≡ values ++ v ∷ [] → length bits' ≡ length values'
long-pushed bits bits' values values' b v e be ve = rw (be, ve) (omega (arith, length-append bits (b ∷ []), length-append values (v ∷ []), e))
