-- What appending and merging leave of a range.
use Rattle.std.proofs.Common.{◌≡◌, ◌<◌, ◌+◌, ◌∙◌, ◌||◌, ◌++◌, ℕ, Bool, List, [], ◌∷◌, length, take, map, get_or, refl, sym, ap, subst}
use Rattle.std.specs.Prelude.{ℤ}
use Rattle.std.specs.Simd.Lanes.{zip2}
use Rattle.std.proofs.lemmas.List.{map-append, take_more}
use Rattle.polars_arrays_flat.specs.Row.{Row}
use Rattle.polars_compute_slots.specs.State.{State, appended, appended_all, merged, range_of}
use Rattle.polars_compute_unique.specs.Trees.{HaveRange, leftmost, merged_tree}
use Rattle.polars_compute_unique.specs.declared.merge.MergeTree.{MergeTree, Leaf, Node'}

kept-values : (p : ℤ → Bool) (vs : List (ℤ × Bool)) → map {B = ℤ} (λ (v : ℤ × Bool). v.0) (map {B = ℤ × Bool} (λ (v : ℤ × Bool). (v.0, v.1 || p v.0)) vs) ≡ map (λ (v : ℤ × Bool). v.0) vs
kept-values p [] = refl
kept-values p (v ∷ vs) = ap (λ (rest : List ℤ). v.0 ∷ rest) (kept-values p vs)

pub range-appended : (rows : List Row) (s : State) → range_of (appended rows s) ≡ range_of s
range-appended rows s = kept-values _ s.values

pub range-all : (arrays : List (List Row)) (s : State) → range_of (appended_all arrays s) ≡ range_of s
range-all [] s = refl
range-all (rows ∷ more) s = range-all more (appended rows s) ∙ range-appended rows s

all-last : (arrays : List (List Row)) (rows : List Row) (s : State) → appended_all (arrays ++ rows ∷ []) s ≡ appended rows (appended_all arrays s)
all-last [] rows s = refl
all-last (first ∷ more) rows s = all-last more rows (appended first s)

-- an array more
pub append-more : {A : Type 0} (fed : A → List Row) (arrays : List A) (i : ℕ) (x : A) (start now next : State) → i < length arrays → x ≡ get_or arrays i x → now ≡ appended_all (map fed (take i arrays)) start → next ≡ appended (fed x) now → next ≡ appended_all (map fed (take (i + 1) arrays)) start
append-more fed arrays i x start now next lt is done e =
    e
    ∙ ap (appended (fed x)) done
    ∙ sym (all-last (map fed (take i arrays)) (fed x) start)
    ∙ ap (λ (rs : List (List Row)). appended_all rs start)
    (ap (λ y. map fed (take i arrays) ++ fed y ∷ []) is ∙ sym (ap (map fed) (take_more arrays i x lt) ∙ map-append fed (take i arrays) (get_or arrays i x ∷ [])))

merged-values : (vs ws : List (ℤ × Bool)) → map {B = ℤ} (λ (v : ℤ × Bool). v.0) vs ≡ map (λ (w : ℤ × Bool). w.0) ws → map {B = ℤ} (λ (v : ℤ × Bool). v.0) (zip2 (λ (v w : ℤ × Bool). (v.0, v.1 || w.1)) vs ws) ≡ map (λ (v : ℤ × Bool). v.0) vs
merged-values [] ws e = refl
merged-values (v ∷ vs) [] e = cc
merged-values (v ∷ vs) (w ∷ ws) e = ap (λ (rest : List ℤ). v.0 ∷ rest) (merged-values vs ws (cc))

pub range-merged : (s t : State) → range_of s ≡ range_of t → range_of (merged s t) ≡ range_of s
range-merged s t e = merged-values s.values t.values e

module _ {S : Type 0} (state : S → State) where
  -- the leftmost leaf has the range that all have
  pub leftmost-range : (range : List ℤ) (tree : MergeTree S) → HaveRange state range tree → range_of (state (leftmost tree)) ≡ range
  leftmost-range range (Leaf s) have = have
  leftmost-range range (Node' p left q right) have = leftmost-range range left have.0

  -- a tree of one range has that of its leftmost leaf
  pub own-range : (range : List ℤ) (tree : MergeTree S) → HaveRange state range tree → HaveRange state (range_of (state (leftmost tree))) tree
  own-range range tree have = subst (λ (r : List ℤ). HaveRange state r tree) (sym (leftmost-range range tree have)) have

  -- so have all leaves merged
  pub tree-range : (range : List ℤ) (tree : MergeTree S) → HaveRange state range tree → range_of (merged_tree state tree) ≡ range
  tree-range range (Leaf s) have = have
  tree-range range (Node' p left q right) have =
      range-merged (merged_tree state left) (merged_tree state right) (tree-range range left have.0 ∙ sym (tree-range range right have.1)) ∙ tree-range range left have.0
