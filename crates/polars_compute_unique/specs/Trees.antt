-- Trees of states to merge.
use Rattle.std.specs.Prelude.{◌≡◌, ℤ, List}
use Rattle.polars_compute_slots.specs.State.{State, merged, range_of}
use Rattle.polars_compute_unique.specs.declared.merge.MergeTree.{MergeTree, Leaf, Node'}

module _ {S : Type 0} where
  -- the leftmost leaf
  abbrev pub leftmost : MergeTree S → S
  leftmost (Leaf s) = s
  leftmost (Node' p left q right) = leftmost left

  -- all leaves merged; `state` gives the state of a leaf
  abbrev pub merged_tree : (S → State) → MergeTree S → State
  merged_tree state (Leaf s) = state s
  merged_tree state (Node' p left q right) =
      merged (merged_tree state left) (merged_tree state right)

  -- all leaves have this range
  abbrev pub HaveRange : (S → State) → List ℤ → MergeTree S → Type 0
  HaveRange state range (Leaf s) = range_of (state s) ≡ range
  HaveRange state range (Node' p left q right) = HaveRange state range left
      × HaveRange state range right
