-- A stack of arrays, the last one on top, and the parts and shapes that are still to come.
use Rattle.std.specs.Prelude.{◌≡◌, ◌++◌, ◌∷◌, ◌≤◌, ℕ, List, [], drop, length, reverse, take}
use Rattle.std.specs.Prelude.{⊤}
use Rattle.polars_arrays_nested.specs.declared.any_array.AnyArray.{AnyArray}
use Rattle.arrow_parts.specs.Kinds.{kind_number}
use Rattle.arrow_parts.specs.Refusals.{IsHonest}
use Rattle.arrow_parts.specs.declared.part.Part.{Part}
use Rattle.arrow_parts.specs.declared.refused.Refused.{Refused}
use Rattle.arrow_arrays.specs.Columns.{Column, stacked}
use Rattle.arrow_arrays.specs.Good.{GoodRows}
use Rattle.arrow_arrays.specs.Shapes.{FitsPart}
use Rattle.arrow_arrays.specs.Stands.{AllNamed, AllStand}
use Rattle.arrow_arrays.specs.declared.shapes.Shape.{Shape}

-- each shape fits the part at its place
abbrev pub AllFit : List Part → List Shape → Type 0
AllFit [] [] = ⊤
AllFit (p ∷ parts) (s ∷ shapes) = FitsPart p s × AllFit parts shapes
AllFit _ _ = ⊥

-- `count` elements were taken from the top of a stack, the topmost first
pub record AreTaken {A : Type 0} (count : ℕ) (taken was left : List A) : Type 0 where
  pub count_is : length taken ≡ count
  pub order : taken ++ reverse left ≡ reverse was

-- an array for the last part, which has `count` children, was made of the arrays on top
abbrev pub IsStep : ℕ → List Shape → List Shape → List AnyArray → List AnyArray → List (List ℕ)
    → List (List ℕ) → AnyArray → Type 0
IsStep count was_shapes shapes was stack was_names names a =
    (p : Part) (ps : List Part) (cs : List Column) → p.children ≡ count
    → AllFit (ps ++ p ∷ []) was_shapes → AllStand (reverse was) cs
    → AllNamed (reverse was_names) cs → AllFit ps shapes
    × AllStand (a ∷ reverse stack) (stacked p cs)
    × AllNamed (reverse names) (drop p.children cs)

-- the array of the last part stands on top, in place of the arrays inside it
abbrev pub Stacks : ℕ → List Shape → List Shape → List AnyArray → List AnyArray → List (List ℕ)
    → List (List ℕ) → Type 0
Stacks count was_shapes shapes was stack was_names names =
    (p : Part) (ps : List Part) (cs : List Column) → p.children ≡ count
    → AllFit (ps ++ p ∷ []) was_shapes → AllStand (reverse was) cs
    → AllNamed (reverse was_names) cs → AllFit ps shapes
    × AllStand (reverse stack) (stacked p cs)
    × AllNamed (reverse names) (drop p.children cs)

-- the last part is good before the columns of the stack, except for its name
pub record IsStepGood (p : Part) (cs : List Column) : Type 0 where
  pub children : p.children ≤ length cs
  pub rows : GoodRows (kind_number p.kind) p (take p.children cs)

-- a refusal to make the array of the last part is true
abbrev pub IsRefusedStep : ℕ → List Shape → List AnyArray → Refused → Type 0
IsRefusedStep count was_shapes was r =
    (p : Part) (ps : List Part) (cs : List Column) → p.children ≡ count
    → AllFit (ps ++ p ∷ []) was_shapes → AllStand (reverse was) cs
    → IsHonest (IsStepGood p cs) r

-- the last part was good before the columns of the stack, except for its name
abbrev pub WasGood : ℕ → List Shape → List AnyArray → Type 0
WasGood count was_shapes was =
    (p : Part) (ps : List Part) (cs : List Column) → p.children ≡ count
    → AllFit (ps ++ p ∷ []) was_shapes → AllStand (reverse was) cs → IsStepGood p cs
