-- Views that stand beside their array, and the byte strings that they stand for.
use Rattle.std.proofs.Common.{◌≡◌, ◌<◌, ◌∙◌, ℕ, Bool, false, List, [], cond, length, get_or, ap, ap₂, sym, subst, slice_index_or}
use Rattle.std.specs.List.{All}
use Rattle.std.proofs.lemmas.List.{get_or-map}
use Rattle.std.proofs.lemmas.List.Elements.{All-get_or}
use Rattle.polars_arrays_views.specs.Parts.{strings_of}
use Rattle.polars_arrays_views.specs.Views.{GoodView, row_bytes}

pub good_at : (buffers views shown : List (List ℕ)) (i : ℕ) (d : List ℕ) → shown ≡ views → i < length views → All (GoodView buffers) views → GoodView buffers (get_or shown i d)
good_at buffers views shown i d e lt good =
    subst (λ (l : List (List ℕ)). GoodView buffers (get_or l i d)) (sym e) (All-get_or (GoodView buffers) views i d lt good)

pub string_at : (buffers views shown : List (List ℕ)) (i : ℕ) (d : List ℕ) → shown ≡ views → i < length views → row_bytes buffers (get_or shown i d) ≡ slice_index_or (strings_of buffers views) i []
string_at buffers views shown i d e lt =
    ap (λ (l : List (List ℕ)). row_bytes buffers (get_or l i d)) e ∙ sym (get_or-map (row_bytes buffers) views i d [] lt)

-- what is told of the rows of two views is told of the strings
pub told_of_strings : {A : Type 0} (f : List ℕ → List ℕ → A) (xs ys us vs : List ℕ) (answer : A) → answer ≡ f xs ys → xs ≡ us → ys ≡ vs → answer ≡ f us vs
told_of_strings f xs ys us vs answer is left right = is ∙ ap₂ f left right

pub costs_nothing : (follows : List ℕ → List ℕ → Bool) (xs ys us vs : List ℕ) → follows xs ys ≡ false → xs ≡ us → ys ≡ vs → ◌≡◌ {A = ℕ} (cond (follows us vs) 1 0) 0
costs_nothing follows xs ys us vs is left right =
    ap {B = ℕ} (λ b. cond b 1 0) (sym (ap₂ follows left right) ∙ is)
