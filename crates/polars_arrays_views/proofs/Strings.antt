-- The byte strings of an array, by their places and by windows.
use Rattle.std.proofs.Common.{◌≡◌, ◌<◌, ℕ, List, [], length, take, drop, map, sym, ap, ◌∙◌}
use Rattle.std.specs.Prelude.{Bool, Option, slice_index_or}
use Rattle.std.specs.List.{All}
use Rattle.std.proofs.lemmas.List.{get_or-map, take-map, drop-map}
use Rattle.std.proofs.lemmas.List.Elements.{All-take, All-drop}
use Rattle.polars_arrays_flat.specs.Row.{Row, Bytes}
use Rattle.polars_arrays_flat.specs.StoredRows.{rows_under, byte_slots}
use Rattle.polars_arrays_flat.specs.Validity.{window}
use Rattle.polars_arrays_views.specs.Parts.{strings_of}
use Rattle.polars_arrays_views.specs.Views.{row_bytes}

-- string i is the row of view i
pub string_at : (buffers views : List (List ℕ)) (i : ℕ) → i < length views → row_bytes buffers (slice_index_or views i []) ≡ slice_index_or (strings_of buffers views) i []
string_at buffers views i within = sym (get_or-map (row_bytes buffers) views i [] [] within)

window-map : {A B : Type 0} (f : A → B) (at n : ℕ) (xs : List A) → map f (window at n xs) ≡ window at n (map f xs)
window-map f at n xs = sym (ap (take n) (drop-map f at xs) ∙ take-map f n (drop at xs))

-- views from a window stand for the window of the strings
pub strings-window : (buffers : List (List ℕ)) (at n : ℕ) (views : List (List ℕ)) → strings_of buffers (window at n views) ≡ window at n (strings_of buffers views)
strings-window buffers at n views = window-map (row_bytes buffers) at n views

-- and for the window of the rows, where the validity is cut so too
pub rows-window : (buffers : List (List ℕ)) (at n : ℕ) (views : List (List ℕ)) (old new : Option (List Bool)) → ((slots : List Row) → rows_under new (window at n slots) ≡ window at n (rows_under old slots))
    → rows_under new (byte_slots (strings_of buffers (window at n views))) ≡ window at n (rows_under old (byte_slots (strings_of buffers views)))
rows-window buffers at n views old new cut =
    ap (rows_under new) (ap byte_slots (strings-window buffers at n views) ∙ window-map Bytes at n (strings_of buffers views)) ∙ cut (byte_slots (strings_of buffers views))

-- what all elements are, all elements of a window are
pub all-window : {A : Type 0} (P : A → Type 0) (at n : ℕ) (xs : List A) → All P xs → All P (window at n xs)
all-window P at n xs all = All-take P n (drop at xs) (All-drop P at xs all)
