-- Laws: the numbers of a layout name columns, and places among them.
use Rattle.std.proofs.Common.{◌<◌, ℕ, List, length, arith, ◌∙◌}
use Rattle.std.proofs.lemmas.List.Elements.{All-from_get_or}
use Rattle.std.specs.Prelude.{All, slice_index}
use Rattle.diff_keys.specs.Rising.{ListsRising}
use Rattle.diff_keys.specs.RisingLaws.{listed_below}
use Rattle.diff_columns.specs.Layout.{IsCompared, IsLayout, IsPlace}
use Rattle.diff_columns.specs.Names.{Names, IsNamed, name_at, names_of}
use Rattle.diff_columns.specs.declared.choice.Choice.{Choice}
use Rattle.diff_columns.specs.declared.layout.Layout.{Layout}

-- listed columns are columns of the table
pub listed_within : (P : ℕ → Type 0) (n : ℕ) (columns : List ℕ) → ListsRising P n columns
    → All (λ c. c < n) columns
listed_within P n columns h = All-from_get_or (λ c. c < n) columns 0 (listed_below P n columns h)

-- the left columns are columns of the left table
pub left_within : (left right : Names) (choice : Choice) (layout : Layout)
    → IsLayout left right choice layout → All (λ c. c < length left) layout.left.items
left_within left right choice layout h =
    listed_within (IsCompared choice left right) (length left) layout.left.items h.compared

-- the right columns are columns of the right table
pub right_within : (left right : Names) (choice : Choice) (layout : Layout)
    → IsLayout left right choice layout → All (λ c. c < length right) layout.right.items
right_within left right choice layout h = All-from_get_or
    (λ c. c < length right) layout.right.items 0 at
  where
    at : (p : ℕ) → p < length layout.right.items → slice_index layout.right.items p < length right
    at p within =
        let named : IsNamed right (name_at left (slice_index layout.left.items p))
        (slice_index layout.right.items p) =
        h.same_names.same p (omega (arith, within, h.same_names.one_length)) in
        named.0

-- the keys have places among the columns
pub keys_within : (left right : Names) (choice : Choice) (layout : Layout)
    → IsLayout left right choice layout → All (λ p. p < length layout.left.items) layout.keys.items
keys_within left right choice layout h = All-from_get_or
    (λ p. p < length layout.left.items) layout.keys.items 0 at
  where
    at : (k : ℕ) → k < length layout.keys.items
        → slice_index layout.keys.items k < length layout.left.items
    at k within =
        let place : IsPlace left layout.left.items (name_at (names_of choice.keys.now) k)
        (slice_index layout.keys.items k) = h.key_places.place k within in
        place.0

-- the right column at the place of a key has its name too
pub right_key : (left right : Names) (choice : Choice) (layout : Layout)
    → IsLayout left right choice layout → (k : ℕ) → k < length layout.keys.items
    → IsNamed right (name_at (names_of choice.keys.now) k)
    (slice_index layout.right.items (slice_index layout.keys.items k))
right_key left right choice layout h k within =
    let place : IsPlace left layout.left.items (name_at (names_of choice.keys.now) k)
    (slice_index layout.keys.items k) = h.key_places.place k within in
    let named : IsNamed right
    (name_at left (slice_index layout.left.items (slice_index layout.keys.items k)))
    (slice_index layout.right.items (slice_index layout.keys.items k)) =
    h.same_names.same (slice_index layout.keys.items k) place.0 in
    (named.0, named.1 ∙ place.1)
