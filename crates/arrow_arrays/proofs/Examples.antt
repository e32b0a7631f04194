-- Worked examples of the definitions.
use Rattle.std.specs.Prelude.{◌≡◌, ◌≢◌, ℕ, pos, true, false, List, [], ◌∷◌, Some, None, get_or, refl}
use Rattle.std.proofs.Common.{ap, arith}
use Rattle.std.proofs.lemmas.List.Elements.{All-cons, All-head, All-nil}
use Rattle.polars_arrays_flat.specs.Kind.{Int8Kind, no_kinds, more_kinds}
use Rattle.polars_arrays_flat.specs.Row.{Int, Entry, Rows, Null, no_rows, more_rows}
use Rattle.polars_arrays_flat.specs.StoredRows.{number_slots}
use Rattle.polars_arrays_flat.specs.StoredRows.{row as row_at}
use Rattle.polars_arrays_views.specs.Views.{view_buffer, view_len, view_offset}
use Rattle.arrow_arrays.specs.Columns.{Column, across, entries, entry_leaves, fixed_leaves, fixed_lists, leaves_across, list_leaves, lists, named_kinds, no_column, only}
use Rattle.arrow_arrays.specs.Good.{AllLong, ArePlaced, OneColumn}
use Rattle.arrow_arrays.specs.Stands.{AllNamed}
use Rattle.arrow_parts.specs.Lent.{places_from}
use Rattle.arrow_arrays.specs.Views.{NotNegative, bytes_if}

-- the rows 7, 8, 9
abbrev three : Column
three = record { name = 97 ∷ []; kind = Int8Kind; len = 3; row = row_at (number_slots (λ x. x) (pos 7 ∷ pos 8 ∷ pos 9 ∷ [])); leaves = λ from n. n }

-- between the places 0, 2, 3 list 0 is 7, 8 and list 1 is 9
first-list : lists (Some 0 ∷ Some 2 ∷ Some 3 ∷ []) (three ∷ []) 0 ≡ Rows (more_rows (Int (pos 7)) (more_rows (Int (pos 8)) no_rows))
first-list = refl

second-list : lists (Some 0 ∷ Some 2 ∷ Some 3 ∷ []) (three ∷ []) 1 ≡ Rows (more_rows (Int (pos 9)) no_rows)
second-list = refl

-- lists take one column
no-lists : lists (Some 0 ∷ Some 2 ∷ []) [] 0 ≡ Null
no-lists = refl

-- list 2 of one item each
third-list : fixed_lists 1 (three ∷ []) 2 ≡ Rows (more_rows (Int (pos 9)) no_rows)
third-list = refl

-- row 1 of two columns
second-fields : across (three ∷ three ∷ []) 1 ≡ more_rows (Int (pos 8)) (more_rows (Int (pos 8)) no_rows)
second-fields = refl

-- key 0 names entry 2
named : entries (Some 2 ∷ Some 0 ∷ []) (three ∷ []) 0 ≡ Entry (Int (pos 9))
named = refl

-- two columns named `a` make structs of two fields
two-fields : named_kinds (three ∷ three ∷ []) ≡ more_kinds (97 ∷ []) Int8Kind (more_kinds (97 ∷ []) Int8Kind no_kinds)
two-fields = refl

-- the names `a`, `b` are not those of these columns
other-name : AllNamed ((97 ∷ []) ∷ (98 ∷ []) ∷ []) (three ∷ three ∷ []) → ⊥
other-name all =
    let is : ◌≡◌ {A = ℕ} 98 97 = ap (λ (name : List ℕ). get_or name 0 0) all.1.0 in
    omega (arith, is)

-- two columns are not one
two-columns : only (three ∷ three ∷ []) ≡ no_column []
two-columns = refl

-- the two lists have three leaf slots, and the second one alone has one
all-leaves : list_leaves (Some 0 ∷ Some 2 ∷ Some 3 ∷ []) (three ∷ []) 0 2 ≡ 3
all-leaves = refl

second-leaves : list_leaves (Some 0 ∷ Some 2 ∷ Some 3 ∷ []) (three ∷ []) 1 1 ≡ 1
second-leaves = refl

-- two lists of two items each
fixed-slots : fixed_leaves 2 (three ∷ []) 0 2 ≡ 4
fixed-slots = refl

-- a row of two columns
across-slots : leaves_across (three ∷ three ∷ []) 1 1 ≡ 2
across-slots = refl

-- an entry counts once for each present row of it
entry-slots : entry_leaves (Some (true ∷ false ∷ true ∷ [])) (Some 2 ∷ Some 2 ∷ Some 2 ∷ []) (three ∷ []) 0 3 ≡ 2
entry-slots = refl

there : (place : ℕ) → Some place ≢ None
there place none = cc

-- between the offsets 5, 7 over what begins at offset 5 lies one row; 4 lies before it
one-row : ArePlaced 1 (places_from 5 (λ x. x) (pos 5 ∷ pos 7 ∷ []))
one-row = record {
  count = refl;
  placed = All-cons (λ place. place ≢ None) (Some 0) (Some 2 ∷ []) (there 0) (All-cons (λ place. place ≢ None) (Some 2) [] (there 2) (All-nil (λ place. place ≢ None)));
}

before-base : ArePlaced 1 (places_from 5 (λ x. x) (pos 4 ∷ pos 7 ∷ [])) → ⊥
before-base are = All-head (λ place. place ≢ None) None (Some 2 ∷ []) are.placed refl

-- a list has one column inside it
two-inside : OneColumn (λ c. c.len ≡ 3) (three ∷ three ∷ []) → ⊥
two-inside one = one

one-inside : OneColumn (λ c. c.len ≡ 3) (three ∷ [])
one-inside = refl

-- columns of a struct of three rows
both-long : AllLong 3 (three ∷ three ∷ [])
both-long =
    All-cons (λ c. c.len ≡ 3) three (three ∷ []) refl (All-cons (λ c. c.len ≡ 3) three [] refl (All-nil (λ c. c.len ≡ 3)))

-- 13 bytes that begin with `abcd`, in buffer 0 from byte 1 on
not-negative : NotNegative (13 ∷ 0 ∷ 0 ∷ 0 ∷ 97 ∷ 98 ∷ 99 ∷ 100 ∷ 0 ∷ 0 ∷ 0 ∷ 0 ∷ 1 ∷ 0 ∷ 0 ∷ 0 ∷ [])
unfolding view_len view_buffer view_offset
not-negative = record { length = omega arith; buffer = omega arith; offset = omega arith }

-- the highest bit of the offset is its sign
below-zero : NotNegative (13 ∷ 0 ∷ 0 ∷ 0 ∷ 97 ∷ 98 ∷ 99 ∷ 100 ∷ 0 ∷ 0 ∷ 0 ∷ 0 ∷ 1 ∷ 0 ∷ 0 ∷ 128 ∷ []) → ⊥
unfolding view_offset
below-zero signed = let low = signed.offset in absurd (omega arith)

-- a null row has no bytes
null-row : bytes_if false (97 ∷ []) ≡ []
null-row = refl

present-row : bytes_if true (97 ∷ []) ≡ 97 ∷ []
present-row = refl
