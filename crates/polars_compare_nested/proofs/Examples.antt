-- Worked examples of the definitions: the check computes both sides of each.
use Rattle.std.specs.Prelude.{◌≡◌, ◌+◌, ◌<◌, ℕ, zero, suc, pos, true, false, [], ◌∷◌, Some, None, Err, refl, slice_index_or}
use Rattle.std.proofs.Common.{arith}
use Rattle.polars_arrays_bits.specs.declared.error.ComputeError.TheVariants.{Memory}
use Rattle.polars_arrays_flat.specs.Kind.{NullKind, Int8Kind, FixedSizeBinaryKind, ListKind, LargeListKind, FixedSizeListKind, StructKind, DictionaryKind, UInt32Kind, no_kinds}
use Rattle.polars_arrays_flat.specs.Row.{Rows, Int, no_rows, more_rows}
use Rattle.polars_arrays_nested.specs.AnyRows.{row}
use Rattle.polars_arrays_nested.specs.declared.any_array.AnyArray.{AnyArray, Int32, List', FixedSizeList', Dictionary', end_of-AnyArray, more_of-AnyArray}
use Rattle.polars_arrays_nested.specs.declared.any_array.AnyArray.{Null as Nulls}
use Rattle.polars_arrays_nested.specs.declared.dict_keys.DictKeys.TheVariants.{UInt8}
use Rattle.polars_arrays_nested.specs.declared.list_offsets.ListOffsets.TheVariants.{Small}
use Rattle.polars_compare_leaves.specs.Sameness.{same_leaf}
use Rattle.polars_compare_nested.specs.Bits.{JoinsBits, JoinsLeafBits, LeafWord, RawBits}
use Rattle.polars_compare_nested.specs.Broadcasts.{all_rows}
use Rattle.polars_compare_nested.specs.FewLeaves.{AreFewLeaves, NoNulls}
use Rattle.polars_compare_nested.specs.Headline.{IsEquality}
use Rattle.polars_compare_nested.specs.KindSorts.{is_dictionary, is_fixed_list, is_list, is_sized, is_struct}
use Rattle.polars_compare_nested.specs.Known.{AreKnown}
use Rattle.polars_compare_nested.specs.Leaf.{is_leaf}
use Rattle.polars_compare_nested.specs.Runs.{HaveWidth, all_items, all_lists, lists_of_width, span_between, start_of}
use Rattle.polars_compare_nested.specs.Tally.{tally, tally_across, total_pairs}
use Rattle.polars_compare_nested.specs.TallyColumns.{columns_tally}
use Rattle.polars_compare_nested.specs.TallyLaws.{items_in}
use Rattle.polars_compare_nested.specs.Windows.{AreWindows, Compares}

is_leaf-number : is_leaf Int8Kind ≡ true
is_leaf-number = refl

-- a null array has no leaves, and an array that holds arrays is none
is_leaf-null : is_leaf NullKind ≡ false
is_leaf-null = refl

is_leaf-list : is_leaf (ListKind Int8Kind) ≡ false
is_leaf-list = refl

is_list-large : is_list (LargeListKind Int8Kind) ≡ true
is_list-large = refl

is_list-fixed : is_list (FixedSizeListKind Int8Kind 2) ≡ false
is_list-fixed = refl

is_fixed_list-fixed : is_fixed_list (FixedSizeListKind Int8Kind 2) ≡ true
is_fixed_list-fixed = refl

is_sized-sixteen : is_sized (FixedSizeBinaryKind 16) ≡ true
is_sized-sixteen = refl

is_struct-empty : is_struct (StructKind no_kinds) ≡ true
is_struct-empty = refl

is_dictionary-numbers : is_dictionary (DictionaryKind UInt32Kind Int8Kind) ≡ true
is_dictionary-numbers = refl

-- a test that says of all leaves that they agree is not equality: it takes 1 for 2
always_agree-not_equality : IsEquality (λ _ _. true) → ⊥
always_agree-not_equality h = let one_is_two : pos 1 ≡ pos 2 = (h.numbers (pos 1) (pos 2)).0 refl in cc

-- the sum of f 5 7, f 6 8 and f 7 9
total_pairs-three : total_pairs (λ i j. i + j) 5 7 3 ≡ 42
total_pairs-three = refl

-- the numbers 1, 2 and 3
three : AnyArray
three = Int32 (record { values = pos 1 ∷ pos 2 ∷ pos 3 ∷ []; validity = None; owned = true })

-- the numbers 1 to 4
four : AnyArray
four = Int32 (record { values = pos 1 ∷ pos 2 ∷ pos 3 ∷ pos 4 ∷ []; validity = None; owned = true })

-- leaves cost one comparison a row, nulls none
tally-numbers : tally three four 1 2 2 ≡ 2
unfolding three four
tally-numbers = refl

tally-nulls : tally (Nulls 5) (Nulls 5) 0 0 5 ≡ 0
tally-nulls = refl

-- the lists 1 and 2, 3, and a null, against 1 and 2, 3 and 4, and a null: the items of the first alone are compared
tally-lists : (p q : _) → tally
    (List' (Small (record { items = pos 0 ∷ pos 2 ∷ pos 3 ∷ pos 3 ∷ []; owned = true })) p three (Some (true ∷ true ∷ false ∷ [])))
    (List' (Small (record { items = pos 0 ∷ pos 2 ∷ pos 4 ∷ pos 4 ∷ []; owned = true })) q four (Some (true ∷ true ∷ false ∷ []))) 0 0 3 ≡ 2
unfolding three four
tally-lists p q = refl

-- lists of one width cost all their items, those of nulls too
tally-fixed_lists : (p q : _) → tally
    (FixedSizeList' 2 2 p four (Some (true ∷ false ∷ []))) (FixedSizeList' 2 2 q four (Some (true ∷ false ∷ []))) 0 0 2 ≡ 4
unfolding four
tally-fixed_lists p q = refl

-- a dictionary costs the entries of each row that is present on both sides, here of the first alone
tally-entries : (p q : _) → tally
    (Dictionary' (UInt8 (record { values = 2 ∷ 0 ∷ 1 ∷ []; validity = Some (true ∷ true ∷ false ∷ []); owned = true })) p three)
    (Dictionary' (UInt8 (record { values = 0 ∷ 0 ∷ 0 ∷ []; validity = Some (true ∷ false ∷ true ∷ []); owned = true })) q three) 0 0 3 ≡ 1
unfolding three
tally-entries p q = refl

-- rows 1 and 2 of three numbers can be compared with rows 2 and 3 of four
are_windows-numbers : AreWindows three 1 four 2 2
unfolding three four
are_windows-numbers = record { left_good = tt; right_good = tt; one_type = refl; left_in = omega arith; right_in = omega arith }

-- of three bits two are set, and of these one stays set
joins_bits-three : JoinsBits (λ same. same ≡ true ∷ false ∷ true ∷ []) (true ∷ true ∷ false ∷ []) (true ∷ false ∷ false ∷ [])
joins_bits-three = record { same = true ∷ false ∷ true ∷ []; told = refl; joined = refl }

second_and_third : (i : ℕ) → i < 2 → slice_index_or (true ∷ true ∷ []) i false ≡ same_leaf (row three (1 + i)) (row four (1 + i))
unfolding three four
second_and_third zero low = refl
second_and_third (suc zero) low = refl
second_and_third (suc (suc i)) low = absurd (omega arith)

-- rows 1 and 2 of three numbers are rows 1 and 2 of four: both bits stay as they were
joins_leaf_bits-numbers : JoinsLeafBits same_leaf three 1 four 1 (true ∷ false ∷ []) (true ∷ false ∷ [])
joins_leaf_bits-numbers = record {
  same = true ∷ true ∷ [];
  told = record { size = refl; at_present = λ i low both. second_and_third i low };
  joined = refl;
}

-- so their word has its two lowest bits set
leaf_word-numbers : LeafWord same_leaf three 1 four 1 2 3
leaf_word-numbers = record { size = refl; at_present = λ i low both. second_and_third i low }

three_there : NoNulls three
unfolding three
three_there zero low = refl
three_there (suc zero) low = refl
three_there (suc (suc zero)) low = refl
three_there (suc (suc (suc i))) low = absurd (omega arith)

-- two arrays of three numbers are leaves without nulls, and three rows of them fit in a word
are_few_leaves-numbers : AreFewLeaves three three 3
unfolding three
are_few_leaves-numbers = record { few = omega arith; whole = record { leaves = refl; left_there = three_there; right_there = three_there } }

-- if an allocation fails, there are no bits, and the count may have increased, here from 5 to 6
compares-refused : (e : _) → Compares (RawBits same_leaf) three 1 four 2 2 5 6 (Err (Memory e))
unfolding three four
compares-refused e = record { told = tt; counted = tt; kept = omega arith }

-- a struct costs those of each column
tally-columns : tally_across (more_of-AnyArray three (more_of-AnyArray three end_of-AnyArray)) (three ∷ three ∷ []) 0 0 3 ≡ 6
unfolding three
tally-columns = refl

-- a column that has no partner costs nothing
columns_tally-two : columns_tally (three ∷ three ∷ []) (three ∷ []) 0 0 3 ≡ 3
unfolding three
columns_tally-two = refl

-- of the offsets 4, 6 and 9: list 1 starts at item 6, and has three items
start_of-second : start_of (Some 4 ∷ Some 6 ∷ Some 9 ∷ []) 1 ≡ 6
start_of-second = refl

-- of the two lists between the offsets 4, 6 and 9 the first alone has two items
lists_of_width-two : lists_of_width (Some 4 ∷ Some 6 ∷ Some 9 ∷ []) 0 2 2 ≡ true ∷ false ∷ []
lists_of_width-two = refl

-- between 4, 6 and 8 both have
have_width-two : HaveWidth (Some 4 ∷ Some 6 ∷ Some 8 ∷ []) 0 2 2
have_width-two zero low = refl
have_width-two (suc zero) low = refl
have_width-two (suc (suc i)) low = absurd (omega arith)

-- where no list is looked up yet nothing is known, of any lists
are_known-none : (l r : _) (a b n : ℕ) → AreKnown l a r b n (record { word = 0; len = 0 })
are_known-none l r a b n = record { few = omega arith; within = omega arith; tell = λ i low. absurd (omega arith) }

span_between-second : span_between (Some 4 ∷ Some 6 ∷ Some 9 ∷ []) 1 ≡ 3
span_between-second = refl

-- lists 1 and 2 of the offsets 0, 2, 3 and 7 have the items from 2 to 7
items_in-two : items_in (Small (record { items = pos 0 ∷ pos 2 ∷ pos 3 ∷ pos 7 ∷ []; owned = true })) 1 2 ≡ 5
items_in-two = refl

-- of the bits of the items from item 4 on, those of list 1 (items 6 and 7) are not both set
all_items-second : all_items (true ∷ true ∷ true ∷ false ∷ []) (Some 4 ∷ Some 6 ∷ Some 8 ∷ []) 4 1 ≡ false
all_items-second = refl

all_items-first : all_items (true ∷ true ∷ true ∷ false ∷ []) (Some 4 ∷ Some 6 ∷ Some 8 ∷ []) 4 0 ≡ true
all_items-first = refl

-- the same of both lists
all_lists-two : all_lists (true ∷ true ∷ true ∷ false ∷ []) (Some 4 ∷ Some 6 ∷ Some 8 ∷ []) 4 0 2 ≡ true ∷ false ∷ []
all_lists-two = refl

-- a list is compared with all rows of an array
all_rows-numbers : all_rows three ≡ Rows (more_rows (Int (pos 1)) (more_rows (Int (pos 2)) (more_rows (Int (pos 3)) no_rows)))
unfolding three
all_rows-numbers = refl
