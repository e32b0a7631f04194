-- The worked example of a report: the documents of two texts, their rows and their keys.
use Rattle.std.proofs.Common.{◌≡◌, ◌∙◌, ℕ, List, [], ◌∷◌, ◌++◌, map, ap, refl}
use Rattle.std.specs.Prelude.{Some, codes, unwrap_or}
use Rattle.fast_float.specs.Text.{scan}
use Rattle.json.specs.Json.{Json, null, number, object, no_members, member, document, items, members, value}
use Rattle.json.specs.Lex.{lex, punctuate}
use Rattle.json.specs.Print.{escape_byte, print_from}
use Rattle.json.specs.Text.{content}
use Rattle.json.specs.Word.{after_number, word}
use Rattle.json_decimals.specs.Decimals.{decimal_of, normal_of}
use Rattle.json_decimals.specs.Texts.{digits_text, normal_number, number_text, tens_text}
use Rattle.json_paths.specs.Paths.{Path, name}
use Rattle.diff_run.proofs.ExampleRows.{new_keys, old_keys}
use Rattle.diff_tables.specs.Keys.{escaped, row_key, row_keys}
use Rattle.document_rows.specs.Documents.{document_row, key_cells, tree_of}
use Rattle.document_rows.specs.Lines.{lines_of}

-- the key is id
abbrev pub by_id : List Path
by_id = (name (codes "id") ∷ []) ∷ []

-- a line of the left text, and the value that it is
abbrev pub old_one : List ℕ
old_one = codes "{\"id\":1,\"n\":2}"

abbrev pub old_one_tree : Json
old_one_tree = object (member (codes "id") (number (codes "1")) (member (codes "n") (number (codes "2")) no_members))

old-one-read : document old_one ≡ Some old_one_tree
unfolding value items members lex punctuate content word after_number
old-one-read = refl

abbrev pub old_two : List ℕ
old_two = codes "{\"id\":2}"

abbrev pub old_two_tree : Json
old_two_tree = object (member (codes "id") (number (codes "2")) no_members)

old-two-read : document old_two ≡ Some old_two_tree
unfolding value items members lex punctuate content word after_number
old-two-read = refl

abbrev pub old_three : List ℕ
old_three = codes "{\"n\":null,\"id\":3}"

abbrev pub old_three_tree : Json
old_three_tree = object (member (codes "n") null (member (codes "id") (number (codes "3")) no_members))

old-three-read : document old_three ≡ Some old_three_tree
unfolding value items members lex punctuate content word after_number
old-three-read = refl

-- those of the right text
abbrev pub new_one : List ℕ
new_one = codes "{\"id\":1,\"n\":3}"

abbrev pub new_one_tree : Json
new_one_tree = object (member (codes "id") (number (codes "1")) (member (codes "n") (number (codes "3")) no_members))

new-one-read : document new_one ≡ Some new_one_tree
unfolding value items members lex punctuate content word after_number
new-one-read = refl

abbrev pub new_three : List ℕ
new_three = codes "{\"id\":3.0}"

abbrev pub new_three_tree : Json
new_three_tree = object (member (codes "id") (number (codes "3.0")) no_members)

new-three-read : document new_three ≡ Some new_three_tree
unfolding value items members lex punctuate content word after_number
new-three-read = refl

abbrev pub new_four : List ℕ
new_four = codes "{\"id\":4}"

abbrev pub new_four_tree : Json
new_four_tree = object (member (codes "id") (number (codes "4")) no_members)

new-four-read : document new_four ≡ Some new_four_tree
unfolding value items members lex punctuate content word after_number
new-four-read = refl

-- the trees of the lines that are compared
tree_is : (line : List ℕ) (tree : Json) → document line ≡ Some tree → tree_of line ≡ tree
tree_is line tree read = ap (λ j. unwrap_or j null) read

pub old_one_is : tree_of old_one ≡ old_one_tree
old_one_is = tree_is old_one old_one_tree old-one-read

pub old_three_is : tree_of old_three ≡ old_three_tree
old_three_is = tree_is old_three old_three_tree old-three-read

pub new_one_is : tree_of new_one ≡ new_one_tree
new_one_is = tree_is new_one new_one_tree new-one-read

pub new_three_is : tree_of new_three ≡ new_three_tree
new_three_is = tree_is new_three new_three_tree new-three-read

-- the lines of both texts
abbrev pub old_lines : List (List ℕ)
old_lines = old_one ∷ old_two ∷ old_three ∷ []

abbrev pub new_lines : List (List ℕ)
new_lines = new_one ∷ new_three ∷ new_four ∷ []

-- both texts
abbrev pub old_text : List ℕ
old_text = codes "{\"id\":1,\"n\":2}\n{\"id\":2}\n{\"n\":null,\"id\":3}\n"

abbrev pub new_text : List ℕ
new_text = codes "{\"id\":1,\"n\":3}\n{\"id\":3.0}\n{\"id\":4}\n"

pub lines_of_old : lines_of old_text ≡ old_lines
unfolding lines_of
lines_of_old = refl

pub lines_of_new : lines_of new_text ≡ new_lines
unfolding lines_of
lines_of_new = refl

-- the rows of both texts, each as its key and its line
abbrev pub old_rows : List (List (List ℕ))
old_rows = (codes "1" ∷ old_one ∷ []) ∷ (codes "2" ∷ old_two ∷ []) ∷ (codes "3" ∷ old_three ∷ []) ∷ []

abbrev pub new_rows : List (List (List ℕ))
new_rows = (codes "1" ∷ new_one ∷ []) ∷ (codes "3" ∷ new_three ∷ []) ∷ (codes "4" ∷ new_four ∷ []) ∷ []

-- the cells of the keys
cells-one : key_cells by_id old_one_tree ≡ codes "1" ∷ []
unfolding normal_number number_text digits_text tens_text normal_of decimal_of scan print_from escape_byte
cells-one = refl

cells-two : key_cells by_id old_two_tree ≡ codes "2" ∷ []
unfolding normal_number number_text digits_text tens_text normal_of decimal_of scan print_from escape_byte
cells-two = refl

cells-three : key_cells by_id old_three_tree ≡ codes "3" ∷ []
unfolding normal_number number_text digits_text tens_text normal_of decimal_of scan print_from escape_byte
cells-three = refl

cells-new-one : key_cells by_id new_one_tree ≡ codes "1" ∷ []
unfolding normal_number number_text digits_text tens_text normal_of decimal_of scan print_from escape_byte
cells-new-one = refl

cells-new-three : key_cells by_id new_three_tree ≡ codes "3" ∷ []
unfolding normal_number number_text digits_text tens_text normal_of decimal_of scan print_from escape_byte
cells-new-three = refl

cells-new-four : key_cells by_id new_four_tree ≡ codes "4" ∷ []
unfolding normal_number number_text digits_text tens_text normal_of decimal_of scan print_from escape_byte
cells-new-four = refl

row_is : (line : List ℕ) (tree : Json) (cells : List (List ℕ)) → document line ≡ Some tree → key_cells by_id tree ≡ cells → document_row by_id line ≡ cells ++ line ∷ []
row_is line tree cells read are = ap (λ j. key_cells by_id (unwrap_or j null) ++ line ∷ []) read ∙ ap (λ c. c ++ line ∷ []) are

three_rows : {A B : Type 0} (f : A → B) (a b c : A) (x y z : B) → f a ≡ x → f b ≡ y → f c ≡ z → map f (a ∷ b ∷ c ∷ []) ≡ x ∷ y ∷ z ∷ []
three_rows f a b c x y z first second third = rw (first, second, third) refl

pub rows_of_old : map (document_row by_id) old_lines ≡ old_rows
rows_of_old = three_rows (document_row by_id) old_one old_two old_three _ _ _
    (row_is old_one old_one_tree (codes "1" ∷ []) old-one-read cells-one) (row_is old_two old_two_tree (codes "2" ∷ []) old-two-read cells-two)
    (row_is old_three old_three_tree (codes "3" ∷ []) old-three-read cells-three)

pub rows_of_new : map (document_row by_id) new_lines ≡ new_rows
rows_of_new = three_rows (document_row by_id) new_one new_three new_four _ _ _
    (row_is new_one new_one_tree (codes "1" ∷ []) new-one-read cells-new-one) (row_is new_three new_three_tree (codes "3" ∷ []) new-three-read cells-new-three)
    (row_is new_four new_four_tree (codes "4" ∷ []) new-four-read cells-new-four)

-- the keys of both texts: of 1, 2, 3, and of 1, 3, 4
pub keys_of_old : row_keys (0 ∷ []) old_rows ≡ old_keys
unfolding row_key escaped
keys_of_old = refl

pub keys_of_new : row_keys (0 ∷ []) new_rows ≡ new_keys
unfolding row_key escaped
keys_of_new = refl
