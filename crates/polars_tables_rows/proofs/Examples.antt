-- Worked examples of the definitions: the check computes both sides of each.
use Rattle.std.proofs.Common.{◌≡◌, ℕ, true, false, [], ◌∷◌, Some, None, Ok, Err, refl, codes}
use Rattle.std.specs.Prelude.{pos, negsuc}
use Rattle.std.specs.Fmt.{digits}
use Rattle.polars_arrays_flat.specs.Row.{Row, Null, Int, Truth}
use Rattle.polars_tables_rows.specs.declared.fault.LineError.TheVariants.{Length, Range}
use Rattle.polars_tables_rows.specs.declared.row_type.RowType.TheVariants.{I8, I32, U16, Boolean}
use Rattle.polars_tables_rows.specs.Faults.{of_ends, of_number_scalar, of_scalar, of_two, or_fault}
use Rattle.polars_tables_rows.specs.Tables.{find}
use Rattle.polars_tables_rows.specs.Types.{is_boolean, least_in, row_type_of, width_of}
use Rattle.polars_tables_rows.specs.Word.{words_of, signed_number, unsigned_number, truth_of, row_of, lists_behind, lists_of}
use Rattle.polars_tables_rows.specs.Written.{row_word, row_words, truth_word}

find-first : find {A = ℕ} ((codes "a", 1) ∷ (codes "b", 2) ∷ (codes "a", 3) ∷ []) (codes "a") ≡ Some 1
find-first = refl

type-named : row_type_of (codes "bool") ≡ Some Boolean
type-named = refl

type-boolean : is_boolean I8 ≡ false
type-boolean = refl

least-signed : least_in I8 ≡ negsuc 127
least-signed = refl

width-unsigned : width_of U16 ≡ 16
width-unsigned = refl

words-apart : words_of (codes "  a  bc ") ≡ codes "a" ∷ codes "bc" ∷ []
words-apart = refl

number-least : signed_number 32 (codes "-2147483648") ≡ Some (negsuc 2147483647)
number-least = refl

number-past : signed_number 32 (codes "2147483648") ≡ None
number-past = refl

number-signs : signed_number 32 (codes "--5") ≡ None
number-signs = refl

unsigned-greatest : unsigned_number 8 (codes "+255") ≡ Some (pos 255)
unsigned-greatest = refl

unsigned-minus : unsigned_number 8 (codes "-0") ≡ None
unsigned-minus = refl

truth-named : truth_of (codes "false") ≡ Some false
truth-named = refl

row-null : row_of Boolean (codes "null") ≡ Some Null
row-null = refl

behind-none : lists_behind I32 None ≡ Some []
behind-none = refl

behind-bar : lists_behind I32 (Some []) ≡ Some ([] ∷ [])
behind-bar = refl

lists-apart : lists_of I32 (codes "1" ∷ codes "|" ∷ []) ≡ Some ((Int (pos 1) ∷ []) ∷ [] ∷ [])
lists-apart = refl

truth-written : truth_word false ≡ codes "false"
truth-written = refl

word-null : row_word Null ≡ codes "null"
word-null = refl

rows-written : row_words (Int (negsuc 4) ∷ Null ∷ Truth true ∷ []) ≡ codes "-5 null true"
unfolding digits
rows-written = refl

-- a scalar is one row, a number, and no null
scalar-two : of_scalar {B = Row} (Int (pos 1) ∷ Int (pos 2) ∷ []) (λ x. Ok x) ≡ Err Length
scalar-two = refl

scalar-null : of_scalar {B = Row} (Null ∷ []) (λ x. Ok x) ≡ Err Range
scalar-null = refl

scalar-no_number : of_number_scalar {B = Row} (Truth true ∷ []) (λ n. Ok (Int n)) ≡ Err Range
scalar-no_number = refl

ends-two : of_ends {B = Row} (Int (pos 3) ∷ Int (pos 5) ∷ []) (λ m n. Ok (Int n)) ≡ Ok (Int (pos 5))
ends-two = refl

lists-one : of_two {A = ℕ} {B = Row} (1 ∷ []) (λ x y. Ok Null) ≡ Err Length
lists-one = refl

fault-missing : or_fault {A = ℕ} {B = Row} None Length (λ x. Ok Null) ≡ Err Length
fault-missing = refl
