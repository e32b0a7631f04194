-- Rows of cells, as they are appended and as a table cuts them.
use Rattle.std.proofs.Common.{◌≡◌, ◌+◌, ◌*◌, ◌∙◌, Bool, true, false, cond, Option, Some, None, ℕ, suc, List, [], ◌∷◌, ◌++◌, length, get_or, map, take, drop, refl, ap, sym, arith, length-append, subst}
use Rattle.std.proofs.Math.Seq.{take-append_seam, drop-append_seam}
use Rattle.std.proofs.lemmas.List.{append-nil, length-map, length_push, map-append}
use Rattle.std.proofs.lemmas.List.Elements.{filter-append}
use Rattle.std.specs.List.{filter, flat_map}
use Rattle.std.specs.Prelude.{IfSome, Vec, option_map}
use Rattle.diff_parts.proofs.KeptLemmas.{as_many}
use Rattle.diff_parts.specs.Parts.{PartNumber, number_if, numbers_kept}
use Rattle.diff_parts.specs.Rows.{has_row, numbers_in, rows_in}
use Rattle.diff_tables.specs.Keys.{cells_at}
use Rattle.diff_tables.specs.Tables.{cut_rows}
use Rattle.diff_csv.specs.Given.{HasGiven}
use Rattle.diff_csv.specs.Rows.{HoldsRows, is_read, records_read}
use Rattle.diff_csv.specs.Tables.{HasShape, IsTableWith}
use Rattle.diff_csv.specs.declared.options.CsvOptions.{CsvOptions}
use Rattle.diff_csv.specs.declared.row_reader.RowReader.{RowReader}
use Rattle.diff_csv.specs.declared.rows.Rows.{Rows}
use Rattle.diff_csv.specs.declared.source.CsvTable.{CsvTable}

-- each row has a cell for each column
pub cells_count : (columns : List ℕ) (fields : List (List ℕ)) → length (cells_at columns fields) ≡ length columns
cells_count columns fields = length-map columns (λ (c : ℕ). get_or fields c [])

-- how many cells rows of one width have
pub all_cells : (f : List (List ℕ) → List (List ℕ)) (w : ℕ) → ((r : List (List ℕ)) → length (f r) ≡ w) → (rows : List (List (List ℕ)))
    → length (flat_map f rows) ≡ w * length rows
all_cells f w size [] = omega arith
all_cells f w size (r ∷ rs) =
    let rest : length (flat_map f rs) ≡ w * length rs = all_cells f w size rs in
    let here : length (f r) ≡ w = size r in
    let place : w + w * length rs ≡ w * suc (length rs) = omega arith in
    length-append (f r) (flat_map f rs) ∙ (ap (λ n. n + length (flat_map f rs)) here ∙ (ap (λ n. w + n) rest ∙ place))

-- rows of one width are cut off their cells
pub cut_kept : (f : List (List ℕ) → List (List ℕ)) (w : ℕ) → ((r : List (List ℕ)) → length (f r) ≡ w) → (rows : List (List (List ℕ)))
    → cut_rows w (length rows) (flat_map f rows) ≡ map f rows
unfolding cut_rows
cut_kept f w size [] = refl
cut_kept f w size (r ∷ rs) =
    let row : take w (f r ++ flat_map f rs) ≡ f r = subst (λ n. take n (f r ++ flat_map f rs) ≡ f r) (size r) (take-append_seam (f r) (flat_map f rs)) in
    let others : drop w (f r ++ flat_map f rs) ≡ flat_map f rs = subst (λ n. drop n (f r ++ flat_map f rs) ≡ flat_map f rs) (size r) (drop-append_seam (f r) (flat_map f rs)) in
    ap (λ x. x ∷ cut_rows w (length rs) (drop w (f r ++ flat_map f rs))) row
    ∙ (ap (λ l. f r ∷ cut_rows w (length rs) l) others ∙ ap (λ l. f r ∷ l) (cut_kept f w size rs))

-- some rows are given, and those that are read are kept
pub record IsProgress {R : Type 0} (remaining : R → Option (List ℕ)) (columns keys : List ℕ) (part : Option PartNumber) (start reader : RowReader R) (r : Rows) (number : ℕ) : Type 0 where
  pub given : List (List (List ℕ))
  pub held : HoldsRows columns keys part r given
  pub count : number ≡ suc (length given)
  pub reading : (options : CsvOptions) (text : List ℕ) → HasGiven remaining options text start [] → HasGiven remaining options text reader given

-- one row more, which is read or not
pub row_read : (columns keys : List ℕ) (part : Option PartNumber) (records : List (List (List ℕ))) (r : List (List ℕ)) → is_read part keys (cells_at columns r) ≡ true
    → records_read columns keys part (records ++ r ∷ []) ≡ records_read columns keys part records ++ r ∷ []
row_read columns keys part records r is = filter-append (λ q. is_read part keys (cells_at columns q)) records (r ∷ []) ∙ rw is refl

pub row_left_out : (columns keys : List ℕ) (part : Option PartNumber) (records : List (List (List ℕ))) (r : List (List ℕ)) → is_read part keys (cells_at columns r) ≡ false
    → records_read columns keys part (records ++ r ∷ []) ≡ records_read columns keys part records
row_left_out columns keys part records r is =
    filter-append (λ q. is_read part keys (cells_at columns q)) records (r ∷ []) ∙ (rw is (append-nil (records_read columns keys part records)))

-- the numbers of rows, one row more
numbers_more : {R : Type 0} (keeps : R → Bool) (n : ℕ) (rows : List R) (row : R) → numbers_kept keeps n (rows ++ row ∷ []) ≡ numbers_kept keeps n rows ++ number_if (keeps row) (n + length rows) []
unfolding numbers_kept
numbers_more keeps n [] row = let same : n ≡ n + 0 = omega arith in ap (λ m. number_if (keeps row) m []) same
numbers_more {R} keeps n (x ∷ xs) row = at (keeps x) (numbers_more keeps (suc n) xs row)
  where
    place : suc n + length xs ≡ n + suc (length xs)
    place = omega arith

    at : (b : Bool) → numbers_kept keeps (suc n) (xs ++ row ∷ []) ≡ numbers_kept keeps (suc n) xs ++ number_if (keeps row) (suc n + length xs) []
        → number_if b n (numbers_kept keeps (suc n) (xs ++ row ∷ [])) ≡ number_if b n (numbers_kept keeps (suc n) xs) ++ number_if (keeps row) (n + suc (length xs)) []
    at true ih = ap (λ l. n ∷ l) (ih ∙ ap (λ m. numbers_kept keeps (suc n) xs ++ number_if (keeps row) m []) place)
    at false ih = ih ∙ ap (λ m. numbers_kept keeps (suc n) xs ++ number_if (keeps row) m []) place

-- the numbers of the rows of a part are these
abbrev pub AreNumbers : List ℕ → List ℕ → Option PartNumber → List (List (List ℕ)) → List ℕ → Type 0
AreNumbers columns keys part records numbers = IfSome (numbers_in part keys (map (cells_at columns) records)) (λ ns. numbers ≡ ns)

pub no_numbers : (columns keys : List ℕ) (part : Option PartNumber) (numbers : List ℕ) → numbers ≡ [] → AreNumbers columns keys part [] numbers
unfolding numbers_kept
no_numbers columns keys None numbers none = tt
no_numbers columns keys (Some p) numbers none = none

pub number_read : (columns keys : List ℕ) (part : Option PartNumber) (records : List (List (List ℕ))) (r : List (List ℕ)) (number : ℕ) (before after : List ℕ)
    → is_read part keys (cells_at columns r) ≡ true → number ≡ suc (length records) → AreNumbers columns keys part records before
    → IfSome part (λ _. after ≡ before ++ number ∷ []) → AreNumbers columns keys part (records ++ r ∷ []) after
number_read columns keys None records r number before after is count old step = tt
number_read columns keys (Some p) records r number before after is count old step =
    let rows = map (cells_at columns) records in
    let keeps = has_row p keys in
    let own : 1 + length (map (cells_at columns) records) ≡ number = omega (arith, count, length-map records (cells_at columns)) in
    let more : numbers_kept (has_row p keys) 1 (map (cells_at columns) records ++ cells_at columns r ∷ []) ≡ numbers_kept (has_row p keys) 1 (map (cells_at columns) records) ++ number ∷ [] =
    numbers_more (has_row p keys) 1 (map (cells_at columns) records) (cells_at columns r) ∙ rw (is, own) refl in
    step ∙ (ap (λ l. l ++ number ∷ []) old ∙ (sym more ∙ ap (numbers_kept (has_row p keys) 1) (sym (map-append (cells_at columns) records (r ∷ [])))))

pub number_left_out : (columns keys : List ℕ) (part : Option PartNumber) (records : List (List (List ℕ))) (r : List (List ℕ)) (numbers : List ℕ)
    → is_read part keys (cells_at columns r) ≡ false → AreNumbers columns keys part records numbers → AreNumbers columns keys part (records ++ r ∷ []) numbers
number_left_out columns keys None records r numbers is old = tt
number_left_out columns keys (Some p) records r numbers is old =
    let more : numbers_kept (has_row p keys) 1 (map (cells_at columns) records ++ cells_at columns r ∷ []) ≡ numbers_kept (has_row p keys) 1 (map (cells_at columns) records) =
    numbers_more (has_row p keys) 1 (map (cells_at columns) records) (cells_at columns r) ∙ rw is (append-nil (numbers_kept (has_row p keys) 1 (map (cells_at columns) records))) in
    old ∙ (sym more ∙ ap (numbers_kept (has_row p keys) 1) (sym (map-append (cells_at columns) records (r ∷ []))))

-- the rows of the records that are read are those of the part
kept_mapped : (f : List (List ℕ) → List (List ℕ)) (keeps : List (List ℕ) → Bool) (records : List (List (List ℕ))) → map f (filter (λ r. keeps (f r)) records) ≡ filter keeps (map f records)
kept_mapped f keeps [] = refl
kept_mapped f keeps (r ∷ rs) = at (keeps (f r)) (kept_mapped f keeps rs)
  where
    at : (b : Bool) → map f (filter (λ q. keeps (f q)) rs) ≡ filter keeps (map f rs)
        → map f (cond b (r ∷ filter (λ q. keeps (f q)) rs) (filter (λ q. keeps (f q)) rs)) ≡ cond b (f r ∷ filter keeps (map f rs)) (filter keeps (map f rs))
    at true ih = ap (λ l. f r ∷ l) ih
    at false ih = ih

all_kept : (records : List (List (List ℕ))) → filter (λ r. true) records ≡ records
all_kept [] = refl
all_kept (r ∷ rs) = ap (λ l. r ∷ l) (all_kept rs)

pub rows_read : (columns keys : List ℕ) (part : Option PartNumber) (records : List (List (List ℕ))) → map (cells_at columns) (records_read columns keys part records) ≡ rows_in part keys (map (cells_at columns) records)
rows_read columns keys None records = ap (map (cells_at columns)) (all_kept records)
rows_read columns keys (Some p) records = kept_mapped (cells_at columns) (has_row p keys) records

-- the numbers that a table has
pub numbers_told : {Z : Type 0} (columns keys : List ℕ) (part : Option PartNumber) (records : List (List (List ℕ))) (numbers : Vec ℕ Z) → AreNumbers columns keys part records numbers.items
    → option_map (λ v. v.items) (option_map (λ _. numbers) part) ≡ numbers_in part keys (map (cells_at columns) records)
numbers_told columns keys None records numbers h = refl
numbers_told columns keys (Some p) records numbers h = ap Some h

-- as many numbers as rows
pub as_many_numbers : {Z : Type 0} (keys : List ℕ) (part : Option PartNumber) (rows : List (List (List ℕ))) (numbers : Option (Vec ℕ Z)) → option_map (λ v. v.items) numbers ≡ numbers_in part keys rows
    → IfSome numbers (λ v. length v.items ≡ length (rows_in part keys rows))
as_many_numbers keys part rows None h = tt
as_many_numbers keys None rows (Some v) h = absurd (cc)
as_many_numbers keys (Some p) rows (Some v) h =
    let same : v.items ≡ numbers_kept (has_row p keys) 1 rows = cc in
    ap length same ∙ as_many (has_row p keys) 1 rows

-- a table of records has as many columns as were chosen, and a line for each row
pub shape_of : (columns keys : List ℕ) (part : Option PartNumber) (records : List (List (List ℕ))) (t : CsvTable) → IsTableWith columns keys part records t → HasShape columns t
shape_of columns keys part records t h = record {
  width = h.width;
  lines = h.lines;
  numbers = subst (λ rows. IfSome t.numbers (λ v. length v.items ≡ length rows)) (sym h.rows) (as_many_numbers keys part (map (cells_at columns) records) t.numbers h.numbers);
}
