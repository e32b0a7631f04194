-- Rows of a text that are given one by one.
use Rattle.std.proofs.Common.{◌≡◌, ◌∙◌, ◌≢◌, ℕ, Bool, true, false, List, [], ◌∷◌, ◌++◌, Option, Some, None, length, ap, sym, refl}
use Rattle.std.proofs.lemmas.List.Elements.{All-push}
use Rattle.csv.specs.Records.{fields_of}
use Rattle.diff_csv.specs.Errors.{IsNoRecord, IsOtherLength, IsRowFault}
use Rattle.diff_csv.specs.Given.{AreRowsOf, IsBehind}
use Rattle.diff_csv.specs.Reading.{IsReading, ReadsOne}
use Rattle.diff_csv.specs.Records.{IsReadFault, data_rows}
use Rattle.diff_csv.specs.declared.error.CsvError.{CsvError}
use Rattle.diff_csv.specs.declared.error.CsvError.TheVariants as error
use Rattle.diff_csv.specs.declared.options.CsvOptions.{CsvOptions}
use Rattle.diff_csv.specs.declared.reading.Records.{Records}
use Rattle.diff_csv.specs.declared.row_reader.RowReader.{RowReader}
use Rattle.diff_csv.proofs.ReadingLemmas.{other_length}

-- an error that is not of the byte between fields
pub plain_fault : (e : CsvError) → IsNoRecord e → IsRowFault e
plain_fault error.Memory h = tt
plain_fault (error.Read cause) h = tt
plain_fault error.Delimiter h = absurd h
plain_fault (error.Length line expected found) h = absurd h
plain_fault (error.OpenQuote line) h = tt

pub length_fault : (line width found : ℕ) (e : CsvError) → IsOtherLength line width found e → IsRowFault e
length_fault line width found error.Memory h = tt
length_fault line width found (error.Read cause) h = tt
length_fault line width found error.Delimiter h = absurd h
length_fault line width found (error.Length l e f) h = tt
length_fault line width found (error.OpenQuote l) h = tt

-- a row after others
rows_push : (b : Bool) (first : List (List ℕ)) (more : List (List (List ℕ))) (r : List (List ℕ)) → data_rows b (first ∷ more) ++ r ∷ [] ≡ data_rows b (first ∷ (more ++ r ∷ []))
rows_push true first more r = refl
rows_push false first more r = refl

-- one record more, of the same length
pub one_behind : {R : Type 0} (rem : R → Option (List ℕ)) (options : CsvOptions) (text : List ℕ) (a b : RowReader R) (rows : List (List (List ℕ))) (row : List (List ℕ))
    → (h : IsBehind rem options text a rows) → IsReading rem options text b.records ((h.first ∷ h.more) ++ row ∷ []) → length row ≡ a.width → b.width ≡ a.width
    → IsBehind rem options text b (rows ++ row ∷ [])
one_behind rem options text a b rows row h read long same = record {
  first = h.first;
  more = h.more ++ row ∷ [];
  rows_are = ap (λ l. l ++ row ∷ []) h.rows_are ∙ rows_push options.has_header h.first h.more row;
  one_length = All-push (λ (r : List (List ℕ)). length r ≡ length h.first) h.more row h.one_length (long ∙ h.width);
  width = same ∙ h.width;
  reading = read;
}

-- no record more
pub none_behind : {R : Type 0} (rem : R → Option (List ℕ)) (options : CsvOptions) (text : List ℕ) (a : RowReader R) (after : Records R) (rows : List (List (List ℕ))) (fields : List (List ℕ))
    → (h : IsBehind rem options text a rows) → ReadsOne rem options text after (h.first ∷ h.more) fields None → AreRowsOf options text rows
none_behind rem options text a after rows fields h read = record {
  records = h.first ∷ h.more;
  all = read.0;
  one_length = h.one_length;
  closed = read.1;
  rows_are = h.rows_are;
}

-- one record more, of another length
pub other_behind : {R : Type 0} (rem : R → Option (List ℕ)) (options : CsvOptions) (text : List ℕ) (a : RowReader R) (after : Records R) (rows : List (List (List ℕ))) (fields : List (List ℕ))
    (line width found : ℕ) (e : CsvError)
    → (h : IsBehind rem options text a rows) → IsReading rem options text after ((h.first ∷ h.more) ++ fields ∷ []) → width ≡ a.width → found ≡ length fields
    → IsOtherLength line width found e → IsReadFault options text e
other_behind rem options text a after rows fields line width found e h read w f is =
    other_length rem options text after h.first h.more fields line width found e read h.one_length (w ∙ h.width) f is
