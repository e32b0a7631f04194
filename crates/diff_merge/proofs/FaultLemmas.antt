-- Why the rows of a text are not given.
use Rattle.std.proofs.Common.{◌≡◌, ◌∙◌, ◌≢◌, ℕ, Bool, true, false, List, [], ◌∷◌, ◌++◌, Option, Some, None, sym, refl, ap, subst}
use Rattle.std.proofs.lemmas.List.{append_assoc}
use Rattle.diff_columns.specs.declared.error.Side.{Side}
use Rattle.diff_csv.specs.Given.{HasGiven, IsAt}
use Rattle.diff_csv.specs.Records.{data_rows}
use Rattle.diff_csv.specs.declared.options.CsvOptions.{CsvOptions}
use Rattle.diff_csv.specs.declared.row_reader.Ahead.{Ahead}
use Rattle.diff_csv.specs.declared.row_reader.Ahead.TheVariants.{First, Later, End}
use Rattle.diff_csv.specs.declared.row_reader.RowReader.{RowReader}
use Rattle.diff_csv.proofs.ReadingLemmas.{begins}
use Rattle.diff_merge.specs.Faults.{HasAdjacent, HasFall, HasTwice, IsCursorFault, IsKeyFault, IsTextFault, key_of}
use Rattle.diff_merge.specs.Order.{key_less}
use Rattle.diff_merge.specs.declared.error.MergeError.{MergeError}
use Rattle.diff_merge.specs.declared.error.MergeError.TheVariants as error

-- a text that can't be read
pub text_fault : (side : Side) (options : CsvOptions) (text columns keys : List ℕ) (unique : Bool) (e : MergeError) → IsTextFault side options text e → IsCursorFault side options text columns keys unique e
text_fault side options text columns keys unique error.Memory h = tt
text_fault side options text columns keys unique (error.Csv s cause) h = h
text_fault side options text columns keys unique (error.Falls s line) h = absurd h
text_fault side options text columns keys unique (error.KeyTwice s first again) h = absurd h

-- the last two of the rows that were read
adjacent : {R : Type 0} (rem : R → Option (List ℕ)) (options : CsvOptions) (text : List ℕ) (reader : RowReader R) (read : List (List (List ℕ))) (first next : List (List ℕ)) (a : Ahead)
    → IsAt rem options text reader ((read ++ first ∷ []) ++ next ∷ []) a → HasAdjacent options text first next
adjacent rem options text reader read first next First h = no_rows read h.none
  where
    no_rows : (rs : List (List (List ℕ))) → (rs ++ first ∷ []) ++ next ∷ [] ≡ [] → HasAdjacent options text first next
    no_rows [] e = cc e
    no_rows (r ∷ rs) e = cc e
adjacent rem options text reader read first next Later h = record {
  records = h.first ∷ h.more;
  rows = read;
  begin = begins rem options text reader.records (h.first ∷ h.more) h.reading;
  rows_are = sym h.rows_are ∙ append_assoc read (first ∷ []) (next ∷ []);
}
adjacent rem options text reader read first next End h = record {
  records = h.records;
  rows = read;
  begin = (h.all.0, h.all.1, h.all.2);
  rows_are = sym h.rows_are ∙ append_assoc read (first ∷ []) (next ∷ []);
}

-- a key that falls, or comes twice
pub key_fault : {R : Type 0} (rem : R → Option (List ℕ)) (side : Side) (options : CsvOptions) (text columns keys : List ℕ) (unique : Bool) (reader : RowReader R) (read : List (List (List ℕ))) (first next : List (List ℕ))
    (before key : List ℕ) (e : MergeError) → HasGiven rem options text reader ((read ++ first ∷ []) ++ next ∷ []) → before ≡ key_of columns keys first → key ≡ key_of columns keys next
    → IsKeyFault side unique before key e → IsCursorFault side options text columns keys unique e
key_fault rem side options text columns keys unique reader read first next before key error.Memory h b k f = tt
key_fault rem side options text columns keys unique reader read first next before key (error.Csv s cause) h b k f = absurd f
key_fault rem side options text columns keys unique reader read first next before key (error.Falls s line) h b k f =
    (f.0, record { first = first; next = next; adjacent = adjacent rem options text reader read first next reader.ahead h; falls = subst (λ x. key_less (key_of columns keys next) x ≡ true) b (subst (λ x. key_less x before ≡ true) k f.1) })
key_fault rem side options text columns keys unique reader read first next before key (error.KeyTwice s one again) h b k f =
    (f.0, f.1, record { first = first; next = next; adjacent = adjacent rem options text reader read first next reader.ahead h; one_key = sym b ∙ (f.2 ∙ k) })
