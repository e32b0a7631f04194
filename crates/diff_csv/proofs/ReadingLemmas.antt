-- One record more of a text is read.
use Rattle.std.proofs.Common.{◌≡◌, ◌≢◌, ◌∙◌, ℕ, Bool, true, false, List, [], ◌∷◌, ◌++◌, Option, Some, None, length, sym, refl, inl, arith}
use Rattle.std.specs.Prelude.{◌==◌}
use Rattle.csv.proofs.ReadFacts.{rows-end, rows-more}
use Rattle.csv.specs.Machine.{next_record}
use Rattle.csv.specs.Reading.{Reached, ReadRecord, Ready, source_of, strip_bom}
use Rattle.csv.specs.Records.{field_at, fields_of}
use Rattle.csv.specs.declared.error.ErrorKind.{ErrorKind}
use Rattle.csv.specs.declared.error.ErrorKind.TheVariants as kind
use Rattle.csv.specs.declared.parser.State.TheVariants as st
use Rattle.csv.specs.declared.reader.Reader.{Reader}
use Rattle.csv.specs.declared.reader.Trim.TheVariants as how
use Rattle.diff_csv.specs.Errors.{IsNoRecord, IsOtherLength, IsStop, TellsDelimiter, fault_of_kind}
use Rattle.diff_csv.specs.Options.{config_of, is_delimiter}
use Rattle.diff_csv.specs.Quotes.{ends_open, mark, mark_fields}
use Rattle.diff_csv.specs.Reading.{HasRead, HasReadOne, IsReading}
use Rattle.diff_csv.specs.Records.{AreRecordsOf, Begin, HaveOneLength, IsReadFault}
use Rattle.diff_csv.specs.declared.error.CsvError.{CsvError}
use Rattle.diff_csv.specs.declared.error.CsvError.TheVariants as error
use Rattle.diff_csv.specs.declared.options.CsvOptions.{CsvOptions}
use Rattle.diff_csv.specs.declared.reading.Records.{Records}
use Rattle.diff_csv.proofs.MarkLemmas.{Walked, next_marked, no_line_feed, strip_marked, walk}

-- a reader that has read no record
pub starts : {R : Type 0} (rem : R → Option (List ℕ)) (options : CsvOptions) (text : List ℕ) (reader : Reader R)
    → reader.trim ≡ how.None → Ready reader → reader.config ≡ config_of options
    → source_of rem reader ≡ Some (strip_bom text) → reader.state ≡ st.StartRecord → HasRead rem options text reader []
unfolding Reached
starts rem options text reader trims ready config source state = record {
  trim = trims;
  ready = ready;
  config = config;
  unread = strip_bom text;
  source = source;
  reached = (sym state, refl);
}

-- a read gives one record more, or shows that there is none
pub one_read : {R : Type 0} (rem : R → Option (List ℕ)) (options : CsvOptions) (text : List ℕ) (a b : Reader R) (rows : List (List (List ℕ))) (fields : List (List ℕ)) (found : Bool)
    → HasRead rem options text a rows → ReadRecord rem a b found fields → b.first ≡ true → HasReadOne rem options text b rows fields found
one_read rem options text a b rows fields true h read ready =
    let m = rows-more rem a b fields (config_of options) st.StartRecord (strip_bom text) h.unread rows h.config h.source h.reached read in
    record {
      trim = read.3 ∙ h.trim;
      ready = inl ready;
      config = read.2 ∙ h.config;
      unread = m.0;
      source = m.1;
      reached = m.2;
    }
one_read rem options text a b rows fields false h read ready =
    (a.state, h.unread, h.reached, rows-end rem a b fields (config_of options) h.unread h.config h.source read)

-- an error of the reader of records
pub fault_stops : (k : ErrorKind) → IsStop (fault_of_kind k)
fault_stops (kind.Io cause) = tt
fault_stops (kind.UnequalLengths pos expected found) = tt
fault_stops (kind.Utf8 pos err) = tt
fault_stops kind.OutOfMemory = tt
fault_stops (kind.Serialize text) = tt
fault_stops (kind.Deserialize pos err) = tt

pub stop_fault : (options : CsvOptions) (text : List ℕ) (e : CsvError) → IsStop e → IsReadFault options text e
stop_fault options text error.Memory h = tt
stop_fault options text (error.Read cause) h = tt
stop_fault options text error.Delimiter h = absurd h
stop_fault options text (error.Length line expected found) h = absurd h
stop_fault options text (error.OpenQuote line) h = absurd h

pub stop_plain : (e : CsvError) → IsStop e → IsNoRecord e
stop_plain error.Memory h = tt
stop_plain (error.Read cause) h = tt
stop_plain error.Delimiter h = absurd h
stop_plain (error.Length line expected found) h = absurd h
stop_plain (error.OpenQuote line) h = absurd h

-- an error that comes after the byte between fields was tested
pub tells_able : (able : Bool) (e : CsvError) → able ≡ true → IsNoRecord e → TellsDelimiter able e
tells_able able error.Memory t h = t
tells_able able (error.Read cause) t h = t
tells_able able error.Delimiter t h = absurd h
tells_able able (error.Length line expected found) t h = absurd h
tells_able able (error.OpenQuote line) t h = t

-- one field, and whether it is empty
pub one_field : (fs : List (List ℕ)) (x : List ℕ) (b : Bool) → Some x ≡ field_at fs 0 → length fs ≡ 1 → b ≡ (length x == 0)
    → (b ≡ true → fs ≡ mark_fields) × (fs ≡ mark_fields → b ≡ true)
unfolding field_at
one_field [] x b some one e = absurd (omega (arith, one))
one_field (f ∷ []) [] b some one e = ((λ t. cc), (λ q. e))
one_field (f ∷ []) (y ∷ x) b some one e = ((λ t. absurd (grind (arith, t, e))), (λ q. absurd (cc)))
one_field (f ∷ g ∷ fs) x b some one e = absurd (omega (arith, one))

-- with no field at its start a record is not one field
pub no_field : (fs : List (List ℕ)) → None ≡ field_at fs 0 → fs ≢ mark_fields
unfolding field_at
no_field [] none e = cc e
no_field (f ∷ fs) none e = cc none

-- with the mark after it each text has a record
no_none : (options : CsvOptions) (text : List ℕ) {T : Type 0} → is_delimiter options.delimiter ≡ true → AreRecordsOf options (text ++ mark) [] → T
unfolding Reached
no_none options text able all =
    let m = next_marked options.delimiter (no_line_feed options.delimiter able) (strip_bom text) st.StartRecord [] [] (refl, refl) in
    let none : next_record (config_of options) st.StartRecord [] [] (strip_bom text ++ mark) ≡ None = rw (← strip_marked text, all.2.0, all.2.1) all.3 in
    let some : next_record (config_of options) st.StartRecord [] [] (strip_bom text ++ mark) ≡ Some m.0 = m.1 in
    absurd (cc)

pub first_ahead : {R : Type 0} (rem : R → Option (List ℕ)) (options : CsvOptions) (text : List ℕ) (reader : Reader R) (fields : List (List ℕ)) (found : Bool)
    → is_delimiter options.delimiter ≡ true → HasReadOne rem options (text ++ mark) reader [] fields found → HasRead rem options (text ++ mark) reader (fields ∷ [])
first_ahead rem options text reader fields true able h = h
first_ahead rem options text reader fields false able h = no_none options text able h

-- the records that were read with the mark after the text, the last one by its name
walked : (options : CsvOptions) (text : List ℕ) (rows : List (List (List ℕ))) (last : List (List ℕ)) (s : _) (ys : List ℕ) → is_delimiter options.delimiter ≡ true
    → Reached (config_of options) st.StartRecord (strip_bom (text ++ mark)) (rows ++ last ∷ []) s ys
    → Walked options.delimiter st.StartRecord (strip_bom text) rows last s ys
walked options text rows last s ys able h =
    walk options.delimiter (no_line_feed options.delimiter able) rows last st.StartRecord (strip_bom text) s ys (refl, refl) (rw (strip_marked text) at h)

-- the records that are given are the first ones of the text
pub begins : {R : Type 0} (rem : R → Option (List ℕ)) (options : CsvOptions) (text : List ℕ) (records : Records R) (rows : List (List (List ℕ)))
    → IsReading rem options text records rows → Begin options text rows
begins rem options text records rows h =
    let w = walked options text rows (fields_of records.ahead.value) records.reader.state h.read.unread h.delimiter h.read.reached in
    (w.0, w.1, w.2)

-- a record of another length
pub other_length : {R : Type 0} (rem : R → Option (List ℕ)) (options : CsvOptions) (text : List ℕ) (records : Records R) (first : List (List ℕ)) (more : List (List (List ℕ))) (other : List (List ℕ))
    (line width found : ℕ) (e : CsvError) → IsReading rem options text records (first ∷ (more ++ other ∷ [])) → HaveOneLength (first ∷ more)
    → width ≡ length first → found ≡ length other → IsOtherLength line width found e → IsReadFault options text e
other_length rem options text records first more other line width found error.Memory h one w f is = absurd is
other_length rem options text records first more other line width found (error.Read cause) h one w f is = absurd is
other_length rem options text records first more other line width found error.Delimiter h one w f is = absurd is
other_length rem options text records first more other line width found (error.Length l x n) h one w f is = record {
  first = first;
  more = more;
  other = other;
  begin = begins rem options text records (first ∷ (more ++ other ∷ [])) h;
  one_length = one;
  expected_is = is.1 ∙ w;
  found_is = is.2 ∙ f;
  differ = λ q. is.3 (sym is.1 ∙ (q ∙ is.2));
}
other_length rem options text records first more other line width found (error.OpenQuote l) h one w f is = absurd is

-- where the last record is the mark's, the others are all records of the text
pub closed : (options : CsvOptions) (text : List ℕ) (rows : List (List (List ℕ))) (last : List (List ℕ)) → is_delimiter options.delimiter ≡ true
    → AreRecordsOf options (text ++ mark) (rows ++ last ∷ []) → last ≡ mark_fields → AreRecordsOf options text rows × (ends_open options text ≡ false)
closed options text rows last able all is =
    let w = walked options text rows last all.0 all.1 able all.2 in
    let end = w.3 all.3 is in
    ((w.0, w.1, w.2, end.0), end.1)

-- where it is another, the text ends within quotes
pub open_end : (options : CsvOptions) (text : List ℕ) (rows : List (List (List ℕ))) (last : List (List ℕ)) → is_delimiter options.delimiter ≡ true
    → AreRecordsOf options (text ++ mark) (rows ++ last ∷ []) → last ≢ mark_fields → ends_open options text ≡ true
open_end options text rows last able all differ =
    let w = walked options text rows last all.0 all.1 able all.2 in
    w.4 all.3 differ
