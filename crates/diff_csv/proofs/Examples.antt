-- Worked examples of the definitions.
use Rattle.std.proofs.Common.{arith, refl}
use Rattle.std.proofs.lemmas.Fmt.{decimal_digit}
use Rattle.std.proofs.lemmas.List.Elements.{All-nil}
use Rattle.std.specs.Prelude.{◌≡◌, ℕ, true, false, List, [], ◌∷◌, ◌++◌, codes, length}
use Rattle.csv.specs.Machine.{next_record}
use Rattle.csv.specs.Reading.{Reached, strip_bom}
use Rattle.csv.specs.declared.parser.State.TheVariants as st
use Rattle.diff_csv.specs.Options.{is_delimiter}
use Rattle.diff_csv.specs.Quotes.{ends_open, mark, mark_fields, state_after}
use Rattle.diff_csv.specs.Records.{AreRecordsOf, HasOtherLength, IsReadFault, data_rows, names_of}
use Rattle.diff_csv.specs.declared.error.CsvError.TheVariants.{OpenQuote}
use Rattle.diff_csv.specs.declared.options.CsvOptions.{CsvOptions}

abbrev commas : CsvOptions
commas = record { delimiter = 44; has_header = true }

abbrev header : List (List ℕ)
header = codes "id" ∷ codes "n" ∷ []

abbrev seven : List (List ℕ)
seven = codes "7" ∷ codes "1" ∷ []

-- a text of two lines has two records
two-records : AreRecordsOf commas (codes "id,n\n7,1\n") (header ∷ seven ∷ [])
unfolding next_record Reached strip_bom
two-records = (st.StartRecord, [], ((header, st.StartRecord, codes "7,1\n"), refl, refl, ((seven, st.StartRecord, []), refl, refl, (refl, refl))), refl)

-- the two texts that docs/DIFF.md compares
old-records : AreRecordsOf commas (codes "id,city,amount\n1,Oslo,12.50\n2,Bergen,3\n3,Molde,1\n")
    ((codes "id" ∷ codes "city" ∷ codes "amount" ∷ []) ∷ (codes "1" ∷ codes "Oslo" ∷ codes "12.50" ∷ []) ∷ (codes "2" ∷ codes "Bergen" ∷ codes "3" ∷ []) ∷ (codes "3" ∷ codes "Molde" ∷ codes "1" ∷ []) ∷ [])
unfolding next_record Reached strip_bom
old-records = (
  st.StartRecord,
  [],
  (
    (_, st.StartRecord, codes "1,Oslo,12.50\n2,Bergen,3\n3,Molde,1\n"),
    refl,
    refl,
    ((_, st.StartRecord, codes "2,Bergen,3\n3,Molde,1\n"), refl, refl, ((_, st.StartRecord, codes "3,Molde,1\n"), refl, refl, ((_, st.StartRecord, []), refl, refl, (refl, refl)))),
  ),
  refl,
)

new-records : AreRecordsOf commas (codes "amount,id,city\n12.75,1,Bergen\n1,3,Molde\n9,4,Hamar\n")
    ((codes "amount" ∷ codes "id" ∷ codes "city" ∷ []) ∷ (codes "12.75" ∷ codes "1" ∷ codes "Bergen" ∷ []) ∷ (codes "1" ∷ codes "3" ∷ codes "Molde" ∷ []) ∷ (codes "9" ∷ codes "4" ∷ codes "Hamar" ∷ []) ∷ [])
unfolding next_record Reached strip_bom
new-records = (
  st.StartRecord,
  [],
  (
    (_, st.StartRecord, codes "12.75,1,Bergen\n1,3,Molde\n9,4,Hamar\n"),
    refl,
    refl,
    ((_, st.StartRecord, codes "1,3,Molde\n9,4,Hamar\n"), refl, refl, ((_, st.StartRecord, codes "9,4,Hamar\n"), refl, refl, ((_, st.StartRecord, []), refl, refl, (refl, refl)))),
  ),
  refl,
)

-- a text without a column id
day-records : AreRecordsOf commas (codes "day,n\n3,8\n") ((codes "day" ∷ codes "n" ∷ []) ∷ (codes "3" ∷ codes "8" ∷ []) ∷ [])
unfolding next_record Reached strip_bom
day-records = (st.StartRecord, [], ((_, st.StartRecord, codes "3,8\n"), refl, refl, ((_, st.StartRecord, []), refl, refl, (refl, refl))), refl)

-- a text ends within quotes, or after them
open-quote : ends_open commas (codes "a,\"b") ≡ true
unfolding state_after strip_bom
open-quote = refl

closed-quote : ends_open commas (codes "a,\"b\"") ≡ false
unfolding state_after strip_bom
closed-quote = refl

-- and is not read then
quote-never-ends : IsReadFault commas (codes "a,\"b") (OpenQuote 1)
quote-never-ends = open-quote

-- with the mark after it the first of these has a record whose last field is not empty, and the second one more record
open-mark : AreRecordsOf commas (codes "a,\"b" ++ mark) ((codes "a" ∷ codes "b\n" ∷ []) ∷ [])
unfolding next_record Reached strip_bom
open-mark = (st.StartRecord, [], ((codes "a" ∷ codes "b\n" ∷ [], st.StartRecord, []), refl, refl, (refl, refl)), refl)

closed-mark : AreRecordsOf commas (codes "a,\"b\"" ++ mark) ((codes "a" ∷ codes "b" ∷ []) ∷ mark_fields ∷ [])
unfolding next_record Reached strip_bom
closed-mark =
    (st.StartRecord, [], ((codes "a" ∷ codes "b" ∷ [], st.StartRecord, codes "\""), refl, refl, ((mark_fields, st.StartRecord, []), refl, refl, (refl, refl))), refl)

-- a tab stands between fields, and a quote does not
tab-between : is_delimiter 9 ≡ true
tab-between = refl

no-quote-between : is_delimiter 34 ≡ false
no-quote-between = refl

-- a header is no row
one-row : data_rows true (header ∷ seven ∷ []) ≡ seven ∷ []
one-row = refl

-- the header names the columns
by-header : names_of true (header ∷ seven ∷ []) ≡ codes "id" ∷ codes "n" ∷ []
by-header = refl

-- with no header the columns are numbered from 1 on
by-number : names_of false (seven ∷ []) ≡ codes "1" ∷ codes "2" ∷ []
by-number = rw (decimal_digit 1 (omega arith), decimal_digit 2 (omega arith)) refl

-- a second record of one field after a first one of two
one-field-short : HasOtherLength commas (codes "id,n\n7\n") 2 1
unfolding next_record Reached strip_bom
one-field-short = record {
  first = header;
  more = [];
  other = codes "7" ∷ [];
  begin = (st.StartRecord, [], ((header, st.StartRecord, codes "7\n"), refl, refl, ((codes "7" ∷ [], st.StartRecord, []), refl, refl, (refl, refl))));
  one_length = All-nil (λ (r : List (List ℕ)). length r ≡ length header);
  expected_is = refl;
  found_is = refl;
  differ = λ e. omega (arith, e);
}
