-- Worked examples of `IsRunFault`: which errors are true of two texts, and which are not.
use Rattle.std.proofs.Common.{◌≡◌, ◌<◌, ◌≤◌, ◌^◌, ◌∙◌, ℕ, true, false, List, [], ◌∷◌, length}
use Rattle.std.proofs.Common.{arith, ap, sym, subst, refl}
use Rattle.std.proofs.lemmas.List.{get_or-replicate, length-map, length-replicate}
use Rattle.std.proofs.lemmas.List.Elements.{All-nil}
use Rattle.std.specs.Prelude.{None, Some, codes}
use Rattle.csv.specs.Machine.{next_record}
use Rattle.csv.specs.Reading.{Reached, strip_bom}
use Rattle.csv.specs.declared.parser.State.TheVariants as st
use Rattle.diff_columns.specs.Names.{IsRepeated}
use Rattle.diff_columns.specs.declared.error.ColumnError.TheVariants.{NameTwice, NoKey}
use Rattle.diff_columns.specs.declared.error.Side.TheVariants.{Left, Right}
use Rattle.diff_csv.specs.Quotes.{ends_open, state_after}
use Rattle.diff_csv.specs.RecordLaws.{one_reading}
use Rattle.diff_csv.specs.Records.{AreRecordsOf, data_rows}
use Rattle.diff_csv.specs.Records as csv
use Rattle.diff_csv.specs.declared.error.CsvError.TheVariants.{Length, OpenQuote}
use Rattle.diff_numbers.specs.Cells.{IsWideNumber}
use Rattle.diff_run.proofs.ExampleReport.{commas, options}
use Rattle.diff_run.specs.Faults.{IsRunFault, rows_on}
use Rattle.diff_run.specs.declared.error.RunError.TheVariants as error
use Rattle.diff_tables.specs.Keys.{cells_at}
use Rattle.fast_float.specs.Text.{scan}
use Rattle.json.specs.Word.{after_number}
use Rattle.worked_examples.proofs.ExampleColumns.{header, laid_out, layout, lengths_one}
use Rattle.worked_examples.proofs.ExampleColumns.{lengths_two}
use Rattle.worked_examples.proofs.ExampleRows.{new_rows, old_rows, seven-twice, twice_rows}
use Rattle.worked_examples.proofs.ExampleSides.{are_sides, by_id_options, new_closed, new_read}
use Rattle.worked_examples.proofs.ExampleSides.{new_text, old_read, old_text, sides_of}
use Rattle.worked_examples.proofs.ExampleVectors.{lent, vector}

-- ---- quotes

open-quote : ends_open commas (codes "id,n\n7,\"1\n") ≡ true
unfolding state_after strip_bom
open-quote = refl

closed-quote : ends_open commas (codes "id,n\n7,\"1\"\n") ≡ false
unfolding state_after strip_bom
closed-quote = refl

-- a quote opens in the second line of the left text, and never ends
quote-never_ends :
    IsRunFault options (codes "id,n\n7,\"1\n") new_text (error.Csv Left (OpenQuote 2))
quote-never_ends = open-quote

-- of a quote that ends this is not true
quote-ends : ¬
    (IsRunFault options (codes "id,n\n7,\"1\"\n") new_text (error.Csv Left (OpenQuote 2)))
quote-ends fault = let both : false ≡ true = sym closed-quote ∙ fault in cc

-- nor of one in the other text
quote-in_other :
    ¬ (IsRunFault options (codes "id,n\n7,\"1\n") new_text (error.Csv Right (OpenQuote 2)))
quote-in_other fault = let both : false ≡ true = sym new_closed ∙ fault in cc

-- ---- lengths

-- the second record of the right text has one field, and the first has two
one-field_short : IsRunFault options old_text (codes "id,n\n8\n") (error.Csv Right (Length 2 2 1))
unfolding next_record Reached strip_bom
one-field_short = record {
  first = header;
  more = [];
  other = codes "8" ∷ [];
  begin = (
    st.StartRecord,
    [],
    (
      (header, st.StartRecord, codes "8\n"),
      refl,
      refl,
      ((codes "8" ∷ [], st.StartRecord, []), refl, refl, (refl, refl)),
    ),
  );
  one_length = All-nil (λ (r : List (List ℕ)). length r ≡ length header);
  expected_is = refl;
  found_is = refl;
  differ = λ e. omega (arith, e);
}

-- a record of as many fields as the first has no other length
same-length : ¬ (IsRunFault options old_text new_text (error.Csv Right (Length 2 2 2)))
same-length fault = fault.differ refl

-- ---- columns

twice-read : AreRecordsOf commas (codes "id,id\n7,1\n")
    ((codes "id" ∷ codes "id" ∷ []) ∷ (codes "7" ∷ codes "1" ∷ []) ∷ [])
unfolding next_record Reached strip_bom
twice-read = (
  st.StartRecord,
  [],
  (
    (_, st.StartRecord, codes "7,1\n"),
    refl,
    refl,
    ((_, st.StartRecord, []), refl, refl, (refl, refl)),
  ),
  refl,
)

-- the second column of the left text has the name of the first
name-twice : IsRunFault options (codes "id,id\n7,1\n") new_text (error.Columns (NameTwice Left 1))
name-twice left right left_all right_all =
    let records = one_reading _ _ _
    ((codes "id" ∷ codes "id" ∷ []) ∷ (codes "7" ∷ codes "1" ∷ []) ∷ []) left twice-read
    left_all in
    subst (λ all. IsRepeated (csv.names_of true all) 1) records
    (omega arith, (0, omega arith, refl))

-- of both texts with the column id it is not true that one has no such column
key-there : ¬ (IsRunFault options old_text new_text (error.Columns (NoKey Right 0)))
key-there fault =
    (fault (header ∷ old_rows) (header ∷ new_rows) old_read new_read).1 (0, omega arith, refl)

-- ---- keys

abbrev twice_text : List ℕ
twice_text = codes "id,n\n7,1\n7,2\n"

twice-rows-read : AreRecordsOf commas twice_text (header ∷ twice_rows)
unfolding next_record Reached strip_bom
twice-rows-read = (
  st.StartRecord,
  [],
  (
    (_, st.StartRecord, codes "7,1\n7,2\n"),
    refl,
    refl,
    (
      (_, st.StartRecord, codes "7,2\n"),
      refl,
      refl,
      ((_, st.StartRecord, []), refl, refl, (refl, refl)),
    ),
  ),
  refl,
)

twice-closed : ends_open commas twice_text ≡ false
unfolding state_after strip_bom
twice-closed = refl

-- the key 7 comes twice on the left, and keys have to be unique
key-twice : IsRunFault (by_id_options true) twice_text new_text (error.KeyTwice Left 2 3)
key-twice = record {
  left_name = codes "old.csv";
  right_name = codes "new.csv";
  layout = layout;
  sides = sides_of twice_rows (vector (2 ∷ 3 ∷ []) (omega arith)) new_rows
      (vector (2 ∷ []) (omega arith));
  sides_are = are_sides true twice_text new_text twice_rows new_rows
      (vector (2 ∷ 3 ∷ []) (omega arith)) (vector (2 ∷ []) (omega arith)) twice-rows-read new_read
      (lengths_two (codes "7" ∷ codes "1" ∷ []) (codes "7" ∷ codes "2" ∷ []) refl refl)
      (lengths_one (codes "8" ∷ codes "3" ∷ []) refl) twice-closed new_closed refl refl refl
      refl;
  twice = (record { first = 0; again = 1 }, seven-twice);
  asked = refl;
}

-- where they need not be, this is no error
twice-allowed : ¬ (IsRunFault (by_id_options false) twice_text new_text (error.KeyTwice Left 2 3))
twice-allowed fault = let both : false ≡ true = fault.asked in cc

-- ---- rows

-- two rows and one row are not too many
few-rows : ¬ (IsRunFault options old_text new_text error.TooManyRows)
few-rows fault = fault.many (few_left, few_right)
  where
    left_count :
        length (rows_on Left options fault.layout fault.left_records fault.right_records) ≡ 2
    left_count =
        length-map (data_rows true fault.left_records) (cells_at fault.layout.left.items)
        ∙ ap (λ records. length (data_rows true records))
        (one_reading _ _ _ fault.left_records (header ∷ old_rows) fault.left_all old_read)

    right_count :
        length (rows_on Right options fault.layout fault.left_records fault.right_records) ≡ 1
    right_count =
        length-map (data_rows true fault.right_records) (cells_at fault.layout.right.items)
        ∙ ap (λ records. length (data_rows true records))
        (one_reading _ _ _ fault.right_records (header ∷ new_rows) fault.right_all new_read)

    few_left :
        length (rows_on Left options fault.layout fault.left_records fault.right_records) ≤ 2 ^ 32
    few_left = omega (arith, left_count)

    few_right :
        length (rows_on Right options fault.layout fault.left_records fault.right_records) ≤ 2 ^ 32
    few_right = omega (arith, right_count)

-- ---- numbers

-- a number whose exponent has 31 digits
abbrev wide_cell : List ℕ
wide_cell = codes "1e1000000000000000000000000000000"

abbrev wide_rows : List (List (List ℕ))
wide_rows = (codes "7" ∷ wide_cell ∷ []) ∷ []

abbrev wide_text : List ℕ
wide_text = codes "id,n\n7,1e1000000000000000000000000000000\n"

wide-number : IsWideNumber wide_cell
unfolding after_number scan
wide-number = record { number = refl; wide = omega arith }

-- an exponent of 30 digits is not wide
narrow-number : ¬ (IsWideNumber (codes "1e100000000000000000000000000000"))
unfolding after_number scan
narrow-number is = let wide = is.wide in omega (arith, wide)

wide-read : AreRecordsOf commas wide_text (header ∷ wide_rows)
unfolding next_record Reached strip_bom
wide-read = (
  st.StartRecord,
  [],
  (
    (_, st.StartRecord, codes "7,1e1000000000000000000000000000000\n"),
    refl,
    refl,
    ((_, st.StartRecord, []), refl, refl, (refl, refl)),
  ),
  refl,
)

-- where numbers are compared by value, such a number can't be compared
wide-exponent :
    IsRunFault (record options { numbers = Some (lent []) }) wide_text new_text
    (error.WideExponent Left 2 (vector (codes "n") (omega arith)))
wide-exponent = record {
  left_records = header ∷ wide_rows;
  right_records = header ∷ new_rows;
  left_all = wide-read;
  right_all = new_read;
  layout = layout;
  laid_out = laid_out;
  names = header;
  names_are = refl;
  wide = record {
    row = 0;
    column = 1;
    wide = record {
      row_within = omega arith;
      column_within = omega arith;
      counts = refl;
      wide =
          wide-number;
    };
    named = refl;
  };
}

-- where cells are compared as texts, this is no error
wide-as_text :
    ¬ (IsRunFault options wide_text new_text
    (error.WideExponent Left 2 (vector (codes "n") (omega arith))))
wide-as_text fault =
    let within = subst (λ n. fault.wide.column < n) (length-replicate (length fault.names) false)
    fault.wide.wide.column_within in
    let text = get_or-replicate (length fault.names) fault.wide.column false false within in
    let both : false ≡ true = sym text ∙ fault.wide.wide.counts in cc
