-- The columns of a text.
use Rattle.std.proofs.Common.{◌≡◌, ◌<◌, ◌+◌, ◌++◌, ◌⊎◌, ◌∙◌, inl, inr, ℕ, zero, suc, List, [], ◌∷◌, length, map, get_or, arith, ap, sym, refl, subst}
use Rattle.std.proofs.lemmas.List.{get_or_append_left, get_or_push, length-append, length-map}
use Rattle.std.proofs.lemmas.Bool.{cases_eq}
use Rattle.std.specs.List.{range_with_len}
use Rattle.std.specs.Prelude.{Option, None}
use Rattle.diff_csv.specs.Records.{AreRecordsOf, data_rows, names_of}
use Rattle.diff_csv.specs.Tables.{IsTableOf}
use Rattle.diff_csv.specs.declared.options.CsvOptions.{CsvOptions}
use Rattle.diff_csv.specs.declared.source.CsvTable.{CsvTable}
use Rattle.diff_tables.specs.Keys.{cells_at}
use Rattle.schema_columns.specs.Columns.{IsSchemaOf}
use Rattle.schema_columns.specs.Present.{cells_of}
use Rattle.schema_columns.specs.declared.column.ColumnSchema.{ColumnSchema}
use Rattle.schema_run.specs.Schemas.{AreSchemasOf, IsSchemaOfText}
use Rattle.schema_run.specs.declared.read.TableSchema.{TableSchema}

-- a column of rows that are cut to all columns is the column of the rows
at_all : (row : List (List ℕ)) (a n c : ℕ) → c < n → get_or (cells_at (range_with_len a n) row) c [] ≡ get_or row (a + c) []
at_all row a zero c low = absurd (omega (arith, low))
at_all row a (suc n) zero low = ap (λ k. get_or row k []) (omega arith)
at_all row a (suc n) (suc c) low = at_all row (a + 1) n c (omega (arith, low)) ∙ ap (λ k. get_or row k []) (omega arith)

pub cells_kept : (rows : List (List (List ℕ))) (n c : ℕ) → c < n → cells_of c (map (cells_at (range_with_len 0 n)) rows) ≡ cells_of c rows
cells_kept [] n c low = refl
cells_kept (row ∷ rows) n c low =
    let one : get_or (cells_at (range_with_len 0 n) row) c [] ≡ get_or row c [] = at_all row 0 n c low ∙ ap (λ k. get_or row k []) (omega arith) in
    ap (λ x. x ∷ cells_of c (map (cells_at (range_with_len 0 n)) rows)) one ∙ ap (λ l. get_or row c [] ∷ l) (cells_kept rows n c low)

range_last : (a n : ℕ) → range_with_len a (suc n) ≡ range_with_len a n ++ (a + n) ∷ []
range_last a zero = ap (λ k. k ∷ []) (omega arith)
range_last a (suc n) =
    let same : a + 1 + n ≡ a + suc n = omega arith in
    ap (λ l. a ∷ l) (range_last (a + 1) n ∙ ap (λ k. range_with_len (a + 1) n ++ k ∷ []) same)

pub range_many : (a n : ℕ) → length (range_with_len a n) ≡ n
range_many a zero = refl
range_many a (suc n) = ap suc (range_many (a + 1) n)

pub range_more : (n : ℕ) → range_with_len 0 (n + 1) ≡ range_with_len 0 n ++ n ∷ []
range_more n =
    let next : n + 1 ≡ suc n = omega arith in
    let last : 0 + n ≡ n = omega arith in
    ap (range_with_len 0) next ∙ (range_last 0 n ∙ ap (λ k. range_with_len 0 n ++ k ∷ []) last)

-- the first n columns
pub record AreFirst (null : Option (List ℕ)) (names : List (List ℕ)) (rows : List (List (List ℕ))) (columns : List ColumnSchema) (n : ℕ) : Type 0 where
  pub many : length columns ≡ n
  pub each : (c : ℕ) (d : ColumnSchema) → c < n → IsSchemaOf (get_or names c []) null (cells_of c rows) (get_or columns c d)

pub one_more : (null : Option (List ℕ)) (names : List (List ℕ)) (rows : List (List (List ℕ))) (columns : List ColumnSchema) (s : ColumnSchema) (n : ℕ) → AreFirst null names rows columns n
    → IsSchemaOf (get_or names n []) null (cells_of n rows) s → AreFirst null names rows (columns ++ s ∷ []) (n + 1)
one_more null names rows columns s n first last = record {
  many = length-append columns (s ∷ []) ∙ ap (λ k. k + 1) first.many;
  each = λ c d low. told c d low (cases_eq c n);
}
  where
    told : (c : ℕ) (d : ColumnSchema) → c < n + 1 → (c ≡ n) ⊎ (¬ (c ≡ n)) → IsSchemaOf (get_or names c []) null (cells_of c rows) (get_or (columns ++ s ∷ []) c d)
    told c d low (inl here) =
        let end : get_or (columns ++ s ∷ []) c d ≡ s = get_or_push columns s d c (first.many ∙ sym here) in
        subst (λ x. IsSchemaOf (get_or names c []) null (cells_of c rows) x) (sym end) (subst (λ k. IsSchemaOf (get_or names k []) null (cells_of k rows) s) (sym here) last)
    told c d low (inr apart) =
        let before : c < n = omega (arith, low, apart) in
        let same : get_or (columns ++ s ∷ []) c d ≡ get_or columns c d = get_or_append_left columns (s ∷ []) d c (omega (arith, before, first.many)) in
        subst (λ x. IsSchemaOf (get_or names c []) null (cells_of c rows) x) (sym same) (first.each c d before)

pub all_first : (null : Option (List ℕ)) (names : List (List ℕ)) (rows : List (List (List ℕ))) (columns : List ColumnSchema) (n : ℕ) → AreFirst null names rows columns n → n ≡ length names
    → AreSchemasOf null names rows columns
all_first null names rows columns n first all = record {
  many = first.many ∙ all;
  each = λ c d low. first.each c d (omega (arith, low, all));
}

-- the schemas of a table are those of its text
pub text_schema : (options : CsvOptions) (text : List ℕ) (null : Option (List ℕ)) (names : List (List ℕ)) (all keys : List ℕ) (t : CsvTable) (s : TableSchema) → all ≡ range_with_len 0 (length names)
    → ((records : List (List (List ℕ))) → AreRecordsOf options text records → names ≡ names_of options.has_header records) → IsTableOf options text all keys None t
    → AreSchemasOf null names t.table.rows s.columns.items → s.rows ≡ length t.table.rows → IsSchemaOfText options text null s
text_schema options text null names all keys t s every named table schemas many =
    let rows : List (List (List ℕ)) = data_rows options.has_header table.records in
    let cut : t.table.rows ≡ map (cells_at (range_with_len 0 (length names))) rows = table.table.rows ∙ ap (λ a. map (cells_at a) rows) every in
    let kept : AreSchemasOf null names rows s.columns.items = record {
      many = schemas.many;
      each = λ c d low. subst (λ cells. IsSchemaOf (get_or names c []) null cells (get_or s.columns.items c d)) (ap (cells_of c) cut ∙ cells_kept rows (length names) c low) (schemas.each c d low);
    } in
    record {
      records = table.records;
      all = table.all;
      one_length = table.one_length;
      closed = table.closed;
      rows = many ∙ (ap length table.table.rows ∙ length-map rows (cells_at all));
      columns = subst (λ ns. AreSchemasOf null ns rows s.columns.items) (named table.records table.all) kept;
    }
