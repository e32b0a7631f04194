-- The documents of a part are those of the whole that are in it.
use Rattle.std.proofs.Common.{◌≡◌, ◌∙◌, ◌<◌, ◌≤◌, ◌+◌, ◌↔◌, ℕ, zero, suc, Bool, true, false, cond, List, [], ◌∷◌, ◌++◌, Some, length, get_or, map, arith, ap, sym, refl, subst}
use Rattle.std.proofs.lemmas.List.{get_or_append_left, length-map}
use Rattle.std.proofs.lemmas.List.Kept.{IsStrictlyIncreasing-filter}
use Rattle.std.specs.List.{Contains, filter, range_with_len}
use Rattle.std.specs.List.Sorted.{IsStrictlyIncreasing}
use Rattle.std.specs.Prelude.{slice_index}
use Rattle.diff_keys.specs.Rising.{ListsRising}
use Rattle.diff_keys.specs.RisingLaws.{listed_as}
use Rattle.diff_parts.specs.Parts.{PartNumber, in_part}
use Rattle.diff_parts.specs.Rows.{has_row}
use Rattle.diff_run.proofs.OnceLemmas.{one_listing}
use Rattle.diff_tables.specs.Keys.{escaped, row_key}
use Rattle.document_rows.specs.Documents.{IsDocument, cell_of, document_row, key_cells, tree_of}
use Rattle.document_rows.specs.Lines.{lines_of}
use Rattle.document_rows.specs.Numbers.{IsNumberOf, numbered_line}
use Rattle.document_rows.specs.Parts.{IsWanted, is_in}
use Rattle.document_rows.specs.declared.reading.Reading.{Reading}
use Rattle.document_run.specs.Laws.{KeepsDocuments}
use Rattle.json_paths.specs.Paths.{Path, part_at}

-- a number that is kept is one of those that the test has
kept_from : (keeps : ℕ → Bool) (xs : List ℕ) (i : ℕ) → Contains (filter keeps xs) i → Contains xs i × (keeps i ≡ true)
kept_from keeps [] i (k, within, is) = absurd (omega (arith, within))
kept_from keeps (x ∷ xs) i there = at (keeps x) refl (λ c. kept_from keeps xs i c) there
  where
    later : Contains xs i × (keeps i ≡ true) → Contains (x ∷ xs) i × (keeps i ≡ true)
    later ((k, within, is), passes) = ((suc k, omega (arith, within), is), passes)

    at : (b : Bool) → keeps x ≡ b → (Contains (filter keeps xs) i → Contains xs i × (keeps i ≡ true)) → Contains (cond b (x ∷ filter keeps xs) (filter keeps xs)) i
        → Contains (x ∷ xs) i × (keeps i ≡ true)
    at true e ih (zero, within, is) = ((0, omega arith, is), ap keeps (sym is) ∙ e)
    at true e ih (suc k, within, is) = later (ih (k, omega (arith, within), is))
    at false e ih found = later (ih found)

-- each number that the test has is kept
kept_back : (keeps : ℕ → Bool) (xs : List ℕ) (i : ℕ) → Contains xs i → keeps i ≡ true → Contains (filter keeps xs) i
kept_back keeps [] i (k, within, is) passes = absurd (omega (arith, within))
kept_back keeps (x ∷ xs) i (k, within, is) passes = at (keeps x) refl k within is (λ c. kept_back keeps xs i c passes)
  where
    at : (b : Bool) → keeps x ≡ b → (n : ℕ) → n < length (x ∷ xs) → get_or (x ∷ xs) n i ≡ i → (Contains xs i → Contains (filter keeps xs) i)
        → Contains (cond b (x ∷ filter keeps xs) (filter keeps xs)) i
    at true e zero inside same ih = (0, omega arith, same)
    at true e (suc n) inside same ih = let (m, low, there) = ih (n, omega (arith, inside), same) in (suc m, omega (arith, low), there)
    at false e zero inside same ih = let clash : false ≡ true = sym e ∙ (ap keeps same ∙ passes) in absurd (cc clash)
    at false e (suc n) inside same ih = ih (n, omega (arith, inside), same)

-- of listed numbers those that are kept are listed
filter_listed : (P Q : ℕ → Type 0) (keeps : ℕ → Bool) (n : ℕ) (xs : List ℕ) → ListsRising P n xs → ((i : ℕ) → Q i ↔ (P i × (keeps i ≡ true))) → ListsRising Q n (filter keeps xs)
filter_listed P Q keeps n xs h same = record {
  all = λ i. (
    λ there.
        let kept = kept_from keeps xs i there in
        let was = (h.all i).0 kept.0 in
        (was.0, (same i).1 (was.1, kept.1)),
    λ is.
        let both = (same i).0 is.1 in
        kept_back keeps xs i ((h.all i).1 (is.0, both.0)) both.1,
  );
  in_order = λ k within.
      let next : k + 1 ≡ suc k = omega arith in
      subst (λ m. slice_index (filter keeps xs) k < slice_index (filter keeps xs) m) next (IsStrictlyIncreasing-filter keeps xs rising k (omega (arith, within)));
}
  where
    rising : IsStrictlyIncreasing xs
    rising k within =
        let next : suc k ≡ k + 1 = omega arith in
        subst (λ m. slice_index xs k < slice_index xs m) next (h.in_order k (omega (arith, within)))

-- the key of a row has the cells in the key columns alone
key_of_cells : (a n : ℕ) (cells rest : List (List ℕ)) → a + n ≤ length cells → row_key (range_with_len a n) cells ≡ row_key (range_with_len a n) (cells ++ rest)
unfolding row_key
key_of_cells a zero cells rest within = refl
key_of_cells a (suc n) cells rest within =
    ap (λ c. escaped c ++ row_key (range_with_len (a + 1) n) cells) (sym (get_or_append_left cells rest [] a (omega (arith, within))))
    ∙ ap (λ l. escaped (get_or (cells ++ rest) a []) ++ l) (key_of_cells (a + 1) n cells rest (omega (arith, within)))

-- so a document is in a part where its row is
row_in : (part : PartNumber) (keys : List Path) (line : List ℕ) → is_in (Some part) keys (tree_of line) ≡ has_row part (range_with_len 0 (length keys)) (document_row keys line)
row_in part keys line =
    let cells = key_cells keys (tree_of line) in
    let count : length cells ≡ length keys = length-map keys (λ path. cell_of (part_at path (tree_of line))) in
    ap (in_part part) (key_of_cells 0 (length keys) cells (line ∷ []) (omega (arith, count)))

-- the rows of the numbers that are kept
rows_kept : (row : List ℕ → List (List ℕ)) (line : ℕ → List ℕ) (p : List (List ℕ) → Bool) (q : ℕ → Bool) → ((n : ℕ) → q n ≡ p (row (line n)))
    → (xs : List ℕ) → map row (map line (filter q xs)) ≡ filter p (map row (map line xs))
rows_kept row line p q same [] = refl
rows_kept row line p q same (x ∷ xs) = at (q x) (p (row (line x))) (same x) (rows_kept row line p q same xs)
  where
    at : (b c : Bool) → b ≡ c → map row (map line (filter q xs)) ≡ filter p (map row (map line xs))
        → map row (map line (cond b (x ∷ filter q xs) (filter q xs))) ≡ cond c (row (line x) ∷ filter p (map row (map line xs))) (filter p (map row (map line xs)))
    at true true e ih = ap (λ l. row (line x) ∷ l) ih
    at false false e ih = ih
    at true false e ih = absurd (cc e)
    at false true e ih = absurd (cc e)

-- which lines are documents is the same of all parts
same_document : (reading other : Reading) (keys : List Path) (line : List ℕ) → reading.null_keys ≡ other.null_keys → IsDocument reading keys line → IsDocument other keys line
same_document reading other keys line same d = record {
  utf8 = d.utf8;
  members = d.members;
  json = d.json;
  unique = d.unique;
  narrow = d.narrow;
  keys_there = λ strict. d.keys_there (same ∙ strict);
}

pub keeps_documents : KeepsDocuments
keeps_documents text whole some part keys t u numbers kept skipped others none there same all h =
    let lines = lines_of text in
    let keeps : ℕ → Bool = λ n. is_in (Some part) keys (tree_of (numbered_line lines n)) in
    let number : (n : ℕ) → IsNumberOf (IsWanted some keys) lines n ↔ (IsNumberOf (IsWanted whole keys) lines n × (keeps n ≡ true)) = λ n. (
      λ is. (
        (is.0, record { document = same_document some whole keys (numbered_line lines n) (sym same) is.1.document; in_part = ap (λ p. is_in p keys (tree_of (numbered_line lines n))) none }),
        ap (λ p. is_in p keys (tree_of (numbered_line lines n))) (sym there) ∙ is.1.in_part,
      ),
      λ is. (
        is.0.0,
        record { document = same_document whole some keys (numbered_line lines n) same is.0.1.document; in_part = ap (λ p. is_in p keys (tree_of (numbered_line lines n))) there ∙ is.1 },
      ),
    ) in
    let bad : (n : ℕ) → n < suc (length lines) → IsNumberOf (λ line. ¬ IsDocument some keys line) lines n ↔ IsNumberOf (λ line. ¬ IsDocument whole keys line) lines n = λ n low. (
      λ is. (is.0, λ d. is.1 (same_document whole some keys (numbered_line lines n) same d)),
      λ is. (is.0, λ d. is.1 (same_document some whole keys (numbered_line lines n) (sym same) d)),
    ) in
    let kept_are : kept ≡ filter keeps numbers =
    one_listing (IsNumberOf (IsWanted some keys) lines) (suc (length lines)) kept (filter keeps numbers) h.numbered.documents
    (filter_listed (IsNumberOf (IsWanted whole keys) lines) (IsNumberOf (IsWanted some keys) lines) keeps (suc (length lines)) numbers all.numbered.documents number) in
    let rows = rows_kept (document_row keys) (numbered_line lines) (has_row part (range_with_len 0 (length keys))) keeps (λ n. row_in part keys (numbered_line lines n)) numbers in (
      kept_are,
      h.table.rows ∙ (ap (λ ns. map (document_row keys) (map (numbered_line lines) ns)) kept_are ∙ (rows ∙ ap (filter (has_row part (range_with_len 0 (length keys)))) (sym all.table.rows))),
      one_listing (IsNumberOf (λ line. ¬ IsDocument whole keys line) lines) (suc (length lines)) others skipped
          (listed_as (IsNumberOf (λ line. ¬ IsDocument some keys line) lines) (IsNumberOf (λ line. ¬ IsDocument whole keys line) lines) (suc (length lines)) others bad h.numbered.others) all.numbered.others,
    )
