-- The numbers of lines that are meant, line by line.
use Rattle.std.proofs.Common.{◌≡◌, ◌<◌, ◌-◌, ◌∙◌, ◌↔◌, ℕ, suc, false, true, List, [], ◌∷◌, ◌++◌, length, get_or, ap, sym, arith, subst, length-append}
use Rattle.std.proofs.lemmas.List.{ext_get_or, get_or-map, get_or_append_left, get_or_push, length-map, map-append}
use Rattle.std.proofs.lemmas.List.Elements.{All-nil, All-push, Contains-get_or}
use Rattle.diff_keys.specs.RisingLaws.{listed_as, one_listed, one_passed}
use Rattle.json_paths.specs.Paths.{Path}
use Rattle.document_rows.specs.Documents.{IsDocument}
use Rattle.document_rows.specs.Numbers.{AreNumbered, AreNumbersOf, IsNumberOf, numbered_line, numbered_lines}
use Rattle.document_rows.specs.Parts.{IsWanted}
use Rattle.document_rows.specs.declared.reading.Reading.{Reading}

-- of no lines none is meant
pub no_numbers : (P : List ℕ → Type 0) → AreNumbersOf P [] []
no_numbers P = record {
  all = λ i. (λ there. absurd (let (k, inside, is) = there in omega (arith, inside)), λ h. absurd (let low : i < 1 = h.0 in let high : 0 < i = h.1.0 in omega (arith, low, high)));
  in_order = λ k within. absurd (omega (arith, within));
}

-- a line of a number is the same where there is one line more
same_line : (lines : List (List ℕ)) (line : List ℕ) (n : ℕ) → 0 < n → n < suc (length lines) → numbered_line (lines ++ line ∷ []) n ≡ numbered_line lines n
same_line lines line n some low = get_or_append_left lines (line ∷ []) [] (n - 1) (omega (arith, some, low))

-- the line of the last number
last_line : (lines : List (List ℕ)) (line : List ℕ) → numbered_line (lines ++ line ∷ []) (suc (length lines)) ≡ line
last_line lines line = get_or_push lines line [] (suc (length lines) - 1) (omega arith)

-- so the same lines are meant
same_numbers : (P : List ℕ → Type 0) (lines : List (List ℕ)) (line : List ℕ) (n : ℕ) → n < suc (length lines) → IsNumberOf P lines n ↔ IsNumberOf P (lines ++ line ∷ []) n
same_numbers P lines line n low = (
  λ h. (h.0, subst P (sym (same_line lines line n h.0 low)) h.1),
  λ h. (h.0, subst P (same_line lines line n h.0 low) h.1),
)

-- how many lines there are with one more
count_more : (lines : List (List ℕ)) (line : List ℕ) → suc (length (lines ++ line ∷ [])) ≡ suc (suc (length lines))
count_more lines line = omega (arith, length-append lines (line ∷ []))

-- one more that is meant
pub number_more : (P : List ℕ → Type 0) (lines : List (List ℕ)) (line : List ℕ) (numbers : List ℕ) → AreNumbersOf P lines numbers → P line
    → AreNumbersOf P (lines ++ line ∷ []) (numbers ++ suc (length lines) ∷ [])
number_more P lines line numbers h meant =
    let here : 0 < suc (length lines) = omega arith in
    one_listed (IsNumberOf P (lines ++ line ∷ [])) (suc (length lines)) (suc (length (lines ++ line ∷ []))) numbers
    (listed_as (IsNumberOf P lines) (IsNumberOf P (lines ++ line ∷ [])) (suc (length lines)) numbers (same_numbers P lines line) h)
    (here, subst P (sym (last_line lines line)) meant) (count_more lines line)

-- one more that is not
pub number_passed : (P : List ℕ → Type 0) (lines : List (List ℕ)) (line : List ℕ) (numbers : List ℕ) → AreNumbersOf P lines numbers → ¬ (P line)
    → AreNumbersOf P (lines ++ line ∷ []) numbers
number_passed P lines line numbers h other =
    one_passed (IsNumberOf P (lines ++ line ∷ [])) (suc (length lines)) (suc (length (lines ++ line ∷ []))) numbers
    (listed_as (IsNumberOf P lines) (IsNumberOf P (lines ++ line ∷ [])) (suc (length lines)) numbers (same_numbers P lines line) h)
    (λ there. other (subst P (last_line lines line) there.1)) (count_more lines line)

-- the lines of numbers are the same where there is one line more
pub same_lines : (P : List ℕ → Type 0) (lines : List (List ℕ)) (line : List ℕ) (numbers : List ℕ) → AreNumbersOf P lines numbers
    → numbered_lines (lines ++ line ∷ []) numbers ≡ numbered_lines lines numbers
same_lines P lines line numbers h =
    ext_get_or [] (numbered_lines (lines ++ line ∷ []) numbers) (numbered_lines lines numbers)
    (length-map numbers (numbered_line (lines ++ line ∷ [])) ∙ sym (length-map numbers (numbered_line lines))) at
  where
    at : (i : ℕ) → i < length (numbered_lines (lines ++ line ∷ []) numbers) → get_or (numbered_lines (lines ++ line ∷ []) numbers) i [] ≡ get_or (numbered_lines lines numbers) i []
    at i within =
        let inside : i < length numbers = omega (arith, within, length-map numbers (numbered_line (lines ++ line ∷ []))) in
        let n = get_or numbers i 0 in
        let is = (h.all n).0 (Contains-get_or numbers i 0 inside) in
        get_or-map (numbered_line (lines ++ line ∷ [])) numbers i 0 [] inside
        ∙ (same_line lines line n is.1.0 is.0 ∙ sym (get_or-map (numbered_line lines) numbers i 0 [] inside))

-- and with that line after them where its number is one more
pub lines_more : (P : List ℕ → Type 0) (lines : List (List ℕ)) (line : List ℕ) (numbers : List ℕ) → AreNumbersOf P lines numbers
    → numbered_lines (lines ++ line ∷ []) (numbers ++ suc (length lines) ∷ []) ≡ numbered_lines lines numbers ++ line ∷ []
lines_more P lines line numbers h =
    map-append (numbered_line (lines ++ line ∷ [])) numbers (suc (length lines) ∷ [])
    ∙ (ap (λ l. l ++ numbered_line (lines ++ line ∷ []) (suc (length lines)) ∷ []) (same_lines P lines line numbers h)
    ∙ ap (λ l. numbered_lines lines numbers ++ l ∷ []) (last_line lines line))

-- no lines
pub none_numbered : (reading : Reading) (keys : List Path) → AreNumbered reading keys [] [] []
none_numbered reading keys = record {
  documents = no_numbers (IsWanted reading keys);
  others = no_numbers (λ line. ¬ IsDocument reading keys line);
  none_skipped = λ strict. All-nil (IsDocument reading keys);
}

-- a document more
pub document_numbered : (reading : Reading) (keys : List Path) (lines : List (List ℕ)) (line : List ℕ) (numbers skipped : List ℕ) → AreNumbered reading keys lines numbers skipped
    → IsWanted reading keys line → AreNumbered reading keys (lines ++ line ∷ []) (numbers ++ suc (length lines) ∷ []) skipped
document_numbered reading keys lines line numbers skipped h wanted = record {
  documents = number_more (IsWanted reading keys) lines line numbers h.documents wanted;
  others = number_passed (λ l. ¬ IsDocument reading keys l) lines line skipped h.others (λ other. other wanted.document);
  none_skipped = λ strict. All-push (IsDocument reading keys) lines line (h.none_skipped strict) wanted.document;
}

-- a document more that is in another part
pub passed_numbered : (reading : Reading) (keys : List Path) (lines : List (List ℕ)) (line : List ℕ) (numbers skipped : List ℕ) → AreNumbered reading keys lines numbers skipped
    → IsDocument reading keys line → ¬ IsWanted reading keys line → AreNumbered reading keys (lines ++ line ∷ []) numbers skipped
passed_numbered reading keys lines line numbers skipped h document unwanted = record {
  documents = number_passed (IsWanted reading keys) lines line numbers h.documents unwanted;
  others = number_passed (λ l. ¬ IsDocument reading keys l) lines line skipped h.others (λ other. other document);
  none_skipped = λ strict. All-push (IsDocument reading keys) lines line (h.none_skipped strict) document;
}

-- a line more that is no document
pub other_numbered : (reading : Reading) (keys : List Path) (lines : List (List ℕ)) (line : List ℕ) (numbers skipped : List ℕ) → AreNumbered reading keys lines numbers skipped
    → reading.skip_bad ≡ true → ¬ IsDocument reading keys line → AreNumbered reading keys (lines ++ line ∷ []) numbers (skipped ++ suc (length lines) ∷ [])
other_numbered reading keys lines line numbers skipped h passes other = record {
  documents = number_passed (IsWanted reading keys) lines line numbers h.documents (λ wanted. other wanted.document);
  others = number_more (λ l. ¬ IsDocument reading keys l) lines line skipped h.others other;
  none_skipped = λ strict. absurd (let both : false ≡ true = sym strict ∙ passes in cc both);
}
