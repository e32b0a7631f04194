-- Members and items, written one after another.
use Rattle.std.proofs.Common.{◌≡◌, ◌<◌, ◌≤◌, ◌+◌, ℕ, List, [], ◌∷◌, ◌++◌, length, get_or, drop, Some, arith, refl, ap, sym, ◌∙◌}
use Rattle.std.proofs.lemmas.List.{append-nil}
use Rattle.std.proofs.Math.ListN.{drop_of_length-le}
use Rattle.std.specs.Prelude.{codes}
use Rattle.json.specs.Value.{items_view, members_view, value_view}
use Rattle.json.specs.declared.value.Value.{Value}
use Rattle.diff_aligned.specs.Counts.{column_words, pair_words}
use Rattle.diff_aligned.specs.Rows.{Cells, change_row, item_rows, member_rows}
use Rattle.diff_aligned.specs.Texts.{pair_text, pairs_after}
use Rattle.diff_aligned.specs.declared.rows.Mark.{Mark}
use Rattle.diff_aligned.specs.declared.rows.Mark.TheVariants.{Again}
use Rattle.diff_lines.specs.PartLaws.{Pair, first_of_rest}
use Rattle.diff_lines.specs.Parts.{string_at}
use Rattle.diff_aligned.proofs.TextLemmas.{appended, one_written}

-- one member more
pub pair_written : {A : Type 0} (all now gapped after gap : List ℕ) (ms : List (Pair A)) (i : ℕ) (m : Pair A) → i < length ms → m ≡ get_or ms i m
    → now ++ pairs_after gap (members_view (drop i ms)) ≡ all → gapped ≡ now ++ gap → after ≡ gapped ++ pair_text m.0.now (value_view m.1)
    → after ++ pairs_after (codes ",") (members_view (drop (i + 1) ms)) ≡ all
pair_written all now gapped after gap ms i m within is e g a =
    one_written all now after (gap ++ pair_text m.0.now (value_view m.1)) _ (ap (λ l. now ++ pairs_after gap (members_view l)) (sym (first_of_rest ms i m within is)) ∙ e)
    (appended now gap (pair_text m.0.now (value_view m.1)) gapped after g a)

-- one row more
pub member_row_written : {A : Type 0} (all now after : List Cells) (mark : Mark) (key : List ℕ) (ms : List (Pair A)) (i : ℕ) (m : Pair A) → i < length ms → m ≡ get_or ms i m
    → now ++ member_rows mark key (members_view (drop i ms)) ≡ all → after ≡ now ++ change_row mark key m.0.now (value_view m.1) ∷ []
    → after ++ member_rows Again [] (members_view (drop (i + 1) ms)) ≡ all
member_row_written all now after mark key ms i m within is e a =
    one_written all now after (change_row mark key m.0.now (value_view m.1) ∷ []) _ (ap (λ l. now ++ member_rows mark key (members_view l)) (sym (first_of_rest ms i m within is)) ∙ e) a

pub item_row_written : {A : Type 0} (all now after : List Cells) (mark : Mark) (key path : List ℕ) (js : List (Value A)) (i : ℕ) (j : Value A) → i < length js → j ≡ get_or js i j
    → now ++ item_rows mark key (items_view (drop i js)) ≡ all → path ≡ string_at (codes "path") (value_view j) → after ≡ now ++ change_row mark key path (value_view j) ∷ []
    → after ++ item_rows Again [] (items_view (drop (i + 1) js)) ≡ all
item_row_written all now after mark key path js i j within is e p a =
    one_written all now after (change_row mark key (string_at (codes "path") (value_view j)) (value_view j) ∷ []) _
    (ap (λ l. now ++ item_rows mark key (items_view l)) (sym (first_of_rest js i j within is)) ∙ e) (a ∙ ap (λ s. now ++ change_row mark key s (value_view j) ∷ []) p)

-- one word more
pub pair_word_written : {A : Type 0} (all now after : List (List ℕ)) (ms : List (Pair A)) (i : ℕ) (m : Pair A) → i < length ms → m ≡ get_or ms i m
    → now ++ pair_words (members_view (drop i ms)) ≡ all → after ≡ now ++ pair_text m.0.now (value_view m.1) ∷ []
    → after ++ pair_words (members_view (drop (i + 1) ms)) ≡ all
pair_word_written all now after ms i m within is e a =
    one_written all now after (pair_text m.0.now (value_view m.1) ∷ []) _ (ap (λ l. now ++ pair_words (members_view l)) (sym (first_of_rest ms i m within is)) ∙ e) a

-- after the last one nothing is still to be written
pub all_pairs : {A : Type 0} (all now gap : List ℕ) (ms : List (Pair A)) (i : ℕ) → length ms ≤ i → now ++ pairs_after gap (members_view (drop i ms)) ≡ all → now ≡ all
all_pairs all now gap ms i past e = sym (append-nil now) ∙ ap (λ l. now ++ pairs_after gap (members_view l)) (sym (drop_of_length-le ms past)) ∙ e

pub all_member_rows : {A : Type 0} (all now : List Cells) (mark : Mark) (key : List ℕ) (ms : List (Pair A)) (i : ℕ) → length ms ≤ i → now ++ member_rows mark key (members_view (drop i ms)) ≡ all
    → now ≡ all
all_member_rows all now mark key ms i past e = sym (append-nil now) ∙ ap (λ l. now ++ member_rows mark key (members_view l)) (sym (drop_of_length-le ms past)) ∙ e

pub all_item_rows : {A : Type 0} (all now : List Cells) (mark : Mark) (key : List ℕ) (js : List (Value A)) (i : ℕ) → length js ≤ i → now ++ item_rows mark key (items_view (drop i js)) ≡ all
    → now ≡ all
all_item_rows all now mark key js i past e = sym (append-nil now) ∙ ap (λ l. now ++ item_rows mark key (items_view l)) (sym (drop_of_length-le js past)) ∙ e

pub all_pair_words : {A : Type 0} (all now : List (List ℕ)) (ms : List (Pair A)) (i : ℕ) → length ms ≤ i → now ++ pair_words (members_view (drop i ms)) ≡ all → now ≡ all
all_pair_words all now ms i past e = sym (append-nil now) ∙ ap (λ l. now ++ pair_words (members_view l)) (sym (drop_of_length-le ms past)) ∙ e

-- no column, and some
pub no_column_words : {A : Type 0} (ms : List (Pair A)) → length ms ≡ 0 → column_words (Some (members_view ms)) ≡ []
no_column_words [] e = refl
no_column_words (m ∷ ms) e = absurd (omega (arith, e))

pub some_column_words : {A : Type 0} (ms : List (Pair A)) → 0 < length ms → column_words (Some (members_view ms)) ≡ codes "By column:" ∷ pair_words (members_view ms)
some_column_words [] some = absurd (omega (arith, some))
some_column_words (m ∷ ms) some = refl
