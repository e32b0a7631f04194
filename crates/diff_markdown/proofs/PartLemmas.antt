-- Members and items, written one after another.
use Rattle.std.proofs.Common.{◌≡◌, ◌<◌, ◌≤◌, ◌+◌, ℕ, List, ◌++◌, length, get_or, drop, ap, sym, ◌∙◌}
use Rattle.std.proofs.lemmas.List.{append_assoc, append-nil}
use Rattle.std.proofs.Math.ListN.{drop_of_length-le}
use Rattle.std.specs.Prelude.{codes}
use Rattle.json.specs.Value.{items_view, members_view, value_view}
use Rattle.json.specs.declared.value.Value.{Value}
use Rattle.diff_lines.specs.Parts.{string_at}
use Rattle.diff_lines.specs.PartLaws.{Pair, first_of_rest}
use Rattle.diff_markdown.specs.Cells.{pair_cell, pairs_after}
use Rattle.diff_markdown.specs.Rows.{change_row, item_rows, member_rows}
use Rattle.diff_markdown.proofs.TextLemmas.{appended}

-- one text more, of what is still to be written
pub one_written : (all now after text rest : List ℕ) → now ++ (text ++ rest) ≡ all → after ≡ now ++ text → after ++ rest ≡ all
one_written all now after text rest e a = ap (λ l. l ++ rest) a ∙ append_assoc now text rest ∙ e

-- one member more
pub pair_written : {A : Type 0} (all now gapped after gap : List ℕ) (ms : List (Pair A)) (i : ℕ) (m : Pair A) → i < length ms → m ≡ get_or ms i m
    → now ++ pairs_after gap (members_view (drop i ms)) ≡ all → gapped ≡ now ++ gap → after ≡ gapped ++ pair_cell m.0.now (value_view m.1)
    → after ++ pairs_after (codes ", ") (members_view (drop (i + 1) ms)) ≡ all
pair_written all now gapped after gap ms i m within is e g a =
    one_written all now after (gap ++ pair_cell m.0.now (value_view m.1)) _ (ap (λ l. now ++ pairs_after gap (members_view l)) (sym (first_of_rest ms i m within is)) ∙ e)
    (appended now gap (pair_cell m.0.now (value_view m.1)) gapped after g a)

-- one row more
pub member_row_written : {A : Type 0} (all now after name : List ℕ) (ms : List (Pair A)) (i : ℕ) (m : Pair A) → i < length ms → m ≡ get_or ms i m
    → now ++ member_rows name (members_view (drop i ms)) ≡ all → after ≡ now ++ change_row name m.0.now (value_view m.1)
    → after ++ member_rows name (members_view (drop (i + 1) ms)) ≡ all
member_row_written all now after name ms i m within is e a =
    one_written all now after _ _ (ap (λ l. now ++ member_rows name (members_view l)) (sym (first_of_rest ms i m within is)) ∙ e) a

pub item_row_written : {A : Type 0} (all now after name path : List ℕ) (js : List (Value A)) (i : ℕ) (j : Value A) → i < length js → j ≡ get_or js i j
    → now ++ item_rows name (items_view (drop i js)) ≡ all → path ≡ string_at (codes "path") (value_view j) → after ≡ now ++ change_row name path (value_view j)
    → after ++ item_rows name (items_view (drop (i + 1) js)) ≡ all
item_row_written all now after name path js i j within is e p a =
    one_written all now after _ _ (ap (λ l. now ++ item_rows name (items_view l)) (sym (first_of_rest js i j within is)) ∙ e)
    (a ∙ ap (λ s. now ++ change_row name s (value_view j)) p)

-- after the last one nothing is still to be written
pub all_pairs : {A : Type 0} (all now gap : List ℕ) (ms : List (Pair A)) (i : ℕ) → length ms ≤ i → now ++ pairs_after gap (members_view (drop i ms)) ≡ all → now ≡ all
all_pairs all now gap ms i past e = sym (append-nil now) ∙ ap (λ l. now ++ pairs_after gap (members_view l)) (sym (drop_of_length-le ms past)) ∙ e

pub all_member_rows : {A : Type 0} (all now name : List ℕ) (ms : List (Pair A)) (i : ℕ) → length ms ≤ i → now ++ member_rows name (members_view (drop i ms)) ≡ all → now ≡ all
all_member_rows all now name ms i past e = sym (append-nil now) ∙ ap (λ l. now ++ member_rows name (members_view l)) (sym (drop_of_length-le ms past)) ∙ e

pub all_item_rows : {A : Type 0} (all now name : List ℕ) (js : List (Value A)) (i : ℕ) → length js ≤ i → now ++ item_rows name (items_view (drop i js)) ≡ all → now ≡ all
all_item_rows all now name js i past e = sym (append-nil now) ∙ ap (λ l. now ++ item_rows name (items_view l)) (sym (drop_of_length-le js past)) ∙ e
