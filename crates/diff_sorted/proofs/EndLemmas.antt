-- A report after the last row.
use Rattle.std.proofs.Common.{◌≡◌, ◌∙◌, ◌+◌, ℕ, List, ◌++◌, length, map, take, ap, arith, sym, subst, refl}
use Rattle.std.proofs.lemmas.List.{length-map}
use Rattle.std.proofs.lemmas.Bool.Decides.{nat_tests}
use Rattle.std.specs.List.{concat, flat_map}
use Rattle.std.specs.Prelude.{◌==◌, ◌&&◌}
use Rattle.diff_keys.specs.declared.matching.Matching.{Matching}
use Rattle.diff_merge.specs.Rows.{Seen}
use Rattle.diff_report.proofs.LineLemmas.{first_of_one}
use Rattle.diff_report.specs.declared.sides.Sides.{Sides}
use Rattle.diff_tables.specs.declared.compare.Comparison.{Comparison}
use Rattle.diff_sorted.specs.Lines.{HasLines}
use Rattle.diff_sorted.specs.Ends.{IsToldAs}
use Rattle.diff_sorted.specs.Told.{Begins, Tells}
use Rattle.diff_sorted.specs.declared.lines.Lines.{Lines}
use Rattle.diff_sorted.specs.declared.report.SortedReport.{SortedReport}

begins_itself : (m : Matching) → Begins m m
begins_itself m = record { left = λ k within. refl; right = λ k within. refl }

-- what a report tells of a comparison
pub tells_all : (r : SortedReport) (left_rows right_rows : List Seen) (s : Sides) (c : Comparison) → IsToldAs r left_rows right_rows s c → Tells r s c.matching c.matching c.changed.items
tells_all r left_rows right_rows s c h = subst (λ places. Tells r s c.matching c.matching places) (sym h.changed) (h.told.told s c.matching h.frame h.left h.right (begins_itself c.matching))

-- how many lines of a kind there are
pub count_is : {X : Type 0} (f : X → List ℕ) (xs : List X) (limit : ℕ) (l : Lines) → HasLines limit (map f xs) l → l.count ≡ length xs
count_is f xs limit l h = h.count ∙ length-map xs f

-- lines that are written after a text
pub first_written : {X : Type 0} (f : X → List ℕ) (xs : List X) (room : ℕ) (old lines new : List ℕ) → lines ≡ concat (take room (map f xs)) → new ≡ old ++ lines → new ≡ old ++ flat_map f (take room xs)
first_written f xs room old lines new is written = written ∙ ap (λ l. old ++ l) (is ∙ first_of_one f room xs)

-- a sum of three is 0 where each of them is
pub none_of : (a b c : ℕ) → (a + b + c == 0) ≡ ((a == 0) && (b == 0) && (c == 0))
none_of a b c = grind (arith, nat_tests)
