-- A report before the first row.
use Rattle.std.proofs.Common.{◌≡◌, ℕ, List, [], length, map, arith, sym, subst, refl}
use Rattle.diff_keys.specs.Rising.{ListsRising}
use Rattle.diff_keys.specs.RisingLaws.{none_listed}
use Rattle.diff_keys.specs.declared.matching.Matching.{Matching}
use Rattle.diff_merge.specs.Merging.{IsEmpty}
use Rattle.diff_tables.specs.Comparison.{ArePairs, IsDifferent}
use Rattle.diff_sorted.specs.Lines.{HasLines}
use Rattle.diff_sorted.specs.declared.lines.Lines.{Lines}

pub none_paired : (m : Matching) → IsEmpty m → ArePairs [] [] m.left_rows.items m.right_rows.items
none_paired m e = rw (e.left_rows, e.right_rows) (record { one_length = refl; left_within = λ k within. absurd (omega (arith, within)); right_within = λ k within. absurd (omega (arith, within)) })

pub none_listed_yet : (m : Matching) → IsEmpty m → ListsRising (IsDifferent [] [] m.left_rows.items m.right_rows.items) (length m.left_rows.items) []
none_listed_yet m e = rw (e.left_rows, e.right_rows) (none_listed (IsDifferent [] [] [] []))

pub none_told : {X : Type 0} (f : X → List ℕ) (xs : List X) (limit : ℕ) (l : Lines) → xs ≡ [] → HasLines limit [] l → HasLines limit (map f xs) l
none_told f xs limit l is h = subst (λ ys. HasLines limit (map f ys) l) (sym is) h
