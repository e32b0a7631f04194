-- Texts of paths and of differences, step by step.
use Rattle.std.proofs.Common.{◌≡◌, ◌<◌, ◌↔◌, ℕ, arith, Bool, true, false, if◌then◌else◌, List, [], ◌∷◌, ◌++◌, length, map, take, Option, ap, ap₂, sym, ◌∙◌, refl, append-nil, append_assoc}
use Rattle.std.proofs.lemmas.Bool.Decides.{nat_tests}
use Rattle.std.proofs.lemmas.List.{map-append}
use Rattle.std.proofs.lemmas.List.Elements.{filter-append}
use Rattle.std.specs.List.{filter}
use Rattle.std.specs.Prelude.{◌==◌, IsTrue}
use Rattle.json.specs.Json.{Json, string}
use Rattle.json.specs.Print.{print, print_from, quoted}
use Rattle.json.specs.Tree.{json_tokens}
use Rattle.json_paths.specs.Paths.{Path, Step}
use Rattle.json_paths.specs.declared.path.Step as declared
use Rattle.json_changes.specs.Differences.{Difference, apart, differences, inside}
use Rattle.json_changes.specs.Rules.{Rules, differences_told, is_told, no_rules}
use Rattle.json_changes.specs.Texts.{Told, at_path, change_view, told, told_at, trail_view}
use Rattle.json_changes.specs.declared.parts.Change.{Change}

-- the text of a string
pub printed_string : (s : List ℕ) → print (json_tokens (string s)) ≡ quoted s
unfolding print_from
printed_string s = append-nil (quoted s)

-- steps that are cut off after those that stood before
pub cut : (old now longer deep back : List declared.Step) (n : ℕ) → now ≡ old → n ≡ length now → take (length now) longer ≡ now → deep ≡ longer → back ≡ take n deep → back ≡ old
cut old now longer deep back n a b f d e = e ∙ ap (take n) d ∙ ap (λ m. take m longer) b ∙ f ∙ a

-- what was told one step further in than the steps before
pub told_deep : (rules : Rules) (old now longer : List declared.Step) (s : Step) (before after : List Told) (ds : List Difference)
    → now ≡ old → trail_view longer ≡ trail_view now ++ s ∷ [] → after ≡ before ++ told_at rules (trail_view longer) ds → after ≡ before ++ told_at rules (trail_view old ++ s ∷ []) ds
told_deep rules old now longer s before after ds a b e = e ∙ ap (λ p. before ++ told_at rules p ds) (b ∙ ap (λ steps. trail_view steps ++ s ∷ []) a)

-- differences at a path, one step further in
deeper : (trail : Path) (s : Step) (ds : List Difference) → map (at_path trail) (map (inside s) ds) ≡ map (at_path (trail ++ s ∷ [])) ds
deeper trail s [] = refl
deeper trail s (d ∷ ds) = ap₂ (λ p es. record { path = p; left = d.left; right = d.right } ∷ es) (sym (append_assoc trail (s ∷ []) d.path)) (deeper trail s ds)

-- what is told of differences one step further in
pub told_inside : (rules : Rules) (trail : Path) (s : Step) (ds : List Difference) → told_at rules trail (map (inside s) ds) ≡ told_at rules (trail ++ s ∷ []) ds
told_inside rules trail s ds = ap (λ es. map told (filter (is_told rules) es)) (deeper trail s ds)

-- what is told of differences in two parts
pub told_both : (rules : Rules) (trail : Path) (ds es : List Difference) → told_at rules trail (ds ++ es) ≡ told_at rules trail ds ++ told_at rules trail es
told_both rules trail ds es =
    ap (λ fs. map told (filter (is_told rules) fs)) (map-append (at_path trail) ds es)
    ∙ ap (map told) (filter-append (is_told rules) (map (at_path trail) ds) (map (at_path trail) es))
    ∙ map-append told (filter (is_told rules) (map (at_path trail) ds)) (filter (is_told rules) (map (at_path trail) es))

-- the difference of two parts at a path
abbrev pub here : Path → Option Json → Option Json → Difference
here trail left right = record { path = trail; left = left; right = right }

told_test : (rules : Rules) (trail : Path) (left right : Option Json)
    → told_at rules trail (apart left right ∷ []) ≡ map told (if is_told rules (here trail left right) then here trail left right ∷ [] else [])
told_test rules trail left right = ap (λ p. map told (filter (is_told rules) (here p left right ∷ []))) (append-nil trail)

pub told_one : (rules : Rules) (trail : Path) (left right : Option Json) → is_told rules (here trail left right) ≡ true → told_at rules trail (apart left right ∷ []) ≡ told (here trail left right) ∷ []
told_one rules trail left right e = told_test rules trail left right ∙ ap (λ b. map told (if b then here trail left right ∷ [] else [])) e

pub hidden_one : (rules : Rules) (trail : Path) (left right : Option Json) → is_told rules (here trail left right) ≡ false → told_at rules trail (apart left right ∷ []) ≡ []
hidden_one rules trail left right e = told_test rules trail left right ∙ ap (λ b. map told (if b then here trail left right ∷ [] else [])) e

-- differences that are told after others, those before them told first
pub joined : (rules : Rules) (trail : Path) (before after : List Told) (ds rest all : List Difference)
    → after ≡ before ++ told_at rules trail ds → all ≡ ds ++ rest → after ++ told_at rules trail rest ≡ before ++ told_at rules trail all
joined rules trail before after ds rest all a e =
    ap (λ ts. ts ++ told_at rules trail rest) a ∙ append_assoc before (told_at rules trail ds) (told_at rules trail rest)
    ∙ ap (λ ts. before ++ ts) (sym (told_both rules trail ds rest) ∙ ap (told_at rules trail) (sym e))

-- the same, where those told first lie one step further in
pub stepped : (rules : Rules) (trail : Path) (s : Step) (before after : List Told) (ds rest all : List Difference)
    → after ≡ before ++ told_at rules (trail ++ s ∷ []) ds → all ≡ map (inside s) ds ++ rest → after ++ told_at rules trail rest ≡ before ++ told_at rules trail all
stepped rules trail s before after ds rest all a e =
    joined rules trail before after (map (inside s) ds) rest all (a ∙ ap (λ ts. before ++ ts) (sym (told_inside rules trail s ds))) e

-- differences told in two parts
pub twice : (rules : Rules) (trail : Path) (before between after : List Told) (ds es all : List Difference)
    → between ≡ before ++ told_at rules trail ds → after ≡ between ++ told_at rules trail es → all ≡ ds ++ es → after ≡ before ++ told_at rules trail all
twice rules trail before between after ds es all a b e = b ∙ joined rules trail before between ds es all a e

-- differences of whole values
pub from_top : (ds : List Difference) → map (at_path []) ds ≡ ds
from_top [] = refl
from_top (d ∷ ds) = ap (λ es. d ∷ es) (from_top ds)

-- with no rules each difference is told
kept : (ds : List Difference) → filter (is_told no_rules) ds ≡ ds
kept [] = refl
kept (d ∷ ds) = ap (λ es. d ∷ es) (kept ds)

pub all_told : (j k : Json) → differences_told no_rules j k ≡ differences j k
all_told j k = kept (differences j k)

not_none : (n : ℕ) → 0 < n → (n == 0) ≡ false
not_none n h = grind (arith, nat_tests)

-- no change is listed just where none is told
pub none_listed : (changes : List Change) (ds : List Difference) (b : Bool) → map change_view changes ≡ map told ds → b ≡ (length changes == 0) → IsTrue b ↔ (ds ≡ [])
none_listed [] [] b all e = (λ _. refl, λ _. e)
none_listed [] (d ∷ ds) b all e = absurd (cc)
none_listed (c ∷ cs) [] b all e = absurd (cc)
none_listed (c ∷ cs) (d ∷ ds) b all e = (λ is. absurd (let some : b ≡ false = e ∙ not_none (length (c ∷ cs)) (omega arith) in cc), λ is. absurd (cc))
