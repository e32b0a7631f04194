-- Laws of differences.
use Rattle.std.specs.List.{All, Contains, AllPairs}
use Rattle.std.specs.Prelude.{◌≡◌, ◌↔◌, ◌⊎◌, List, [], ◌∷◌, Option, Some, None, ⊤, IsTrue}
use Rattle.json.specs.Json.{Json, number, array, object}
use Rattle.json.specs.Strict.{HasUniqueKeys}
use Rattle.json_normal.specs.Same.{AreSame}
use Rattle.json_paths.specs.Paths.{Path, part_at}
use Rattle.json_changes.specs.Differences.{Difference, differences}
use Rattle.json_changes.specs.Rules.{Rules, Tolerance, differences_told, is_tolerated, no_rules}

-- there is no difference where two values are the same, and only there
abbrev pub NoneWhereSame : Type 0
NoneWhereSame = (j k : Json) → HasUniqueKeys j → HasUniqueKeys k → (differences j k ≡ [])
    ↔ AreSame j k

-- the path of a difference leads to its part on each side, and to no part on a side where the
-- difference has none
pub record LeadsToParts (j k : Json) (d : Difference) : Type 0 where
  pub left : part_at d.path j ≡ d.left
  pub right : part_at d.path k ≡ d.right

-- the path of each difference leads to its parts
abbrev pub PathsLead : Type 0
PathsLead = (j k : Json) → HasUniqueKeys j → HasUniqueKeys k
    → All (LeadsToParts j k) (differences j k)

-- two parts are the same, or both are missing
abbrev pub PartsAreSame : Option Json → Option Json → Type 0
PartsAreSame None None = ⊤
PartsAreSame (Some j) (Some k) = AreSame j k
PartsAreSame o p = ⊥

-- the parts of each difference are not the same
abbrev pub EachIsReal : Type 0
EachIsReal = (j k : Json) → HasUniqueKeys j → HasUniqueKeys k
    → All (λ d. ¬ PartsAreSame d.left d.right) (differences j k)

-- two arrays or two objects, whose parts can be compared
abbrev pub HaveParts : Json → Json → Type 0
HaveParts (array js) (array ks) = ⊤
HaveParts (object ms) (object ns) = ⊤
HaveParts j k = ⊥

-- there are two values, and their parts can be compared
abbrev pub CanGoOn : Option Json → Option Json → Type 0
CanGoOn (Some j) (Some k) = HaveParts j k
CanGoOn o p = ⊥

-- no difference is between two arrays or between two objects: it is between their parts
abbrev pub EachIsSmallest : Type 0
EachIsSmallest = (j k : Json) → HasUniqueKeys j → HasUniqueKeys k
    → All (λ d. ¬ CanGoOn d.left d.right) (differences j k)

-- two paths are equal, or one of them begins with the other
abbrev pub IsAlong : Path → Path → Type 0
IsAlong [] q = ⊤
IsAlong (s ∷ p) [] = ⊤
IsAlong (s ∷ p) (t ∷ q) = (s ≡ t) × IsAlong p q

-- the path of one of the differences equals this path, or one of the two begins with the other
abbrev pub OneIsAlong : Path → List Difference → Type 0
OneIsAlong p [] = ⊥
OneIsAlong p (d ∷ ds) = IsAlong d.path p ⊎ OneIsAlong p ds

-- there is a difference at a path, above it or below it, if the parts at this path are not the same
abbrev pub NoneIsMissed : Type 0
NoneIsMissed = (j k : Json) (p : Path) → ¬ PartsAreSame (part_at p j) (part_at p k)
    → OneIsAlong p (differences j k)

-- no path of a difference equals the path of another difference, or begins with it
abbrev pub PathsPart : Type 0
PathsPart = (j k : Json) → HasUniqueKeys j → HasUniqueKeys k
    → AllPairs (λ d e. ¬ IsAlong d.path e.path) (differences j k)

-- with no rules each difference is reported
abbrev pub AllToldWithoutRules : Type 0
AllToldWithoutRules = (j k : Json) → differences_told no_rules j k ≡ differences j k

-- each difference that is reported under rules is also a difference without them
abbrev pub ToldAreDifferences : Type 0
ToldAreDifferences = (rules : Rules) (j k : Json)
    → All (Contains (differences j k)) (differences_told rules j k)

-- nothing is reported where two values are the same
abbrev pub NothingToldWhereSame : Type 0
NothingToldWhereSame = (rules : Rules) (j k : Json) → HasUniqueKeys k → AreSame j k
    → differences_told rules j k ≡ []

-- two parts are numbers
abbrev pub AreNumbers : Option Json → Option Json → Type 0
AreNumbers (Some (number s)) (Some (number t)) = ⊤
AreNumbers o p = ⊥

-- tolerances allow only differences between two numbers
abbrev pub OnlyNumbersTolerated : Type 0
OnlyNumbersTolerated = (ts : List Tolerance) (d : Difference) → IsTrue (is_tolerated ts d)
    → AreNumbers d.left d.right

-- rules without their tolerances
abbrev pub strict : Rules → Rules
strict rules = record rules { tolerances = [] }

-- each difference that is reported under rules is also reported under them without their tolerances
abbrev pub TolerancesAddNone : Type 0
TolerancesAddNone = (rules : Rules) (j k : Json)
    → All (Contains (differences_told (strict rules) j k)) (differences_told rules j k)
