-- The rules that say which differences between two JSON values are reported.
--
-- There are three differences between {"id": 1, "at": {"day": 3}, "note": null} and
-- {"id": 2, "at": {"day": 4}}. Where id is ignored and a missing part counts as null, only at.day
-- is reported. Where only at is asked for, at.day is reported. Where only at.day is asked for, it
-- is reported, and so would be an at that only one side has. Where a tolerance of 1 is set at id,
-- only at.day and note are reported.
use Rattle.std.specs.List.{filter, list_any}
use Rattle.std.specs.Prelude.{Bool, true, false, not, ◌&&◌, ◌||◌, List, [], ◌∷◌, Option, Some, None}
use Rattle.std.specs.Prelude.{IfSome, ⊤}
use Rattle.json.specs.Json.{Json, null, number}
use Rattle.json_decimals.specs.Decimals.{decimal_of}
use Rattle.json_decimals.specs.Texts.{HasWideExponent}
use Rattle.json_paths.specs.Paths.{Path}
use Rattle.json_paths.specs.Patterns.{Pattern, begins, leads_to}
use Rattle.json_tolerances.specs.Closeness.{is_close}
use Rattle.json_tolerances.specs.declared.closeness.Margin.{Margin}
use Rattle.json_changes.specs.Differences.{Difference, differences}

-- a pattern, and the margin within which the numbers that it names may differ
pub record Tolerance : Type 0 where
  pub pattern : Pattern
  pub margin : Margin

-- the parts whose differences are never reported, the parts whose differences alone are reported,
-- whether a missing part is the same as null, and the tolerances for numbers
pub record Rules : Type 0 where
  pub ignored : List Pattern
  pub only : List Pattern
  pub missing_is_null : Bool
  pub tolerances : List Tolerance

-- no rules: each difference is reported
abbrev pub no_rules : Rules
no_rules = record { ignored = []; only = []; missing_is_null = false; tolerances = [] }

-- a path leads to a part that one of some patterns names, or to a part within such a part
abbrev pub is_named : List Pattern → Path → Bool
is_named patterns path = list_any (λ p. begins p path) patterns

-- a path leads to a part around those that one of some patterns names
abbrev pub has_named : List Pattern → Path → Bool
has_named patterns path = list_any (λ p. leads_to p path) patterns

-- a path leads to a part that is asked for: one that is named, one within it, or one around it;
-- without patterns each part is asked for
abbrev pub is_asked_for : List Pattern → Path → Bool
is_asked_for [] path = true
is_asked_for (p ∷ ps) path = is_named (p ∷ ps) path || has_named (p ∷ ps) path

-- no part, or null
abbrev pub is_nothing : Option Json → Bool
is_nothing None = true
is_nothing (Some null) = true
is_nothing (Some j) = false

-- two parts are numbers that lie within a margin
abbrev pub are_close : Margin → Option Json → Option Json → Bool
are_close m (Some (number s)) (Some (number t)) = is_close m (decimal_of s) (decimal_of t)
are_close m left right = false

-- a tolerance allows a difference
abbrev pub allows : Tolerance → Difference → Bool
allows t d = begins t.pattern d.path && are_close t.margin d.left d.right

-- one of some tolerances allows a difference
abbrev pub is_tolerated : List Tolerance → Difference → Bool
is_tolerated ts d = list_any (λ t. allows t d) ts

-- a difference is reported under rules
abbrev pub is_told : Rules → Difference → Bool
is_told rules d =
    not (is_named rules.ignored d.path) && is_asked_for rules.only d.path
    && not (rules.missing_is_null && is_nothing d.left && is_nothing d.right)
    && not (is_tolerated rules.tolerances d)

-- the differences that are reported under rules between two values
abbrev pub differences_told : Rules → Json → Json → List Difference
differences_told rules j k = filter (is_told rules) (differences j k)

-- neither of two numbers has a wide exponent
abbrev pub AreNarrow : Json → Json → Type 0
AreNarrow (number s) (number t) = (¬ HasWideExponent s) × (¬ HasWideExponent t)
AreNarrow j k = ⊤

-- if two parts are numbers, neither has a wide exponent
abbrev pub PartsAreNarrow : Option Json → Option Json → Type 0
PartsAreNarrow left right = IfSome left (λ j. IfSome right (λ k. AreNarrow j k))
