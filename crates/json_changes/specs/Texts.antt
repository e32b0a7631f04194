-- The texts of paths and of differences.
--
-- The path to the price of the item at place 2 of the items is items[2].price. A name that is not
-- plain stands between quotes, with a dot before it in the front too: ."a.b"[0].c and items[2]."".
use Rattle.std.specs.Char.{is_ascii_alphanumeric}
use Rattle.std.specs.Fmt.{decimal}
use Rattle.std.specs.List.{filter, fold, list_all}
use Rattle.std.specs.Prelude.{ℕ, ◌==◌, Bool, not, ◌&&◌, ◌||◌, if◌then◌else◌, List, [], ◌∷◌, ◌++◌}
use Rattle.std.specs.Prelude.{length, map, Option, option_map}
use Rattle.json.specs.Json.{Json}
use Rattle.json.specs.Print.{quoted, print}
use Rattle.json.specs.Tree.{json_tokens}
use Rattle.json_paths.specs.PatternViews.{pattern_view, patterns_view}
use Rattle.json_paths.specs.Paths.{Step, name, place, Path}
use Rattle.json_paths.specs.Views.{step_view}
use Rattle.json_paths.specs.declared.path.Step as paths
use Rattle.json_changes.specs.Differences.{Difference, only_left, only_right}
use Rattle.json_changes.specs.Rules as specs
use Rattle.json_changes.specs.Rules.{is_told}
use Rattle.json_changes.specs.declared.parts.Change.{Change}
use Rattle.json_changes.specs.declared.parts.Side.{Side}
use Rattle.json_changes.specs.declared.parts.Side.TheVariants.{Left, Right}
use Rattle.json_changes.specs.declared.rules.Rules.{Rules}
use Rattle.json_changes.specs.declared.rules.Tolerance.{Tolerance}

-- a letter or a digit of ASCII, `_` or `-`
abbrev pub is_plain_byte : ℕ → Bool
is_plain_byte b = is_ascii_alphanumeric b || b == 95 || b == 45

-- a name that needs no quotes
abbrev pub is_plain : List ℕ → Bool
is_plain k = not (length k == 0) && list_all is_plain_byte k

-- a name, after the text of a path
abbrev pub name_text : List ℕ → List ℕ → List ℕ
name_text text k = if is_plain k then (if length text == 0 then k else 46 ∷ k) else 46 ∷ quoted k

-- the text of a path with one step more
abbrev pub with_step : List ℕ → Step → List ℕ
with_step text (name k) = text ++ name_text text k
with_step text (place i) = text ++ (91 ∷ decimal i ++ 93 ∷ [])

-- the text of a path that continues another one, whose text is given
abbrev pub path_from : List ℕ → Path → List ℕ
path_from = fold with_step

-- the text of a path
abbrev pub path_text : Path → List ℕ
path_text = path_from []

-- the text of a part: JSON with no space between its tokens, and with numbers as they are written
abbrev pub part_text : Json → List ℕ
part_text j = print (json_tokens j)

-- the texts of a difference
pub record Told : Type 0 where
  pub path : List ℕ
  pub left : Option (List ℕ)
  pub right : Option (List ℕ)

-- the texts of a difference
abbrev pub told : Difference → Told
told d = record {
  path = path_text d.path;
  left = option_map part_text d.left;
  right =
      option_map part_text d.right;
}

-- a difference between two parts that lie at a path
abbrev pub at_path : Path → Difference → Difference
at_path path d = record { path = path ++ d.path; left = d.left; right = d.right }

-- the texts of the differences that are reported under rules between parts at a path
abbrev pub told_at : specs.Rules → Path → List Difference → List Told
told_at rules path ds = map told (filter (is_told rules) (map (at_path path) ds))

-- the texts that a change holds
abbrev pub change_view : Change → Told
change_view c =
    record {
      path = c.path.items;
      left = option_map (λ v. v.items) c.left;
      right = option_map
          (λ v. v.items) c.right;
    }

-- a value that only this side has
abbrev pub only_in : Side → Json → Difference
only_in Left = only_left
only_in Right = only_right

-- the tolerance that a value stands for
abbrev pub tolerance_view : Tolerance → specs.Tolerance
tolerance_view t = record { pattern = pattern_view t.pattern; margin = t.margin }

-- the rules that a value stands for
abbrev pub rules_view : Rules → specs.Rules
rules_view rules =
    record {
      ignored = patterns_view rules.ignored.items;
      only =
          patterns_view rules.only.items;
      missing_is_null = rules.missing_is_null;
      tolerances =
          map tolerance_view rules.tolerances.items;
    }

-- the path that steps stand for
abbrev pub trail_view : List paths.Step → Path
trail_view steps = map step_view steps
