-- Patterns, which name parts of JSON values by the paths to them.
--
-- The pattern items[].price begins the paths items[1].price and items[1].price.net, and not
-- items[1] nor items. These two lead to a part in which it goes on.
use Rattle.std.specs.Prelude.{◌==◌, Bool, true, false, ◌&&◌, List, [], ◌∷◌}
use Rattle.std.specs.Str.{bytes_eq}
use Rattle.json_paths.specs.Paths.{Step, name, place, Path}

-- one step, or the step to any item of an array
pub data PatternStep : Type 0 where
  exactly : Step → PatternStep
  any_item : PatternStep

-- the steps to the parts that a pattern names
abbrev pub Pattern : Type 0
Pattern = List PatternStep

-- two steps lead to the same part
abbrev pub is_same_step : Step → Step → Bool
is_same_step (name k) (name l) = bytes_eq k l
is_same_step (place i) (place j) = i == j
is_same_step s t = false

-- a step of a pattern allows a step
abbrev pub fits : PatternStep → Step → Bool
fits (exactly s) t = is_same_step s t
fits any_item (name k) = false
fits any_item (place i) = true

-- a path leads to a part that the pattern names, or to a part within it
abbrev pub begins : Pattern → Path → Bool
begins [] path = true
begins (p ∷ pattern) [] = false
begins (p ∷ pattern) (s ∷ path) = fits p s && begins pattern path

-- a path leads to a part around those that the pattern names
abbrev pub leads_to : Pattern → Path → Bool
leads_to [] path = false
leads_to (p ∷ pattern) [] = true
leads_to (p ∷ pattern) (s ∷ path) = fits p s && leads_to pattern path
