-- The patterns that Rust values stand for.
use Rattle.std.specs.Prelude.{List, map}
use Rattle.json_paths.specs.Patterns as patterns
use Rattle.json_paths.specs.Views.{step_view}
use Rattle.json_paths.specs.declared.pattern.Pattern.{Pattern}
use Rattle.json_paths.specs.declared.pattern.PatternStep.{PatternStep}
use Rattle.json_paths.specs.declared.pattern.PatternStep.TheVariants.{AnyItem, Exactly}

-- the pattern's step that a value stands for
abbrev pub pattern_step_view : PatternStep → patterns.PatternStep
pattern_step_view (Exactly s) = patterns.exactly (step_view s)
pattern_step_view AnyItem = patterns.any_item

-- the pattern that a value stands for
abbrev pub pattern_view : Pattern → patterns.Pattern
pattern_view pattern = map pattern_step_view pattern.steps.items

-- the patterns that values stand for
abbrev pub patterns_view : List Pattern → List patterns.Pattern
patterns_view patterns = map pattern_view patterns
