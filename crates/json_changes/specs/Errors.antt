-- The errors of a comparison of two values.
use Rattle.std.specs.Prelude.{⊤}
use Rattle.json.specs.Json.{Json}
use Rattle.json_decimals.specs.declared.error.NumberError.{NumberError}
use Rattle.json_decimals.specs.declared.error.NumberError.TheVariants.{Memory, WideExponent}
use Rattle.json_normal.specs.Narrow.{HasNarrowNumbers}

-- the meaning of each error of a comparison of two values
abbrev pub IsFaultOf : Json → Json → NumberError → Type 0
IsFaultOf j k Memory = ⊤
IsFaultOf j k WideExponent = ¬ (HasNarrowNumbers j × HasNarrowNumbers k)
