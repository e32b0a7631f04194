use Rattle.std.proofs.lemmas.List.Elements.{All-push, All-same}
use Rattle.std.proofs.Common.{◌≡◌, List, [], ◌∷◌, ◌++◌}
use Rattle.std.specs.List.{All}
use Rattle.polars_arrays_nested.specs.GoodParts.{IsGood}
use Rattle.polars_arrays_nested.specs.declared.any_array.AnyArray.{AnyArray}
use Rattle.recorded_text.proofs.nested.+read.Goals as goal

-- what holds of arrays, of those with one more
pushed : (P : AnyArray → Type 0) (xs ys : List AnyArray) (a : AnyArray) → ys ≡ xs ++ a ∷ [] → All P xs → P a → All P ys
pushed P xs ys a same all one = All-same P ys (xs ++ a ∷ []) same (All-push P xs a all one)

pub read_columns-loop-preserved : goal.read_columns-loop-preserved
read_columns-loop-preserved t c =
    pushed IsGood c.loop.values.items c.push-in-loop.new.self.items c.in_ok-read_array.field-0 c.in_ok-push-2.ensures.items c.loop.invariant c.in_ok-read_array.ensures
