use Rattle.std.proofs.Common.{◌∙◌}
use Rattle.schema_values.proofs.numbers.best_text.Goals as goal

pub returns : goal.returns
returns c = record { place = c.best_place-place.result; best = c.best_place-place.ensures; is = c.in_ok-text.ensures.items ∙ c.bytes.ensures }
