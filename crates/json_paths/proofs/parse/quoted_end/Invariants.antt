use Rattle.std.proofs.Common.{drop, false, option_map, ◌≡◌, ◌+◌}
use Rattle.json_paths.specs.Reading.{up_to_quote}
use Rattle.json_paths.proofs.parse.quoted_end.Given as goal

abbrev pub invariant-loop-at : goal.invariant-loop-at
invariant-loop-at l = option_map (λ n. l.at + 1 + n) (up_to_quote l.is_escaped (drop l.at l.bytes)) ≡ option_map (λ n. l.start + 2 + n) (up_to_quote false (drop (l.start + 1) l.bytes))
