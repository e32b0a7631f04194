use Rattle.std.proofs.Common.{◌≡◌, drop}
use Rattle.json_changes.specs.Texts.{path_from, path_text, trail_view}
use Rattle.json_changes.proofs.paths.text_of_path.Given as goal

abbrev pub invariant-loop-i : goal.invariant-loop-i
invariant-loop-i l = path_from l.path.items (trail_view (drop l.i l.trail)) ≡ path_text (trail_view l.trail)
