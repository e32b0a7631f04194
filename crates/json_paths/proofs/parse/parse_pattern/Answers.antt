use Rattle.std.proofs.Common.{length, map, ap, sym, ◌∙◌, eqb-true}
use Rattle.std.proofs.lemmas.List.{map-append}
use Rattle.json_paths.specs.PatternViews.{pattern_step_view}
use Rattle.json_paths.specs.Texts.{with_dot}
use Rattle.json_paths.proofs.LoopLemmas.{steps_more, steps_end, no_text, some_text}
use Rattle.json_paths.proofs.parse.parse_pattern.Goals as goal

pub returns-then-is_empty-clause-invalid : goal.returns-then-is_empty-clause-invalid
returns-then-is_empty-clause-invalid c = λ _. no_text c.args.text.now (eqb-true (length c.args.text.now) 0 (sym c.if-is_empty.ensures))

pub loop-end-preserved : goal.loop-end-preserved
loop-end-preserved c = record {
  within = c.in_ok-step.ensures.1;
  begins = steps_more (with_dot c.args.text.now) c.args.text.now c.loop-end.end c.in_ok-step.field-0.end (map pattern_step_view c.loop-end.steps.items) (map pattern_step_view c.push.new.self.items)
      (pattern_step_view c.in_ok-step.field-0.step) c.loop-end.invariant.begins c.in_ok-step.ensures.0 c.in_ok-step.ensures.2
      (ap (map pattern_step_view) c.in_ok-push.ensures.items ∙ map-append pattern_step_view c.loop-end.steps.items _);
}

pub returns-clause-read : goal.returns-clause-read
returns-clause-read c = steps_end c.args.text.now c.loop-end.end (map pattern_step_view c.loop-end.steps.items) (some_text c.args.text.now c.if-is_empty.ensures) c.loop-end-test.false c.loop-end.invariant.begins
