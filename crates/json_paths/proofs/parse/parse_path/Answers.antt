use Rattle.std.proofs.Common.{length, map, ap, sym, subst, ◌∙◌, [], ◌∷◌, eqb-true, drop}
use Rattle.std.proofs.lemmas.List.{map-append}
use Rattle.json_paths.specs.Patterns.{exactly}
use Rattle.json_paths.specs.PatternViews.{pattern_step_view}
use Rattle.json_paths.specs.Reading.{Begins, left_at}
use Rattle.json_paths.specs.Texts.{with_dot}
use Rattle.json_paths.specs.Views.{step_view}
use Rattle.json_paths.proofs.LoopLemmas.{steps_more, steps_end, no_text, some_text, no_path}
use Rattle.json_paths.proofs.parse.parse_path.Goals as goal

pub returns-then-is_empty-clause-invalid : goal.returns-then-is_empty-clause-invalid
returns-then-is_empty-clause-invalid c = λ _ path. no_text c.args.text.now (eqb-true (length c.args.text.now) 0 (sym c.if-is_empty.ensures)) (map exactly path)

pub returns-in_default-clause-invalid : goal.returns-in_default-clause-invalid
returns-in_default-clause-invalid c = λ _ path.
    let step = subst (λ s. Begins (left_at c.args.text.now c.loop-end.end) (pattern_step_view s ∷ []) (drop c.in_ok-step.field-0.end c.args.text.now)) c.in_default.is c.in_ok-step.ensures.2 in
    no_path c.args.text.now (drop c.in_ok-step.field-0.end c.args.text.now) c.loop-end.end (map step_view c.loop-end.steps.items) path c.loop-end.invariant.begins step

pub loop-end-preserved : goal.loop-end-preserved
loop-end-preserved c =
    let step = subst (λ s. Begins (left_at c.args.text.now c.loop-end.end) (pattern_step_view s ∷ []) (drop c.in_ok-step.field-0.end c.args.text.now)) c.in-Exactly.is c.in_ok-step.ensures.2 in
    let now = ap (map step_view) c.in_ok-push.ensures.items ∙ map-append step_view c.loop-end.steps.items (c.in-Exactly.step ∷ []) in
    record {
      within = c.in_ok-step.ensures.1;
      begins = steps_more (with_dot c.args.text.now) c.args.text.now c.loop-end.end c.in_ok-step.field-0.end (map exactly (map step_view c.loop-end.steps.items)) (map exactly (map step_view c.push.new.self.items))
          (exactly (step_view c.in-Exactly.step)) c.loop-end.invariant.begins c.in_ok-step.ensures.0 step
          (ap (map exactly) now ∙ map-append exactly (map step_view c.loop-end.steps.items) (step_view c.in-Exactly.step ∷ []));
    }

pub returns-clause-read : goal.returns-clause-read
returns-clause-read c = steps_end c.args.text.now c.loop-end.end (map exactly (map step_view c.loop-end.steps.items)) (some_text c.args.text.now c.if-is_empty.ensures) c.loop-end-test.false c.loop-end.invariant.begins
