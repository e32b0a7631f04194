use Rattle.std.proofs.Common.{◌∙◌, arith, sym}
use Rattle.diff_sorted.proofs.FaultLemmas.{none_asked, some_asked}
use Rattle.diff_sorted.proofs.run.test_options.Goals as goal

pub returns-then-has_numbers : goal.returns-then-has_numbers
returns-then-has_numbers c = λ left_text right_text can. some_asked c.args.options.now.numbers (sym c.is_some-has_numbers.ensures ∙ c.if-has_numbers.true) can.numbers

pub returns-then-has_tolerances : goal.returns-then-has_tolerances
returns-then-has_tolerances c = λ left_text right_text can. some_asked c.args.options.now.tolerances (sym c.is_some-has_tolerances.ensures ∙ c.if-has_tolerances.true) can.tolerances

pub returns-then-has_part : goal.returns-then-has_part
returns-then-has_part c = λ left_text right_text can. some_asked c.args.options.now.part (sym c.is_some-has_part.ensures ∙ c.if-has_part.true) can.part

pub returns-then-key_count-eq0 : goal.returns-then-key_count-eq0
returns-then-key_count-eq0 c = λ left_text right_text can. absurd (omega (arith, can.keys))

pub returns : goal.returns
returns c = record {
  keys = omega arith;
  numbers = none_asked c.args.options.now.numbers (sym c.is_some-has_numbers.ensures ∙ c.if-has_numbers.false);
  tolerances = none_asked c.args.options.now.tolerances (sym c.is_some-has_tolerances.ensures ∙ c.if-has_tolerances.false);
  part = none_asked c.args.options.now.part (sym c.is_some-has_part.ensures ∙ c.if-has_part.false);
}
