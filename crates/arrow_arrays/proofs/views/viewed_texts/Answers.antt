use Rattle.std.proofs.Common.{◌≡◌, ◌*◌, length, rules}
use Rattle.std.specs.Prelude.{IfErr}
use Rattle.arrow_parts.specs.declared.refused.Refused.TheVariants.{Parts}
use Rattle.arrow_arrays.proofs.GatheredRows.{gathered-texts, viewed-texts}
use Rattle.arrow_arrays.proofs.Honest.{refused-parts}
use Rattle.arrow_arrays.specs.Views.{AreTextViews, AreViews}
use Rattle.arrow_arrays.proofs.views.viewed_texts.Goals as goal

pub returns-in_err-array-clause-refused : goal.returns-in_err-array-clause-refused
returns-in_err-array-clause-refused c =
    let none : ¬ (AreTextViews c.args.part.now) = λ texts. c.in_err-array.ensures.made (gathered-texts c.args.part.now (record { offsets = c.in_ok-strings.strings.ends.items; values = c.in_ok-strings.strings.bytes.items; validity = c.in_ok-validity.validity }) c.in_ok-strings.ensures.rows c.in_ok-validity.ensures.mask texts) in
    let parts : IfErr c.from_residual-in_err-array.result (λ r. r ≡ Parts) = search rules in
    refused-parts (AreTextViews c.args.part.now) c.from_residual-in_err-array.result parts none

pub returns-clause-good : goal.returns-clause-good
returns-clause-good c =
    let size : length c.args.part.now.u8s.now ≡ 16 * c.args.part.now.rows = search rules in
    let views : AreViews c.args.part.now = record { present = c.in_ok-validity.ensures.held; size = size; rows = c.in_ok-strings.ensures.good } in
    viewed-texts c.args.part.now (record { offsets = c.in_ok-strings.strings.ends.items; values = c.in_ok-strings.strings.bytes.items; validity = c.in_ok-validity.validity }) views c.in_ok-strings.ensures.rows c.in_ok-array.ensures.made.0
