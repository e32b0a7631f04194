use Rattle.arrow_arrays.proofs.GatheredRows.{gathered-bounded}
use Rattle.arrow_arrays.proofs.views.viewed_strings.Goals as goal

pub returns-in_err-array-clause-refused : goal.returns-in_err-array-clause-refused
returns-in_err-array-clause-refused c =
    absurd (c.in_err-array.ensures.made (gathered-bounded c.args.part.now (record { offsets = c.in_ok-strings.strings.ends.items; values = c.in_ok-strings.strings.bytes.items; validity = c.in_ok-validity.validity }) c.in_ok-strings.ensures.rows c.in_ok-validity.ensures.mask))
