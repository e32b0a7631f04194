use Rattle.std.proofs.Common.{◌≡◌, length, rules}
use Rattle.arrow_arrays.proofs.SlotLemmas.{rows-bits}
use Rattle.arrow_arrays.proofs.slots.numbers.Goals as goal

pub returns-in_err-array-clause-refused : goal.returns-in_err-array-clause-refused
returns-in_err-array-clause-refused g c =
    let count : length c.in_ok-values.values.items ≡ c.args.part.now.rows = search rules in
    absurd (c.in_err-array.ensures.made (rows-bits c.args.part.now (length c.in_ok-values.values.items) c.in_ok-validity.validity count c.in_ok-validity.ensures.mask))
