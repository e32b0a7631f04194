use Rattle.arrow_arithmetic.proofs.values.write_placed.Goals as goal

pub returns-in-Left : goal.returns-in-Left
returns-in-Left g c = rw c.in-Left.is c.write_function.ensures

pub returns-in-Right : goal.returns-in-Right
returns-in-Right g c = rw c.in-Right.is c.write_function-in-Right.ensures
