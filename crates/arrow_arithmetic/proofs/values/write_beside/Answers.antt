use Rattle.arrow_arithmetic.proofs.values.write_beside.Goals as goal

pub returns-in-Add : goal.returns-in-Add
returns-in-Add g c = rw c.in-Add.is c.write_placed.ensures

pub returns-in-Subtract : goal.returns-in-Subtract
returns-in-Subtract g c = rw c.in-Subtract.is c.write_placed-in-Subtract.ensures

pub returns-in-Multiply : goal.returns-in-Multiply
returns-in-Multiply g c = rw c.in-Multiply.is c.write_placed-in-Multiply.ensures

pub returns-in-FloorDivide : goal.returns-in-FloorDivide
returns-in-FloorDivide g c = rw c.in-FloorDivide.is c.write_placed-in-FloorDivide.ensures

pub returns-in-TruncatingDivide : goal.returns-in-TruncatingDivide
returns-in-TruncatingDivide g c = rw c.in-TruncatingDivide.is c.write_placed-in-TruncatingDivide.ensures

pub returns-in-Modulo : goal.returns-in-Modulo
returns-in-Modulo g c = rw c.in-Modulo.is c.write_placed-in-Modulo.ensures
