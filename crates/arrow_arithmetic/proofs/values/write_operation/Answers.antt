use Rattle.std.proofs.Common.{◌∙◌, sym}
use Rattle.std.proofs.lemmas.Simd.{length-zip2}
use Rattle.arrow_arithmetic.proofs.values.write_operation.Goals as goal

pub write-requires : goal.write-requires
write-requires g c κs =
    (c.type_bounds.static-T, c.requires.room ∙ sym (length-zip2 _ c.args.left.now c.args.right.now (sym c.requires.same_length)))
