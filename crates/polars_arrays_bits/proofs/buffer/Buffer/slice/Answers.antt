use Rattle.std.proofs.Common.{◌≤◌, ◌+◌, List, drop, sym, ap, arith}
use Rattle.std.proofs.lemmas.List.{length-take}
use Rattle.polars_arrays_bits.specs.Buffer.{stored, is_vector}
use Rattle.polars_arrays_bits.proofs.BufferWindows.{take-drop-window}
use Rattle.polars_arrays_bits.proofs.buffer.Buffer.slice.Goals as goal

pub returns : goal.returns
returns g c =
    let xs = stored c.self.inside.store in
    let le : c.args.at + c.args.n ≤ c.self.inside.len =
    omega (arith, rw (← c.self.view_is) at c.requires, length-take c.self.inside.len (drop c.self.inside.start xs)) in
    rw (← c.self.view_is) (ap (λ (ys : List g.row.T.Denot). record { items = ys; owned = is_vector c.self.inside.store }) (sym (take-drop-window c.args.n c.args.at c.self.inside.len c.self.inside.start xs le)))
