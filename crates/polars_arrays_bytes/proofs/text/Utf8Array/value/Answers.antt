use Rattle.std.proofs.Common.{◌<◌, ℕ, [], sym, subst}
use Rattle.std.specs.Str.{IsUtf8}
use Rattle.polars_arrays_bytes.specs.OffsetStrings.{OffsetStrings, row_count}
use Rattle.polars_arrays_bytes.proofs.OffsetWindows.{length-offset_strings}
use Rattle.polars_arrays_bytes.proofs.text.Utf8Array.value.Goals as goal

pub from_utf8_unchecked-requires : goal.from_utf8_unchecked-requires
from_utf8_unchecked-requires g c =
    let a = c.self.inside.binary in
    let row = subst (λ (b : OffsetStrings _). c.args.i < row_count b.offsets) (sym c.self.view_is) c.requires in
    let below = subst (λ (n : ℕ). c.args.i < n) (sym (length-offset_strings g.O.Number.value a.offsets a.values)) row in
    subst IsUtf8 (sym c.value-bytes.ensures) (c.self.invariant c.args.i [] below)
