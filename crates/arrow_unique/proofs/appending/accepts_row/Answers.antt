use Rattle.std.proofs.Common.{◌≡◌, ◌||◌, ℕ, Bool, true, false, not, refl}
use Rattle.std.specs.Prelude.{ℤ}
use Rattle.polars_arrays_flat.specs.Row.{Int}
use Rattle.polars_arrays_flat.specs.StoredRows.{kept}
use Rattle.polars_compute_slots.specs.State.{is_within, numbers_from}
use Rattle.polars_compute_slots.proofs.Ranges.{holds-within}
use Rattle.arrow_unique.proofs.appending.accepts_row.Goals as goal

null-or-within : (least m : ℤ) (n : ℕ) (present held : Bool) → held ≡ is_within (numbers_from least n) (Int m) → (not present || held) ≡ is_within (numbers_from least n) (kept present (Int m))
null-or-within least m n true held e = e
null-or-within least m n false held e = refl

pub returns : goal.returns
returns g c =
    let least = g.T.Number.value c.args.span.now.least in
    let number = g.T.Number.value c.args.number in
    null-or-within least number c.args.span.now.count c.args.present c.holds.result
    (holds-within least number c.args.span.now.count c.holds.result c.holds.ensures)
