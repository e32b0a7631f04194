-- A builder after bits were pushed.
use Rattle.std.proofs.Common.{◌≡◌, ℕ, ◌+◌, ◌-◌, Bool, List, ◌++◌, replicate, ap, ap₂, length, ◌∙◌}
use Rattle.polars_arrays_words.specs.Bits.{window, IsWritten}
use Rattle.polars_arrays_bits.specs.Draft.{Draft}
use Rattle.polars_arrays_bits.proofs.WrittenWindows.{window-append, window-appended}
use Rattle.polars_arrays_words.specs.Packing.{AreAppended}

-- bits and room
abbrev pub draft_of : List Bool → ℕ → Draft
draft_of bits room = record { bits = bits; room = room }

pub draft-extended :
    (old new : List ℕ) (len n room : ℕ) (value : Bool) (draft : Draft) → draft_of (window 0 len old) room ≡ draft → IsWritten old new len (len + n) value →
    draft_of (window 0 (len + n) new) (room - n) ≡ draft_of (draft.bits ++ replicate n value) (draft.room - n)
draft-extended old new len n room value draft e w =
    ap₂ draft_of (window-append old new len n value draft.bits (ap (λ d. d.bits) e) w) (ap (λ d. d.room - n) e)

-- a builder after truth values were pushed
pub draft-appended :
    (old new : List ℕ) (len n room : ℕ) (values : List Bool) (draft : Draft) → n ≡ length values → draft_of (window 0 len old) room ≡ draft →
    AreAppended old new len values (length values) →
    draft_of (window 0 (len + n) new) (room - n) ≡ draft_of (draft.bits ++ values) (draft.room - length values)
draft-appended old new len n room values draft all e appended =
    ap (λ m. draft_of (window 0 (len + m) new) (room - m)) all
    ∙ ap₂ draft_of (window-appended old new len values draft.bits (ap (λ d. d.bits) e) appended) (ap (λ d. d.room - length values) e)
