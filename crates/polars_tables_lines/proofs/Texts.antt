-- What bytes mean, by whether they are a text.
use Rattle.std.proofs.Common.{◌≡◌, ◌∙◌, ℕ, Bool, true, false, List, Err, refl, sym, ap}
use Rattle.std.specs.Prelude.{if◌then◌else◌}
use Rattle.std.specs.Str.{IsUtf8, is_utf8}
use Rattle.std.proofs.lemmas.Str.{IsUtf8-from_is_utf8, is_utf8-from_IsUtf8}
use Rattle.polars_tables_rows.specs.declared.fault.LineError.TheVariants.{Op}
use Rattle.polars_tables_lines.specs.Line.{line_meaning}
use Rattle.polars_tables_lines.specs.Output.{meaning_of}

not_true : (b : Bool) → (b ≡ true → ⊥) → b ≡ false
not_true true h = absurd (h refl)
not_true false h = refl

-- a text means what it means as a line
pub meaning-text : (line bytes : List ℕ) → line ≡ bytes → IsUtf8 bytes → meaning_of bytes ≡ line_meaning line
meaning-text line bytes e u =
    ap (λ (b : Bool). if b then line_meaning bytes else Err Op) (is_utf8-from_IsUtf8 bytes u) ∙ ap line_meaning (sym e)

-- bytes that are no text name no operation
pub meaning-no_text : (bytes : List ℕ) → (IsUtf8 bytes → ⊥) → meaning_of bytes ≡ Err Op
meaning-no_text bytes n =
    ap (λ (b : Bool). if b then line_meaning bytes else Err Op) (not_true (is_utf8 bytes) (λ t. n (IsUtf8-from_is_utf8 bytes t)))
