-- An input that is read line by line.
--
-- Of "ab", 10, "c" the first line that is read is "ab", and "c" is left. Of nothing there is no
-- line.
use Rattle.std.specs.Prelude.{◌≡◌, ◌<◌, ℕ, Bool, true, false, List, [], ◌∷◌, Option, Some, None}
use Rattle.std.specs.Prelude.{get_or, length, ⊤}
use Rattle.json.specs.Json.{Json}
use Rattle.json_paths.specs.Paths.{Path, part_at}
use Rattle.document_rows.specs.Errors.{IsLineFault}
use Rattle.document_rows.specs.Lines.{lines_of}
use Rattle.document_faults.specs.declared.fault.LineFault.{LineFault}
use Rattle.document_faults.specs.declared.fault.LineFault.TheVariants as fault
use Rattle.document_rows.specs.declared.error.ReadError.{ReadError}
use Rattle.document_rows.specs.declared.error.ReadError.TheVariants as error
use Rattle.document_rows.specs.declared.reading.Reading.{Reading}
use Rattle.document_rows.specs.declared.values.Trouble.{Trouble}
use Rattle.document_rows.specs.declared.values.Trouble.TheVariants as trouble

-- a read takes the first line of the text that is left, and leaves the rest; or it reports that
-- nothing is left
abbrev pub TakesLine : {R : Type 0} → (R → Option (List ℕ)) → List ℕ → List ℕ → R → Bool → Type 0
TakesLine remaining rest line reader true = (after : List ℕ) × (remaining reader ≡ Some after)
    × (lines_of rest ≡ line ∷ lines_of after)
TakesLine remaining rest line reader false = rest ≡ []

-- an allocation failed
abbrev pub IsTroubleMemory : Trouble → Type 0
IsTroubleMemory t = t ≡ trouble.Memory

-- the reasons why a line is not kept: an allocation failed, or the line is no document
abbrev pub IsTrouble : Reading → List Path → List ℕ → Trouble → Type 0
IsTrouble reading keys line trouble.Memory = ⊤
IsTrouble reading keys line (trouble.Fault what) = IsLineFault reading keys line what

-- the key at a place leads nowhere in a value
pub record LacksPart (keys : List Path) (j : Json) (key : ℕ) : Type 0 where
  pub within : key < length keys
  pub none : part_at (get_or keys key []) j ≡ None

-- the reason why the keys of a value are not there: one of them leads nowhere and may not be null
abbrev pub IsKeyFault : Reading → List Path → Json → LineFault → Type 0
IsKeyFault reading keys j fault.Invalid = ⊥
IsKeyFault reading keys j fault.RepeatedName = ⊥
IsKeyFault reading keys j fault.WideExponent = ⊥
IsKeyFault reading keys j fault.NoObject = ⊥
IsKeyFault reading keys j (fault.NoPart key) = (reading.null_keys ≡ false) × LacksPart keys j key

-- the line with a number is at fault, or an allocation failed
abbrev pub IsFault : ℕ → LineFault → ReadError → Type 0
IsFault number what error.Memory = ⊤
IsFault number what (error.Read cause) = ⊥
IsFault number what (error.Line n column w) = (n ≡ number) × (w ≡ what)

-- the reasons why the line with a number is not kept: an allocation failed, or the line is no
-- document and is not passed over
abbrev pub IsFaultAt : Reading → List Path → List ℕ → ℕ → ReadError → Type 0
IsFaultAt reading keys line number error.Memory = ⊤
IsFaultAt reading keys line number (error.Read cause) = ⊥
IsFaultAt reading keys line number (error.Line n column what) = (n ≡ number)
    × (reading.skip_bad ≡ false) × IsLineFault reading keys line what
