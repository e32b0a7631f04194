-- The errors of reading an input.
--
-- Of the lines {"id": 1}, [2], {} with the key id the second one is no object. Without it the last
-- one has no part at the key, which is the first of the keys; where keys may be null nothing is
-- wrong with it. Where lines that are no documents are passed over, no line is an error.
use Rattle.std.specs.Prelude.{◌≡◌, ◌<◌, ◌⊎◌, ℕ, suc, false, All, IsSomeAnd, List, [], ◌∷◌, ◌++◌}
use Rattle.std.specs.Prelude.{None, length, get_or, ⊤}
use Rattle.std.specs.Str.{IsUtf8}
use Rattle.json.specs.Json.{Json, Members, object, document}
use Rattle.json.specs.Strict.{HasUniqueKeys}
use Rattle.json_normal.specs.Narrow.{HasNarrowNumbers}
use Rattle.json_paths.specs.Paths.{Path, part_at}
use Rattle.document_rows.specs.Documents.{IsDocument}
use Rattle.document_rows.specs.Lines.{lines_of}
use Rattle.document_faults.specs.declared.fault.LineFault.{LineFault}
use Rattle.document_faults.specs.declared.fault.LineFault.TheVariants as fault
use Rattle.document_rows.specs.declared.error.ReadError.{ReadError}
use Rattle.document_rows.specs.declared.error.ReadError.TheVariants as error
use Rattle.document_rows.specs.declared.reading.Reading.{Reading}

-- a value is an object
abbrev pub IsObject : Json → Type 0
IsObject j = (members : Members) × (j ≡ object members)

-- the fault of a line: it is no UTF-8 or no JSON; an object has a name twice; an exponent is wide;
-- it is no object; or the key at this place leads nowhere, and may not be null
abbrev pub IsLineFault : Reading → List Path → List ℕ → LineFault → Type 0
IsLineFault reading keys line fault.Invalid = ¬ (IsUtf8 line) ⊎ (document line ≡ None)
IsLineFault reading keys line fault.RepeatedName = IsSomeAnd (document line)
    (λ j. ¬ HasUniqueKeys j)
IsLineFault reading keys line fault.WideExponent = IsSomeAnd (document line)
    (λ j. ¬ HasNarrowNumbers j)
IsLineFault reading keys line fault.NoObject = IsSomeAnd (document line) (λ j. ¬ IsObject j)
IsLineFault reading keys line (fault.NoPart key) = (reading.null_keys ≡ false) × (key < length keys)
    × IsSomeAnd (document line) (λ j. part_at (get_or keys key []) j ≡ None)

-- the line with this number is no document, and is not passed over; the lines before it are
-- documents, and the first line has the number 1
pub record HasFaultyLine (text : List ℕ) (reading : Reading) (keys : List Path) (number : ℕ)
    (what : LineFault) : Type 0 where
  pub before : List (List ℕ)
  pub line : List ℕ
  pub after : List (List ℕ)
  pub lines : lines_of text ≡ before ++ line ∷ after
  pub documents : All (IsDocument reading keys) before
  pub number_is : number ≡ suc (length before)
  pub not_skipped : reading.skip_bad ≡ false
  pub faulty : IsLineFault reading keys line what

-- an allocation failed
abbrev pub IsMemory : ReadError → Type 0
IsMemory e = e ≡ error.Memory

-- an allocation or a read failed
abbrev pub IsStop : ReadError → Type 0
IsStop error.Memory = ⊤
IsStop (error.Read cause) = ⊤
IsStop (error.Line number column what) = ⊥

-- the errors of reading a text: an allocation or a read failed, or a line is no document
abbrev pub IsReadFault : List ℕ → Reading → List Path → ReadError → Type 0
IsReadFault text reading keys error.Memory = ⊤
IsReadFault text reading keys (error.Read cause) = ⊤
IsReadFault text reading keys (error.Line number column what) =
    HasFaultyLine text reading keys number what
