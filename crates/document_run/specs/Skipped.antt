-- Inputs with every line skipped.
--
-- With the key id every line of the text {"day": 7}, [8] would be skipped.
use Rattle.std.specs.Prelude.{◌≡◌, ◌==◌, ◌&&◌, ℕ, Bool, true, not, List, None, length}
use Rattle.diff_columns.specs.declared.error.Side.{Side}
use Rattle.document_run.specs.declared.error.DocumentError.{DocumentError}
use Rattle.document_run.specs.declared.error.DocumentError.TheVariants as error
use Rattle.document_run.specs.declared.inputs.ReadSide.{ReadSide}
use Rattle.document_run.specs.declared.options.DocumentOptions.{DocumentOptions}

-- no line has these numbers, and some lines are skipped
abbrev pub none_kept : List ℕ → List ℕ → Bool
none_kept numbers skipped = (length numbers == 0) && not (length skipped == 0)

-- all documents of an input would be kept, but every line is skipped
abbrev pub IsSkippedFault : DocumentOptions → ReadSide → Side → DocumentError → Type 0
IsSkippedFault options read side e = (e ≡ error.AllSkipped side) × (options.reading.part ≡ None)
    × (none_kept read.table.lines.items read.skipped.items ≡ true)
