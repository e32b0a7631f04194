-- The program's arguments and exit statuses.
use Rattle.std.specs.Prelude.{ℕ, ◌==◌, if◌then◌else◌, List, [], ◌∷◌, codes, Result, Ok, Err}
use Rattle.std.specs.Str.{bytes_eq}
use Rattle.std.specs.declared.io.ErrorKind.{ErrorKind}
use Rattle.std.specs.declared.io.ErrorKind.TheVariants.{OutOfMemory}
use Rattle.polars_tables_lines.specs.declared.program.Command.{Command}
use Rattle.polars_tables_lines.specs.declared.program.Command.TheVariants.{Lines, Demo, Help}
use Rattle.polars_tables_lines.specs.declared.program.Command.TheVariants.{Version, Usage}
use Rattle.polars_tables_lines.specs.declared.running.Report.{Report}
use Rattle.polars_tables_lines.specs.declared.running.RunError.{RunError}
use Rattle.polars_tables_lines.specs.declared.running.RunError.TheVariants.{Read, Write, Memory}

-- the command that one word names
abbrev pub named_command : List ℕ → Command
named_command word =
    if bytes_eq word (codes "demo") then Demo
    else (if bytes_eq word (codes "--help") then Help
    else (if bytes_eq word (codes "--version") then Version else Usage))

-- no word reads lines from standard input, one word names a command, and all else prints the usage
abbrev pub command_of : List (List ℕ) → Command
command_of [] = Lines
command_of (word ∷ []) = named_command word
command_of (word ∷ other ∷ more) = Usage

-- if the arguments can't be read: a failed allocation is a fault, all else prints the usage line
abbrev pub unread_of : ErrorKind → Result Command RunError
unread_of OutOfMemory = Err Memory
unread_of kind = Ok Usage

-- exit status 0 if no line was refused, else 1
abbrev pub exit_status_of : Result Report RunError → ℕ
exit_status_of (Ok report) = if report.refused == 0 then 0 else 1
exit_status_of (Err fault) = 1

-- the message of a run that stopped
abbrev pub fault_text_of : RunError → List ℕ
fault_text_of Read = codes "read failed"
fault_text_of Write = codes "write failed"
fault_text_of Memory = codes "out of memory"
