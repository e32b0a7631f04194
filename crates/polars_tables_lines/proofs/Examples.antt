-- Worked examples of the definitions: the check computes both sides of each.
use Rattle.std.proofs.Common.{◌≡◌, [], ◌∷◌, ◌++◌, Ok, Err, refl, codes}
use Rattle.std.specs.Fmt.{digits}
use Rattle.std.specs.declared.io.ErrorKind.TheVariants.{InvalidData, OutOfMemory}
use Rattle.polars_tables_rows.specs.declared.fault.LineError.TheVariants.{Op, TypeName, Row as RowError, Length, Range}
use Rattle.polars_tables_lines.specs.declared.program.Command.TheVariants.{Lines, Demo, Help, Version, Usage}
use Rattle.polars_tables_lines.specs.declared.running.RunError.TheVariants.{Memory}
use Rattle.polars_tables_lines.specs.Command.{command_of, unread_of}
use Rattle.polars_tables_lines.specs.Line.{line_meaning}
use Rattle.polars_tables_lines.specs.Output.{lines_of, printed, fault_word}

line-equal : line_meaning (codes "eq_missing i32 1 null 3 | 1 null null") ≡ Ok (codes "true true false")
line-equal = refl

line-less : line_meaning (codes "lt bool false true null | true true true") ≡ Ok (codes "true false null")
line-less = refl

line-scalar : line_meaning (codes "ge_broadcast i8 -128 127 null | 0") ≡ Ok (codes "false true null")
line-scalar = refl

line-sum : line_meaning (codes "sum i32 2147483647 1") ≡ Ok (codes "-2147483648")
unfolding digits
line-sum = refl

line-sum-unsigned : line_meaning (codes "sum u8 200 null 100") ≡ Ok (codes "44")
unfolding digits
line-sum-unsigned = refl

line-op : line_meaning (codes "less u8 x") ≡ Err Op
line-op = refl

line-type : line_meaning (codes "sum bool x") ≡ Err TypeName
line-type = refl

line-row : line_meaning (codes "lt u8 x") ≡ Err RowError
line-row = refl

line-length : line_meaning (codes "lt_broadcast i8 1 | 1 2") ≡ Err Length
line-length = refl

line-range : line_meaning (codes "lt_broadcast i8 1 | null") ≡ Err Range
line-range = refl

lines-rest : lines_of (codes "a" ++ 10 ∷ 10 ∷ codes "b") ≡ codes "a" ∷ [] ∷ codes "b" ∷ []
lines-rest = refl

lines-ended : lines_of (codes "a" ++ 10 ∷ []) ≡ codes "a" ∷ []
lines-ended = refl

printed-refused : printed 2 (line_meaning []) ≡ codes "line 2: refused: op"
unfolding digits
printed-refused = refl

command-none : command_of [] ≡ Lines
command-none = refl

command-demo : command_of (codes "demo" ∷ []) ≡ Demo
command-demo = refl

command-help : command_of (codes "--help" ∷ []) ≡ Help
command-help = refl

command-version : command_of (codes "--version" ∷ []) ≡ Version
command-version = refl

command-other : command_of (codes "--demo" ∷ []) ≡ Usage
command-other = refl

command-words : command_of (codes "demo" ∷ codes "demo" ∷ []) ≡ Usage
command-words = refl

unread-word : unread_of InvalidData ≡ Ok Usage
unread-word = refl

unread-memory : unread_of OutOfMemory ≡ Err Memory
unread-memory = refl

fault-type : fault_word TypeName ≡ codes "type"
fault-type = refl
