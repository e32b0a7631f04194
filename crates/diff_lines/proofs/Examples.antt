-- Worked examples of the definitions.
use Rattle.std.specs.Prelude.{◌≡◌, Some, None, codes, refl}
use Rattle.json.specs.Json.{Json, number, string, object, no_members, member}
use Rattle.diff_lines.specs.Lines.{kind_named}
use Rattle.diff_lines.specs.Parts.{number_at, string_at}
use Rattle.diff_lines.specs.declared.line.Kind.TheVariants.{Column}

-- what words name
column : kind_named (codes "column") ≡ Some Column
unfolding kind_named
column = refl

row : kind_named (codes "row") ≡ None
unfolding kind_named
row = refl

-- members
abbrev line : Json
line = object (member (codes "kind") (string (codes "removed")) (member (codes "line") (number (codes "3")) no_members))

kind : string_at (codes "kind") line ≡ codes "removed"
unfolding string_at
kind = refl

at : number_at (codes "line") line ≡ codes "3"
unfolding number_at
at = refl
