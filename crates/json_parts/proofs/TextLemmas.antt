-- The texts of strings.
use Rattle.std.proofs.Common.{◌≡◌, ℕ, List, append-nil}
use Rattle.json.specs.Json.{string}
use Rattle.json.specs.Print.{print, print_from, quoted}
use Rattle.json.specs.Tree.{json_tokens}

-- the text of a string
pub printed_string : (s : List ℕ) → print (json_tokens (string s)) ≡ quoted s
unfolding print_from
printed_string s = append-nil (quoted s)
