use Rattle.std.proofs.Common.{◌≡◌, [], ap, rules}
use Rattle.std.specs.List.{flat_map}
use Rattle.bstr.specs.Utf8.{lossy_chars}
use Rattle.diff_json.specs.Strings.{char_text, json_string}
use Rattle.diff_json.proofs.Pieces.{quote_behind}
use Rattle.diff_json.proofs.strings.push_string.Goals as goal

pub returns : goal.returns
unfolding json_string
returns c =
    let none : c.loop-c.c-iterator ≡ [] = search rules in
    quote_behind c.args.out.now.items (flat_map char_text (lossy_chars c.args.bytes.now)) (flat_map char_text c.loop-c.c-iterator) _ _ c.loop-c.invariant (ap (flat_map char_text) none) c.in_ok-push-2.ensures.items
