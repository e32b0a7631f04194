use Rattle.std.proofs.Common.{◌≡◌, List, ℕ, sym, subst, IsUtf8, rules}
use Rattle.json.specs.Print.{IsNumber}
use Rattle.json_decimals.specs.Texts.{normal_number}
use Rattle.json_normal.proofs.WrittenLemmas.{IsNumber-normal_number, IsUtf8-normal_number}
use Rattle.json_normal.proofs.write.write_number.Goals as goal

pub from_utf8_unchecked-normal-requires : goal.from_utf8_unchecked-normal-requires
from_utf8_unchecked-normal-requires c =
    let is : c.as_slice.result.now ≡ normal_number c.args.text.now = search rules in
    subst (λ (s : List ℕ). IsUtf8 s) (sym is) (IsUtf8-normal_number c.args.text.now)

pub write_token-requires : goal.write_token-requires
write_token-requires c =
    let is : c.from_utf8_unchecked-normal.result.now ≡ normal_number c.args.text.now = search rules in
    subst (λ (s : List ℕ). IsNumber s) (sym is) (IsNumber-normal_number c.args.text.now)
