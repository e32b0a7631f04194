use Rattle.std.proofs.Common.{◌≡◌, arith, sym, ap, inl, inr}
use Rattle.std.specs.Prelude.{None}
use Rattle.std.proofs.lemmas.Bool.{cases_lt}
use Rattle.std.proofs.lemmas.List.{get_or_past}
use Rattle.arrow_parts.specs.Kinds.{kind_number, kinds}
use Rattle.arrow_parts.proofs.part.PartKind.of.Goals as goal

pub returns-in_default : goal.returns-in_default
returns-in_default c = elim (cases_lt c.args.number 32) [
  | inl low ↦
      let none : 0 ≡ c.args.number = omega (arith, c.in_default) in
      ap kind_number none
  | inr past ↦ sym (get_or_past kinds c.args.number None (omega arith))
]
