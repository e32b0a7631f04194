-- Refusals that are true.
use Rattle.std.specs.Prelude.{◌≡◌, ⊤}
use Rattle.arrow_parts.specs.declared.refused.Refused.{Refused}
use Rattle.arrow_parts.specs.declared.refused.Refused.TheVariants.{Parts, Types, Room, Memory}

-- the reason is a failed allocation
abbrev pub IsMemoryFailure : Refused → Type 0
IsMemoryFailure r = r ≡ Memory

-- the reason is that the parts are not good, and they are not, or a failed allocation
abbrev pub IsHonest : Type 0 → Refused → Type 0
IsHonest good Parts = ¬ good
IsHonest good Memory = ⊤
IsHonest good Types = ⊥
IsHonest good Room = ⊥
