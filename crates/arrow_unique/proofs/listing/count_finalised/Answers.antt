use Rattle.std.proofs.Common.{◌≡◌, ◌∙◌, Bool, true, false, cond, not, eqb, pos, refl, arith}
use Rattle.arrow_unique.proofs.Listed.{count-le, length-finalised}
use Rattle.polars_compute_slots.proofs.Sets.{byte-le}
use Rattle.arrow_unique.proofs.listing.count_finalised.Goals as goal
use mir.Val.{bool_byte}

byte : (b : Bool) → bool_byte b ≡ cond b 1 0
byte true = refl
byte false = refl

pub overflow_add-result : goal.overflow_add-result
overflow_add-result c =
    let few = byte-le c.from.result (not (eqb c.args.flag 0)) c.from.ensures in
    omega (arith, few, c.count_seen.ensures (pos 0) 0, count-le (pos 0) c.args.count c.args.words.now 0, c.requires)

pub returns : goal.returns
returns c least put =
    length-finalised least c.args.count c.count_seen.result c.args.words.now c.args.flag put c.from.result (c.count_seen.ensures least c.args.flag) (c.from.ensures ∙ byte (not (eqb c.args.flag 0)))
