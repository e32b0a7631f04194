use Rattle.std.proofs.Common.{◌≡◌, ◌≤◌, length, take, vec_len, vec_capacity}
use Rattle.std.specs.Prelude.{map}
use Rattle.json_normal.proofs.order.in_key_order.Given as goal

abbrev pub invariant-loop-member : goal.invariant-loop-member
invariant-loop-member l = (map (λ m. m.now) l.order.items ≡ take l.member-index l.member-items) × (vec_len l.order ≡ l.member-index) × (length l.member-items ≤ vec_capacity l.order)
