use Rattle.std.proofs.Common.{◌≡◌, ℕ, ◌+◌, ◌*◌, ◌^◌, ◌&&◌, true, false, leb, sym, ◌∙◌}
use Rattle.std.specs.Bool.{beq}
use Rattle.json_tolerances.proofs.ClosenessLemmas.{shared, sized, within_same, within_other}
use Rattle.json_tolerances.proofs.closeness.are_within.Goals as goal

pub returns-then-has_sign_of : goal.returns-then-has_sign_of
returns-then-has_sign_of c =
    let t = c.args.bound.now in
    let a = c.args.left.now in
    let b = c.args.right.now in
    let x : ℕ = c.times_tens-first.result in
    let y : ℕ = c.times_tens-second.result in
    let z : ℕ = c.ten-room.result in
    let k = c.coefficient-times.ensures in
    let own = c.tens-own.ensures.down in
    let other = c.tens-other.ensures.down in
    let first : x ≡ shared t a b = sized a.coefficient a.up c.tens-other.result.down c.tens-by.result.down b.down t.down x c.times_tens-first.ensures other c.tens-by.ensures.down in
    let second : y ≡ shared t b a = sized b.coefficient b.up c.tens-own.result.down c.tens-by.result.down a.down t.down y c.times_tens-second.ensures own c.tens-by.ensures.down in
    let room : z ≡ 10 ^ (t.up + a.down + b.down) = c.ten-room.ensures ∙ (λ i. 10 ^ (c.tens-by.ensures.up i + own i + other i)) in
    let same : beq a.negative b.negative ≡ true = sym c.has_sign_of.ensures ∙ c.if-has_sign_of.true in
    c.is_each_at_most.ensures ∙ (λ i. leb x (y + k i * z) && leb y (x + k i * z)) ∙ within_same t a b x y z same first second room

pub returns : goal.returns
returns c =
    let t = c.args.bound.now in
    let a = c.args.left.now in
    let b = c.args.right.now in
    let x : ℕ = c.times_tens-first.result in
    let y : ℕ = c.times_tens-second.result in
    let z : ℕ = c.ten-room.result in
    let k = c.coefficient-times.ensures in
    let own = c.tens-own.ensures.down in
    let other = c.tens-other.ensures.down in
    let first : x ≡ shared t a b = sized a.coefficient a.up c.tens-other.result.down c.tens-by.result.down b.down t.down x c.times_tens-first.ensures other c.tens-by.ensures.down in
    let second : y ≡ shared t b a = sized b.coefficient b.up c.tens-own.result.down c.tens-by.result.down a.down t.down y c.times_tens-second.ensures own c.tens-by.ensures.down in
    let room : z ≡ 10 ^ (t.up + a.down + b.down) = c.ten-room.ensures ∙ (λ i. 10 ^ (c.tens-by.ensures.up i + own i + other i)) in
    let other_sign : beq a.negative b.negative ≡ false = sym c.has_sign_of.ensures ∙ c.if-has_sign_of.false in
    c.is_sum_at_most.ensures ∙ (λ i. leb (x + y) (k i * z)) ∙ within_other t a b x y z other_sign first second room
