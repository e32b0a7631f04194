use Rattle.std.proofs.Common.{◌≡◌, ℕ, ◌+◌, ◌*◌, ◌&&◌, ◌||◌, true, false, leb, sym, ◌∙◌}
use Rattle.std.specs.Bool.{beq}
use Rattle.json_tolerances.proofs.ClosenessLemmas.{shared, part, sized, part_same, part_other}
use Rattle.json_tolerances.proofs.closeness.are_within_part.Goals as goal

pub returns-then-has_sign_of : goal.returns-then-has_sign_of
returns-then-has_sign_of c =
    let t = c.args.bound.now in
    let a = c.args.left.now in
    let b = c.args.right.now in
    let x : ℕ = c.times_tens-first.result in
    let y : ℕ = c.times_tens-second.result in
    let v : ℕ = c.times_tens-of_first.result in
    let w : ℕ = c.times_tens-of_second.result in
    let k = c.coefficient-times.ensures in
    let own = c.tens-own.ensures.down in
    let other = c.tens-other.ensures.down in
    let first : x ≡ shared t a b = sized a.coefficient a.up c.tens-other.result.down c.tens-by.result.down b.down t.down x c.times_tens-first.ensures other c.tens-by.ensures.down in
    let second : y ≡ shared t b a = sized b.coefficient b.up c.tens-own.result.down c.tens-by.result.down a.down t.down y c.times_tens-second.ensures own c.tens-by.ensures.down in
    let of_first : v ≡ part t a b = sized a.coefficient a.up c.tens-other.result.down c.tens-by.result.up b.down t.up v c.times_tens-of_first.ensures other c.tens-by.ensures.up in
    let of_second : w ≡ part t b a = sized b.coefficient b.up c.tens-own.result.down c.tens-by.result.up a.down t.up w c.times_tens-of_second.ensures own c.tens-by.ensures.up in
    let same : beq a.negative b.negative ≡ true = sym c.has_sign_of.ensures ∙ c.if-has_sign_of.true in
    c.is_each_at_most.ensures ∙ (λ i. leb x (y + k i * v) && leb y (x + k i * w)) ∙ part_same t a b x y v w same first second of_first of_second

pub returns : goal.returns
returns c =
    let t = c.args.bound.now in
    let a = c.args.left.now in
    let b = c.args.right.now in
    let x : ℕ = c.times_tens-first.result in
    let y : ℕ = c.times_tens-second.result in
    let v : ℕ = c.times_tens-of_first.result in
    let w : ℕ = c.times_tens-of_second.result in
    let k = c.coefficient-times.ensures in
    let own = c.tens-own.ensures.down in
    let other = c.tens-other.ensures.down in
    let first : x ≡ shared t a b = sized a.coefficient a.up c.tens-other.result.down c.tens-by.result.down b.down t.down x c.times_tens-first.ensures other c.tens-by.ensures.down in
    let second : y ≡ shared t b a = sized b.coefficient b.up c.tens-own.result.down c.tens-by.result.down a.down t.down y c.times_tens-second.ensures own c.tens-by.ensures.down in
    let of_first : v ≡ part t a b = sized a.coefficient a.up c.tens-other.result.down c.tens-by.result.up b.down t.up v c.times_tens-of_first.ensures other c.tens-by.ensures.up in
    let of_second : w ≡ part t b a = sized b.coefficient b.up c.tens-own.result.down c.tens-by.result.up a.down t.up w c.times_tens-of_second.ensures own c.tens-by.ensures.up in
    let other_sign : beq a.negative b.negative ≡ false = sym c.has_sign_of.ensures ∙ c.if-has_sign_of.false in
    c.is_sum_at_most_either.ensures ∙ (λ i. leb (x + y) (k i * v) || leb (x + y) (k i * w)) ∙ part_other t a b x y v w other_sign first second of_first of_second
