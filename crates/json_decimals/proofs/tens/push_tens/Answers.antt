use Rattle.std.proofs.Common.{◌≡◌, ◌++◌, ◌∷◌, [], arith, ap, sym, ◌∙◌, append_assoc, append-nil}
use Rattle.std.specs.Fmt.{decimal}
use Rattle.json_decimals.proofs.TensLemmas.{text_of_none, text_of_up, text_of_down}
use Rattle.json_decimals.proofs.tens.push_tens.Goals as goal

pub returns-in_ok-extend_from_slice : goal.returns-in_ok-extend_from_slice
returns-in_ok-extend_from_slice c =
    let digits : c.as_bytes.result.now ≡ decimal c.args.tens.up = c.as_bytes.ensures.value ∙ c.format.ensures.text in
    c.in_ok-extend_from_slice.ensures.items ∙ ap (λ x. c.push.new.self.items ++ x) digits ∙ ap (λ x. x ++ decimal c.args.tens.up) c.in_ok-push.ensures.items
    ∙ append_assoc c.args.out.now.items (101 ∷ []) (decimal c.args.tens.up) ∙ ap (λ x. c.args.out.now.items ++ x) (sym (text_of_up c.args.tens.up c.args.tens.down (omega arith) (omega arith)))

pub returns-in_ok-extend_from_slice-3 : goal.returns-in_ok-extend_from_slice-3
returns-in_ok-extend_from_slice-3 c =
    let digits : c.as_bytes-then-tens-gt0-2.result.now ≡ decimal c.args.tens.down = c.as_bytes-then-tens-gt0-2.ensures.value ∙ c.format-then-tens-gt0-2.ensures.text in
    c.in_ok-extend_from_slice-3.ensures.items ∙ ap (λ x. c.extend_from_slice-then-tens-gt0-2.new.self.items ++ x) digits
    ∙ ap (λ x. x ++ decimal c.args.tens.down) c.in_ok-extend_from_slice-2.ensures.items
    ∙ append_assoc c.args.out.now.items (101 ∷ 45 ∷ []) (decimal c.args.tens.down) ∙ ap (λ x. c.args.out.now.items ++ x) (sym (text_of_down c.args.tens.up c.args.tens.down (omega arith) (omega arith) (omega arith)))

pub returns-else-tens-gt0-2 : goal.returns-else-tens-gt0-2
returns-else-tens-gt0-2 c = sym (append-nil c.args.out.now.items) ∙ ap (λ x. c.args.out.now.items ++ x) (sym (text_of_none c.args.tens.up c.args.tens.down (omega arith) (omega arith)))
