use Rattle.std.proofs.Common.{◌≡◌, ◌++◌, length, true, arith, rules, subst, sym}
use Rattle.std.specs.Fmt.{decimal}
use Rattle.diff_json.proofs.Pieces.{piece}
use Rattle.document_words.specs.Skipped.{skipped_members}
use Rattle.document_words.proofs.skipped.push_skipped_members.Goals as goal

pub returns : goal.returns
unfolding skipped_members
returns c =
    let old = c.args.out.now.items in
    let told : c.args.sides.now.skip_bad ≡ true = search rules in
    let left : c.len.result ≡ length c.args.sides.now.left_skipped.items = omega arith in
    let right : c.len-2.result ≡ length c.args.sides.now.right_skipped.items = omega arith in
    let first : c.push_decimal.new.out.items ≡ c.extend_from_slice.new.self.items ++ decimal (length c.args.sides.now.left_skipped.items) = rw (← left) c.in_ok-push_decimal.ensures in
    let second : c.push_decimal-2.new.out.items ≡ c.extend_from_slice-2.new.self.items ++ decimal (length c.args.sides.now.right_skipped.items) = rw (← right) c.in_ok-push_decimal-2.ensures in
    subst (λ b. c.push_decimal-2.new.out.items ≡ old ++ skipped_members b (length c.args.sides.now.left_skipped.items) (length c.args.sides.now.right_skipped.items)) (sym told)
    (piece old _ _ _ _ (piece old _ _ _ _ (piece old _ _ _ _ c.in_ok-extend_from_slice.ensures.items first) c.in_ok-extend_from_slice-2.ensures.items) second)
