use Rattle.std.proofs.Common.{◌≡◌, ◌+◌, length, true, false, arith, subst, ◌∙◌, sym}
use Rattle.std.proofs.lemmas.Grind.{common_steps}
use Rattle.std.specs.Prelude.{slice_index_or}
use Rattle.diff_keys.specs.Rising.{ListsRising}
use Rattle.diff_keys.specs.RisingLaws.{none_listed, one_listed, one_passed}
use Rattle.diff_pairs.specs.Pairs.{IsUnset}
use Rattle.diff_pairs.proofs.PairLemmas.{bit_at}
use Rattle.diff_pairs.proofs.unset.unset_places.Goals.{then-not-get_bit+in_ok-push, else-not-get_bit}
use Rattle.diff_pairs.proofs.unset.unset_places.Goals as goal

pub loop-p-init : goal.loop-p-init
loop-p-init c = rw c.new-places.ensures.items (none_listed (IsUnset c.args.bits.now))

pub loop-p-preserved : goal.loop-p-preserved
loop-p-preserved c =
    let bit : slice_index_or c.args.bits.now c.loop-p.p false ≡ c.get_bit.result = bit_at c.args.bits.now c.loop-p.p c.get_bit.result c.get_bit.ensures in
    elim c.if-not-get_bit.branch [
      | then-not-get_bit+in_ok-push w ↦
          let off : c.get_bit.result ≡ false = grind (arith, common_steps, w.if-not-get_bit.true) in
          rw (w.places-is, w.in_ok-push.ensures.items) (one_listed (IsUnset c.args.bits.now) c.loop-p.p (c.loop-p.p + 1) c.loop-p.places.items c.loop-p.invariant (bit ∙ off) (omega arith))
      | else-not-get_bit w ↦
          let on : c.get_bit.result ≡ true = grind (arith, common_steps, w.if-not-get_bit.false) in
          rw w.places-is (one_passed (IsUnset c.args.bits.now) c.loop-p.p (c.loop-p.p + 1) c.loop-p.places.items c.loop-p.invariant (λ unset. let clash : true ≡ false = sym (bit ∙ on) ∙ unset in absurd (cc)) (omega arith))
    ]

pub returns : goal.returns
returns c =
    let all : c.loop-p.p ≡ length c.args.bits.now = omega arith in
    subst (λ n. ListsRising (IsUnset c.args.bits.now) n c.loop-p.places.items) all c.loop-p.invariant
