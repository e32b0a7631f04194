use Rattle.std.proofs.Common.{◌≡◌, ◌<◌, ◌∙◌, rules, Bool, List, ap, ap₂, arith, length, refl, subst, sym}
use Rattle.std.specs.Option.{option_copied}
use Rattle.std.specs.Prelude.{◌&&◌, IfSome, Option}
use Rattle.polars_arrays_flat.specs.Validity.{is_present}
use Rattle.arrow_parts.specs.Lent.{places_from, present_in}
use Rattle.arrow_arrays.proofs.SlotLemmas.{rows-bits}
use Rattle.arrow_equality.proofs.LentPlaces.{length-lent}
use Rattle.arrow_equality.proofs.ListPlaces.{bit-there, good-span, items-more}
use Rattle.arrow_equality.proofs.lists.count_items.Goals as goal

pub list_at-n-requires-clause-good : goal.list_at-n-requires-clause-good
list_at-n-requires-clause-good g c κs within =
    good-span _ (places_from c.args.left.now.base g.O.Number.value c.args.offsets.now) c.loop-i.i c.requires.good.1 (omega (arith, c.requires.rows, c.loop-i-test.true, length-lent g.O.Number.value c.args.left.now.base c.args.offsets.now))

pub is_present-requires : goal.is_present-requires
is_present-requires g c =
    let p = c.args.left.now in
    let mask : option_copied c.as_ref.result ≡ present_in c.args.left.now = search rules in
    subst (λ (v : Option (List Bool)). IfSome v (λ bits. c.loop-i.i < length bits)) (sym mask) (bit-there (present_in p) p.rows c.loop-i.i (rows-bits p p.rows (present_in p) refl refl) c.loop-i-test.true)

pub is_present-requires-in-loop-i : goal.is_present-requires-in-loop-i
is_present-requires-in-loop-i g c =
    let p = c.args.right.now in
    let mask : option_copied c.as_ref-in-loop-i.result ≡ present_in c.args.right.now = search rules in
    subst (λ (v : Option (List Bool)). IfSome v (λ bits. c.loop-i.i < length bits)) (sym mask) (bit-there (present_in p) p.rows c.loop-i.i (rows-bits p p.rows (present_in p) refl refl) (omega (arith, c.loop-i-test.true, c.requires.one_length)))

pub loop-i-preserved : goal.loop-i-preserved
loop-i-preserved g c =
    let i = c.loop-i.i in
    let left : option_copied c.as_ref.result ≡ present_in c.args.left.now = search rules in
    let right : option_copied c.as_ref-in-loop-i.result ≡ present_in c.args.right.now = search rules in
    let all = places_from c.args.left.now.base g.O.Number.value c.args.offsets.now in
    let both = ap₂ (λ (a b : Bool). a && b) (c.is_present.ensures ∙ ap (λ (v : Option (List Bool)). is_present v i) left) (c.is_present-in-loop-i.ensures ∙ ap (λ (v : Option (List Bool)). is_present v i) right) in
    c.add.ensures
    ∙ items-more (present_in c.args.left.now) (present_in c.args.right.now) all i c.loop-i.steps c.counted.result c.list_at-n.result.1 (c.is_present.result && c.is_present-in-loop-i.result) c.loop-i.invariant both c.list_at-n.ensures.size c.counted.ensures
