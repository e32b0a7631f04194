use Rattle.std.proofs.Common.{◌≡◌, ◌∙◌, ◌+◌, ◌++◌, ◌∷◌, [], ap, sym, subst, arith, rules, map}
use Rattle.std.proofs.lemmas.List.FromFn.{map-range_with_len_more}
use Rattle.std.specs.Fmt.{decimal}
use Rattle.std.specs.List.{range_with_len}
use Rattle.diff_tables.specs.Strings.{AreStrings}
use Rattle.diff_csv.proofs.names.number_names.Goals as goal

pub loop-i-preserved : goal.loop-i-preserved
loop-i-preserved c =
    let before = map decimal (range_with_len 1 c.loop-i.i) in
    let more = map-range_with_len_more decimal 1 c.loop-i.i (c.loop-i.i + 1) (omega arith) in
    let name : c.as_bytes.result.now ≡ decimal (c.loop-i.i + 1) = search rules in
    let is = ap (λ x. map decimal (range_with_len 1 c.loop-i.i) ++ x ∷ []) name ∙ sym more in
    subst (λ l. AreStrings c.push.new.self l) is (c.in_ok-push.ensures before c.loop-i.invariant)

pub into_array-requires : goal.into_array-requires
into_array-requires c = (map decimal (range_with_len 1 c.loop-i.i), c.loop-i.invariant)

pub returns : goal.returns
returns c =
    let end : c.loop-i.i ≡ c.args.count = omega arith in
    c.in_ok-array.ensures.1 (map decimal (range_with_len 1 c.loop-i.i)) c.loop-i.invariant ∙ ap (λ n. map decimal (range_with_len 1 n)) end
