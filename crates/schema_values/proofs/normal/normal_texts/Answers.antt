use Rattle.std.proofs.Common.{◌≡◌, ◌<◌, ◌∙◌, ◌++◌, ◌∷◌, [], ℕ, List, length, map, take, arith, ap, sym, subst, Err}
use Rattle.std.proofs.lemmas.List.{map_more, take_all}
use Rattle.std.proofs.lemmas.List.Elements.{All-get_or, All-more}
use Rattle.std.proofs.lemmas.Result.{err_from_is_err_and}
use Rattle.std.specs.List.{All}
use Rattle.diff_tables.specs.Strings.{AreStrings}
use Rattle.json_decimals.specs.Texts.{HasWideExponent, normal_number}
use Rattle.polars_arrays_bytes.specs.OffsetStrings.{offset_strings}
use Rattle.schema_values.specs.Numbers.{IsNarrow, IsNumber}
use Rattle.schema_values.proofs.NumberLemmas.{fault_told}
use Rattle.schema_values.proofs.normal.normal_texts.Goals as goal

pub push_normal-requires : goal.push_normal-requires
push_normal-requires c =
    let xs : List (List ℕ) = offset_strings (λ x. x) c.args.cells.now in
    let low : c.loop-i.i < length xs = omega arith in
    subst IsNumber (sym c.bytes.ensures) (All-get_or IsNumber xs c.loop-i.i [] low c.requires)

pub loop-i-preserved : goal.loop-i-preserved
loop-i-preserved c =
    let xs : List (List ℕ) = offset_strings (λ x. x) c.args.cells.now in
    let low : c.loop-i.i < length xs = omega arith in
    let front : List (List ℕ) = map normal_number (take c.loop-i.i xs) in (
      subst (AreStrings c.push_normal.new.texts) (ap (λ t. front ++ normal_number t ∷ []) c.bytes.ensures ∙ sym (map_more normal_number xs c.loop-i.i [] low)) (c.in_ok-push_normal.ensures.ok front c.loop-i.invariant.0),
      All-more IsNarrow xs c.loop-i.i [] low c.loop-i.invariant.1
          (record { number = All-get_or IsNumber xs c.loop-i.i [] low c.requires; narrow = subst (λ t. ¬ HasWideExponent t) c.bytes.ensures c.in_ok-push_normal.ensures.narrow }),
    )

pub returns : goal.returns
returns c =
    let xs : List (List ℕ) = offset_strings (λ x. x) c.args.cells.now in
    let all : take c.loop-i.i xs ≡ xs = take_all c.loop-i.i xs (omega arith) in
    record {
      strings = subst (λ l. AreStrings c.loop-i.texts (map normal_number l)) all c.loop-i.invariant.0;
      narrow = subst (All IsNarrow) all c.loop-i.invariant.1;
    }

pub returns-in_err-push_normal : goal.returns-in_err-push_normal
returns-in_err-push_normal c =
    let xs : List (List ℕ) = offset_strings (λ x. x) c.args.cells.now in
    let p = err_from_is_err_and c.from_residual-in_err-push_normal.result c.from_residual-in_err-push_normal.ensures.1 in
    rw (p.1, p.2) (fault_told xs c.in_err-push_normal.field-0.0 c.loop-i.i (omega arith) (λ wide. subst HasWideExponent c.bytes.ensures (c.in_err-push_normal.ensures.wide (ap Err wide))))
