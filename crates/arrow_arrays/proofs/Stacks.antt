-- Stacks of arrays that stand for the columns of parts.
use Rattle.std.proofs.Common.{◌≡◌, ℕ, zero, suc, ◌+◌, ◌-◌, List, [], ◌∷◌, ◌++◌, ◌<◌, ◌≤◌, length, get_or, take, drop, reverse, refl, sym, ap, subst, ◌∙◌, arith, append_assoc}
use Rattle.std.proofs.Math.Seq.{drop-cons, take-suc}
use Rattle.std.proofs.lemmas.List.{drop_all, length-append, length-reverse, map-append, reverse-append, take_all}
use Rattle.std.proofs.lemmas.List.Elements.{All-cons, All-nil}
use Rattle.std.specs.List.{All}
use Rattle.std.specs.Str.{IsUtf8}
use Rattle.polars_arrays_flat.specs.DataType.{kind_of}
use Rattle.polars_arrays_flat.specs.declared.data_type.Field.{Field}
use Rattle.polars_arrays_nested.specs.GoodParts.{IsGood}
use Rattle.polars_arrays_nested.specs.Types.{type_of}
use Rattle.polars_arrays_nested.specs.declared.any_array.AnyArray.{AnyArray}
use Rattle.arrow_parts.specs.Kinds.{kind_number}
use Rattle.arrow_parts.specs.Refusals.{IsHonest}
use Rattle.arrow_parts.specs.declared.part.Part.{Part}
use Rattle.arrow_parts.specs.declared.part.PartKind.{PartKind}
use Rattle.std.specs.Prelude.{Option, Some, None, string_bytes}
use Rattle.arrow_parts.specs.declared.refused.Refused.{Refused}
use Rattle.arrow_parts.specs.declared.refused.Refused.TheVariants.{Memory}
use Rattle.arrow_arrays.proofs.Honest.{honest-more}
use Rattle.arrow_arrays.proofs.Standing.{length-stand}
use Rattle.arrow_arrays.specs.Columns.{Column, column_of, columns_of, only, rows_of_parts, stacked}
use Rattle.arrow_arrays.specs.Good.{AllGood, AreGoodParts, GoodPart, GoodRows}
use Rattle.arrow_arrays.specs.Shapes.{CanFill, FitsPart, GoodShape, IsHonestOver, SameColumn, shape_column}
use Rattle.arrow_arrays.specs.Stacks.{AllFit, AreTaken, IsRefusedStep, IsStep, IsStepGood, Stacks, WasGood}
use Rattle.arrow_arrays.specs.Stands.{AllNamed, AllStand, AreTyped, CanFillWith, Fills, IsHonestFill, Stands, field_names}
use Rattle.arrow_arrays.specs.declared.shapes.Shape.{Shape}

-- ---- shapes

fit-snoc : (ps : List Part) (ss : List Shape) (p : Part) (s : Shape) → AllFit ps ss → FitsPart p s → AllFit (ps ++ p ∷ []) (ss ++ s ∷ [])
fit-snoc [] [] p s all new = (new, tt)
fit-snoc [] (t ∷ ss) p s all new = absurd all
fit-snoc (q ∷ ps) [] p s all new = absurd all
fit-snoc (q ∷ ps) (t ∷ ss) p s all new = (all.0, fit-snoc ps ss p s all.1 new)

pub fit-more : (ps : List Part) (was shapes : List Shape) (p : Part) (s : Shape) → shapes ≡ was ++ s ∷ [] → AllFit ps was → FitsPart p s → AllFit (ps ++ p ∷ []) shapes
fit-more ps was shapes p s new all fits = subst (AllFit (ps ++ p ∷ [])) (sym new) (fit-snoc ps was p s all fits)

-- one part more
pub fit-next : (parts : List Part) (i : ℕ) (d : Part) (was shapes : List Shape) → i < length parts → AllFit (take i parts) was → ((ps : List Part) → AllFit ps was → AllFit (ps ++ get_or parts i d ∷ []) shapes) → AllFit (take (i + 1) parts) shapes
fit-next parts i d was shapes low all step =
    let at : suc i ≡ i + 1 = omega arith in
    subst (λ n. AllFit (take n parts) shapes) at (subst (λ ps. AllFit ps shapes) (sym (take-suc parts i d low)) (step (take i parts) all))

pub fit-all : (parts : List Part) (i : ℕ) (shapes : List Shape) → length parts ≤ i → AllFit (take i parts) shapes → AllFit parts shapes
fit-all parts i shapes end all = subst (λ ps. AllFit ps shapes) (take_all i parts end) all

unfit : (ps : List Part) (p : Part) → AllFit (ps ++ p ∷ []) [] → ⊥
unfit [] p all = all
unfit (q ∷ ps) p all = all

unfit-one : (ss : List Shape) (s : Shape) → AllFit [] (ss ++ s ∷ []) → ⊥
unfit-one [] s all = all
unfit-one (t ∷ ss) s all = all

fit-last : (ps : List Part) (ss : List Shape) (p : Part) (s : Shape) → AllFit (ps ++ p ∷ []) (ss ++ s ∷ []) → AllFit ps ss × FitsPart p s
fit-last [] [] p s all = (tt, all.0)
fit-last [] (t ∷ ss) p s all = absurd (unfit-one ss s all.1)
fit-last (q ∷ ps) [] p s all = absurd (unfit ps p all.1)
fit-last (q ∷ ps) (t ∷ ss) p s all =
    let rest = fit-last ps ss p s all.1 in
    ((all.0, rest.0), rest.1)

last-good : (ps : List Part) (ss : List Shape) (s : Shape) → AllFit ps (ss ++ s ∷ []) → GoodShape s
last-good [] [] s all = absurd all
last-good [] (t ∷ ss) s all = absurd all
last-good (p ∷ ps) [] s all = all.0.good
last-good (p ∷ ps) (t ∷ ss) s all = last-good ps ss s all.1

pub shape-good : (was ss : List Shape) (s : Shape) → was ≡ ss ++ s ∷ [] → ((ps : List Part) × AllFit ps was) → GoodShape s
shape-good was ss s top some = last-good some.0 ss s (subst (AllFit some.0) top some.1)

-- ---- arrays

all-good : (arrays : List AnyArray) (cs : List Column) → AllStand arrays cs → All IsGood arrays
all-good [] cs all = All-nil IsGood
all-good (a ∷ arrays) [] all = absurd all
all-good (a ∷ arrays) (c ∷ cs) all = All-cons IsGood a arrays all.0.good (all-good arrays cs all.1)

-- the first arrays stand for the first columns, and the others for the others
stand-split : (xs ys : List AnyArray) (cs : List Column) (n : ℕ) → length xs ≡ n → AllStand (xs ++ ys) cs → AllStand xs (take n cs) × AllStand ys (drop n cs)
stand-split [] ys cs zero long all = (tt, all)
stand-split [] ys cs (suc n) long all = absurd (omega arith)
stand-split (x ∷ xs) ys cs zero long all = absurd (omega arith)
stand-split (x ∷ xs) ys [] (suc n) long all = absurd all
stand-split (x ∷ xs) ys (c ∷ cs) (suc n) long all =
    let rest = stand-split xs ys cs n (omega arith) all.1 in
    ((all.0, rest.0), rest.1)

-- arrays that were taken from a stack
pub taken-good : (count : ℕ) (taken was left : List AnyArray) → AreTaken count taken was left → ((cs : List Column) × AllStand (reverse was) cs) → All IsGood taken
taken-good count taken was left are some =
    let both = stand-split taken (reverse left) some.0 count are.count_is (subst (λ xs. AllStand xs some.0) (sym are.order) some.1) in
    all-good taken (take count some.0) both.0

pub take-none : {A : Type 0} (was : List A) → AreTaken 0 [] was was
take-none was = record { count_is = refl; order = refl }

pub take-more : {A : Type 0} (k : ℕ) (taken new was stack left : List A) (a : A) → AreTaken k taken was stack → stack ≡ left ++ a ∷ [] → new ≡ taken ++ a ∷ [] → AreTaken (k + 1) new was left
take-more k taken new was stack left a are top is = record {
  count_is = ap length is ∙ length-append taken (a ∷ []) ∙ ap (λ n. n + 1) are.count_is;
  order =
      ap (λ xs. xs ++ reverse left) is
      ∙ append_assoc taken (a ∷ []) (reverse left)
      ∙ ap (λ r. taken ++ r) (sym (ap reverse top ∙ reverse-append left (a ∷ [])))
      ∙ are.order;
}

stands-as : (a : AnyArray) (c d : Column) → Stands a c → SameColumn c d → Stands a d
stands-as a c d stands same = record { good = stands.good; kind = stands.kind ∙ same.kind; len = stands.len ∙ same.len; rows = λ i. stands.rows i ∙ same.rows i; leaves = λ from n. stands.leaves from n ∙ same.leaves from n }

-- the first names are those of the first columns, and the others of the others
name-split : (xs ys : List (List ℕ)) (cs : List Column) (n : ℕ) → length xs ≡ n → AllNamed (xs ++ ys) cs → AllNamed xs (take n cs) × AllNamed ys (drop n cs)
name-split [] ys cs zero long all = (tt, all)
name-split [] ys cs (suc n) long all = absurd (omega arith)
name-split (x ∷ xs) ys cs zero long all = absurd (omega arith)
name-split (x ∷ xs) ys [] (suc n) long all = absurd all
name-split (x ∷ xs) ys (c ∷ cs) (suc n) long all =
    let rest = name-split xs ys cs n (omega arith) all.1 in
    ((all.0, rest.0), rest.1)

-- the array of the last shape
pub made-step : (count : ℕ) (was shapes : List Shape) (s : Shape) (fields : List Field) (taken stack left : List AnyArray) (was_names names : List (List ℕ)) (a : AnyArray) → was ≡ shapes ++ s ∷ [] → AreTaken count taken stack left → AreTaken count (field_names fields) was_names names → Fills s fields taken a → IsStep count was shapes stack left was_names names a
made-step count was shapes s fields taken stack left was_names names a top are called fills p ps cs same fit all named =
    let parts = fit-last ps shapes p s (subst (AllFit (ps ++ p ∷ [])) top fit) in
    let both = stand-split taken (reverse left) cs p.children (are.count_is ∙ sym same) (subst (λ xs. AllStand xs cs) (sym are.order) all) in
    let words = name-split (field_names fields) (reverse names) cs p.children (called.count_is ∙ sym same) (subst (λ xs. AllNamed xs cs) (sym called.order) named) in
    let stands : Stands a (shape_column s (take p.children cs)) = fills (take p.children cs) both.0 words.0 in
    (parts.0, (stands-as a (shape_column s (take p.children cs)) (column_of (kind_number p.kind) p (take p.children cs)) stands (parts.1.fits (take p.children cs)), both.1), words.1)

pub pushed-step : (count : ℕ) (was shapes : List Shape) (stack left new : List AnyArray) (was_names names : List (List ℕ)) (a : AnyArray) → IsStep count was shapes stack left was_names names a → new ≡ left ++ a ∷ [] → Stacks count was shapes stack new was_names names
pushed-step count was shapes stack left new was_names names a step is p ps cs same fit all named =
    let made = step p ps cs same fit all named in
    (made.0, subst (λ xs. AllStand xs (stacked p cs)) (sym (ap reverse is ∙ reverse-append left (a ∷ []))) made.1, made.2)

-- ---- all parts

-- the stack, its names and the shapes after i of the parts, from the last one on
pub record AreStacked (parts : List Part) (i : ℕ) (shapes : List Shape) (stack : List AnyArray) (names : List (List ℕ)) : Type 0 where
  pub fit : AllFit (take (length parts - i) parts) shapes
  pub stand : AllStand (reverse stack) (columns_of (drop (length parts - i) parts))
  pub named : AllNamed (reverse names) (columns_of (drop (length parts - i) parts))
  pub good : AllGood (drop (length parts - i) parts)

pub none-stacked : (parts : List Part) (shapes : List Shape) → AllFit parts shapes → AreStacked parts 0 shapes [] []
none-stacked parts shapes fit = record {
  fit = subst (λ ps. AllFit ps shapes) (sym (take_all (length parts - 0) parts (omega arith))) fit;
  stand = subst (λ ps. AllStand [] (columns_of ps)) (sym (drop_all (length parts - 0) parts (omega arith))) tt;
  named = subst (λ ps. AllNamed [] (columns_of ps)) (sym (drop_all (length parts - 0) parts (omega arith))) tt;
  good = subst AllGood (sym (drop_all (length parts - 0) parts (omega arith))) tt;
}

take-next : (parts : List Part) (i : ℕ) (p d : Part) → i < length parts → get_or parts (length parts - 1 - i) d ≡ p → take (length parts - i) parts ≡ take (length parts - (i + 1)) parts ++ p ∷ []
take-next parts i p d low is =
    let at : length parts - i ≡ suc (length parts - 1 - i) = omega arith in
    let begin : length parts - 1 - i ≡ length parts - (i + 1) = omega arith in
    ap (λ n. take n parts) at
    ∙ take-suc parts (length parts - 1 - i) d (omega arith)
    ∙ ap (λ x. take (length parts - 1 - i) parts ++ x ∷ []) is
    ∙ ap (λ n. take n parts ++ p ∷ []) begin

drop-next : (parts : List Part) (i : ℕ) (p d : Part) → i < length parts → get_or parts (length parts - 1 - i) d ≡ p → drop (length parts - (i + 1)) parts ≡ p ∷ drop (length parts - i) parts
drop-next parts i p d low is =
    let at : length parts - (i + 1) ≡ length parts - 1 - i = omega arith in
    let next : suc (length parts - 1 - i) ≡ length parts - i = omega arith in
    let within : length parts - 1 - i < length parts = omega arith in
    ap (λ k. drop k parts) at ∙ drop-cons parts (length parts - 1 - i) d within ∙ ap (λ x. x ∷ drop (suc (length parts - 1 - i)) parts) is ∙ ap (λ k. p ∷ drop k parts) next

column-name : (k : Option PartKind) (p : Part) (cs : List Column) → p.name.now ≡ (column_of k p cs).name
column-name None p cs = refl
column-name (Some k) p cs = refl

-- the name of a part on top of those that are left
name-put : (p : Part) (cs : List Column) (names new : List (List ℕ)) → new ≡ names ++ p.name.now ∷ [] → AllNamed (reverse names) (drop p.children cs) → AllNamed (reverse new) (stacked p cs)
name-put p cs names new is named =
    subst (λ xs. AllNamed xs (stacked p cs)) (sym (ap reverse is ∙ reverse-append names (p.name.now ∷ []))) (column-name (kind_number p.kind) p (take p.children cs), named)

pub one-stacked : (parts : List Part) (i : ℕ) (p d : Part) (was shapes : List Shape) (stack new : List AnyArray) (was_names names new_names : List (List ℕ)) → i < length parts → get_or parts (length parts - 1 - i) d ≡ p → AreStacked parts i was stack was_names → Stacks p.children was shapes stack new was_names names → WasGood p.children was stack → IsUtf8 p.name.now → new_names ≡ names ++ p.name.now ∷ [] → AreStacked parts (i + 1) shapes new new_names
one-stacked parts i p d was shapes stack new was_names names new_names low is are step good name put =
    let cs = columns_of (drop (length parts - i) parts) in
    let fit = subst (λ ps. AllFit ps was) (take-next parts i p d low is) are.fit in
    let made = step p (take (length parts - (i + 1)) parts) cs refl fit are.stand are.named in
    let part = good p (take (length parts - (i + 1)) parts) cs refl fit are.stand in
    let next = sym (drop-next parts i p d low is) in
    record {
      fit = made.0;
      stand = subst (λ ps. AllStand (reverse new) (columns_of ps)) next made.1;
      named = subst (λ ps. AllNamed (reverse new_names) (columns_of ps)) next (name-put p cs names new_names put made.2);
      good = subst AllGood next (record { name = name; children = part.children; rows = part.rows }, are.good);
    }

stand-only : (a : AnyArray) (cs : List Column) → AllStand (a ∷ []) cs → Stands a (only cs)
stand-only a [] all = absurd all
stand-only a (c ∷ []) all = all.0
stand-only a (c ∷ d ∷ cs) all = absurd all.1

pub all-stacked : (parts : List Part) (i : ℕ) (shapes : List Shape) (stack : List AnyArray) (names : List (List ℕ)) (a : AnyArray) → i ≡ length parts → stack ≡ a ∷ [] → AreStacked parts i shapes stack names → Stands a (rows_of_parts parts)
all-stacked parts i shapes stack names a end one are =
    let none : length parts - i ≡ 0 = omega arith in
    stand-only a (columns_of parts) (subst (λ k. AllStand (a ∷ []) (columns_of (drop k parts))) none (subst (λ xs. AllStand (reverse xs) (columns_of (drop (length parts - i) parts))) one are.stand))

-- parts that were all stacked as one array are good
pub all-parts-good : (parts : List Part) (i : ℕ) (shapes : List Shape) (stack : List AnyArray) (names : List (List ℕ)) (a : AnyArray) → i ≡ length parts → stack ≡ a ∷ [] → AreStacked parts i shapes stack names → AreGoodParts parts
all-parts-good parts i shapes stack names a end one are =
    let none : length parts - i ≡ 0 = omega arith in
    let stand : AllStand (a ∷ []) (columns_of parts) = subst (λ k. AllStand (a ∷ []) (columns_of (drop k parts))) none (subst (λ xs. AllStand (reverse xs) (columns_of (drop (length parts - i) parts))) one are.stand) in
    record {
      all = subst (λ k. AllGood (drop k parts)) none are.good;
      one = sym (length-stand (a ∷ []) (columns_of parts) stand);
    }

-- what was taken and what is left are all
pub taken-length : (count : ℕ) (taken was left : List AnyArray) → AreTaken count taken was left → length was ≡ count + length left
taken-length count taken was left are =
    sym (length-reverse was) ∙ sym (ap length are.order) ∙ length-append taken (reverse left) ∙ ap (λ n. n + length (reverse left)) are.count_is ∙ ap (λ n. count + n) (length-reverse left)

-- the array of the last shape was made
pub made-good : (count : ℕ) (was shapes : List Shape) (s : Shape) (taken stack left : List AnyArray) → was ≡ shapes ++ s ∷ [] → AreTaken count taken stack left → CanFillWith s taken → WasGood count was stack
made-good count was shapes s taken stack left top are can p ps cs same fit all =
    let parts = fit-last ps shapes p s (subst (AllFit (ps ++ p ∷ [])) top fit) in
    let both = stand-split taken (reverse left) cs p.children (are.count_is ∙ sym same) (subst (λ xs. AllStand xs cs) (sym are.order) all) in
    let long : length stack ≡ length cs = sym (length-reverse stack) ∙ length-stand (reverse stack) cs all in
    record {
      children = omega (arith, same, long, taken-length count taken stack left are);
      rows = (parts.1.fills (take p.children cs)).1 (can (take p.children cs) both.0);
    }

-- ---- fields

typed-snoc : (fields : List Field) (arrays : List AnyArray) (field : Field) (a : AnyArray) → AreTyped fields arrays → type_of a ≡ kind_of field.dtype → AreTyped (fields ++ field ∷ []) (arrays ++ a ∷ [])
typed-snoc [] [] field a typed is = (is, tt)
typed-snoc [] (b ∷ arrays) field a typed is = absurd typed
typed-snoc (f ∷ fields) [] field a typed is = absurd typed
typed-snoc (f ∷ fields) (b ∷ arrays) field a typed is = (typed.0, typed-snoc fields arrays field a typed.1 is)

-- one field more
pub typed-more : (fields new : List Field) (arrays : List AnyArray) (i : ℕ) (d : AnyArray) (field : Field) → i < length arrays → AreTyped fields (take i arrays) → type_of (get_or arrays i d) ≡ kind_of field.dtype → new ≡ fields ++ field ∷ [] → AreTyped new (take (i + 1) arrays)
typed-more fields new arrays i d field low typed is pushed =
    let at : suc i ≡ i + 1 = omega arith in
    subst (λ n. AreTyped new (take n arrays)) at
    (subst (AreTyped new) (sym (take-suc arrays i d low))
    (subst (λ fs. AreTyped fs (take i arrays ++ get_or arrays i d ∷ [])) (sym pushed) (typed-snoc fields (take i arrays) field (get_or arrays i d) typed is)))

pub typed-all : (fields : List Field) (arrays : List AnyArray) (i : ℕ) → length arrays ≤ i → AreTyped fields (take i arrays) → AreTyped fields arrays
typed-all fields arrays i end = subst (AreTyped fields) (take_all i arrays end)

-- one name more
pub named-more : (k : ℕ) (fields new : List Field) (field : Field) (was stack left : List (List ℕ)) → AreTaken k (field_names fields) was stack → stack ≡ left ++ string_bytes field.name ∷ [] → new ≡ fields ++ field ∷ [] → AreTaken (k + 1) (field_names new) was left
named-more k fields new field was stack left are top is =
    take-more k (field_names fields) (field_names new) was stack left (string_bytes field.name) are top (ap field_names is ∙ map-append (λ f. string_bytes f.name) fields (field ∷ []))

-- ---- refusals

pub memory-step : (count : ℕ) (shapes : List Shape) (stack : List AnyArray) (r : Refused) → r ≡ Memory → IsRefusedStep count shapes stack r
memory-step count shapes stack r is p ps cs same fit all = subst (IsHonest (IsStepGood p cs)) (sym is) tt

pub few-refused : (count : ℕ) (shapes : List Shape) (stack : List AnyArray) (r : Refused) → IsHonest (count ≤ length stack) r → IsRefusedStep count shapes stack r
few-refused count shapes stack r honest p ps cs same fit all =
    let long : length stack ≡ length cs = sym (length-reverse stack) ∙ length-stand (reverse stack) cs all in
    honest-more (count ≤ length stack) (IsStepGood p cs) r honest (λ good. omega (arith, same, long, good.children))

pub none-refused : (count : ℕ) (shapes : List Shape) (stack : List AnyArray) (r : Refused) → length shapes ≡ 0 → IsRefusedStep count shapes stack r
none-refused count [] stack r none p ps cs same fit all = absurd (unfit ps p fit)
none-refused count (s ∷ shapes) stack r none p ps cs same fit all = absurd (omega arith)

pub made-refused : (count : ℕ) (was shapes : List Shape) (s : Shape) (taken stack left : List AnyArray) (r : Refused) → was ≡ shapes ++ s ∷ [] → AreTaken count taken stack left → IsHonestFill s taken r → IsRefusedStep count was stack r
made-refused count was shapes s taken stack left r top are honest p ps cs same fit all =
    let parts = fit-last ps shapes p s (subst (AllFit (ps ++ p ∷ [])) top fit) in
    let both = stand-split taken (reverse left) cs p.children (are.count_is ∙ sym same) (subst (λ xs. AllStand xs cs) (sym are.order) all) in
    honest-more (CanFill s (take p.children cs)) (IsStepGood p cs) r (honest (take p.children cs) both.0)
    (λ good. (parts.1.fills (take p.children cs)).0 good.rows)

-- part j is good before the columns of those after it
good-at : (parts : List Part) (j : ℕ) (d : Part) → j < length parts → AllGood parts → GoodPart (get_or parts j d) (columns_of (drop (suc j) parts))
good-at [] j d low all = absurd (omega arith)
good-at (p ∷ parts) zero d low all = all.0
good-at (p ∷ parts) (suc j) d low all = good-at parts j d (omega (arith, low)) all.1

pub shape-refused : (parts : List Part) (i : ℕ) (d : Part) (r : Refused) → i < length parts → IsHonestOver (GoodRows (kind_number (get_or parts i d).kind) (get_or parts i d)) r → IsHonest (AllGood parts) r
shape-refused parts i d r low honest =
    let p = get_or parts i d in
    let cs = take p.children (columns_of (drop (suc i) parts)) in
    honest-more (GoodRows (kind_number p.kind) p cs) (AllGood parts) r (honest cs) (λ all. (good-at parts i d low all).rows)

pub shapes-refused : (parts : List Part) (r : Refused) → IsHonest (AllGood parts) r → IsHonest (AreGoodParts parts) r
shapes-refused parts r honest = honest-more (AllGood parts) (AreGoodParts parts) r honest (λ good. good.all)

pub step-refused : (parts : List Part) (i : ℕ) (p d : Part) (shapes : List Shape) (stack : List AnyArray) (names : List (List ℕ)) (r : Refused) → i < length parts → get_or parts (length parts - 1 - i) d ≡ p → AreStacked parts i shapes stack names → IsRefusedStep p.children shapes stack r → IsHonest (AreGoodParts parts) r
step-refused parts i p d shapes stack names r low is are refused =
    let fit = subst (λ ps. AllFit ps shapes) (take-next parts i p d low is) are.fit in
    let cs = columns_of (drop (length parts - i) parts) in
    let next : suc (length parts - 1 - i) ≡ length parts - i = omega arith in
    let honest = refused p (take (length parts - (i + 1)) parts) cs refl fit are.stand in
    honest-more (IsStepGood p cs) (AreGoodParts parts) r honest
    (λ good.
    let part : GoodPart p cs = subst (λ q. GoodPart q cs) is (subst (λ k. GoodPart (get_or parts (length parts - 1 - i) d) (columns_of (drop k parts))) next (good-at parts (length parts - 1 - i) d (omega arith) good.all)) in
    record { children = part.children; rows = part.rows })

pub name-refused : (parts : List Part) (j : ℕ) (d : Part) (r : Refused) → j < length parts → IsHonest (IsUtf8 (get_or parts j d).name.now) r → IsHonest (AreGoodParts parts) r
name-refused parts j d r low honest =
    honest-more (IsUtf8 (get_or parts j d).name.now) (AreGoodParts parts) r honest (λ good. (good-at parts j d low good.all).name)

pub one-array-refused : (parts : List Part) (i : ℕ) (shapes : List Shape) (stack : List AnyArray) (names : List (List ℕ)) (r : Refused) → i ≡ length parts → AreStacked parts i shapes stack names → IsHonest (length stack ≡ 1) r → IsHonest (AreGoodParts parts) r
one-array-refused parts i shapes stack names r end are honest =
    let none : length parts - i ≡ 0 = omega arith in
    let long : length (reverse stack) ≡ length (columns_of parts) = length-stand (reverse stack) (columns_of parts) (subst (λ k. AllStand (reverse stack) (columns_of (drop k parts))) none are.stand) in
    honest-more (length stack ≡ 1) (AreGoodParts parts) r honest (λ good. sym (length-reverse stack) ∙ long ∙ good.one)

pub ruleset stacks = (fit-more, shape-good, taken-good, take-none, made-step, pushed-step, memory-step, few-refused, none-refused, made-refused, made-good, shapes-refused)
