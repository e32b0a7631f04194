-- All of the values, if none is missing, a value at a time.
use Rattle.std.proofs.Common.{◌≡◌, ◌++◌, List, [], ◌∷◌, Option, Some, None, refl, sym, ap, append_assoc, append-nil}
use Rattle.std.specs.Prelude.{option_map}
use Rattle.polars_tables_rows.specs.Word.{all_some}

-- a value more in front of the rest
pub onto : {A : Type 0} (before : List A) (x : A) (rest : Option (List A)) → option_map (λ more. before ++ more) (option_map (λ xs. x ∷ xs) rest) ≡ option_map (λ more. (before ++ x ∷ []) ++ more) rest
onto before x None = refl
onto before x (Some xs) = ap Some (sym (append_assoc before (x ∷ []) xs))

-- one value more
pub all_some-more : {A : Type 0} (before : List A) (o : Option A) (x : A) (rest : List (Option A)) → o ≡ Some x → option_map (λ more. before ++ more) (all_some (o ∷ rest)) ≡ option_map (λ more. (before ++ x ∷ []) ++ more) (all_some rest)
all_some-more before o x rest e = rw e (onto before x (all_some rest))

-- a value that is missing
pub all_some-none : {A : Type 0} (before : List A) (o : Option A) (rest : List (Option A)) → o ≡ None → option_map (λ more. before ++ more) (all_some (o ∷ rest)) ≡ None
all_some-none before o rest e = rw e refl

-- no value more
pub all_some-end : {A : Type 0} (before : List A) → option_map (λ more. before ++ more) (all_some {A = A} []) ≡ Some before
all_some-end before = ap Some (append-nil before)
