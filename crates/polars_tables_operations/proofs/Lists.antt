-- What lists, scalars and ends lead to, where what they are is known.
use Rattle.std.proofs.Common.{◌≡◌, List, [], ◌∷◌, map, ap}
use Rattle.std.specs.Prelude.{ℤ, Result, Ok, Err}
use Rattle.polars_arrays_flat.specs.Row.{Row, Null, Int, Truth, Bytes, Rows, Fields, Entry}
use Rattle.polars_tables_rows.specs.declared.fault.LineError.{LineError}
use Rattle.polars_tables_rows.specs.declared.fault.LineError.TheVariants.{Length, Range}
use Rattle.polars_tables_rows.specs.Faults.{of_ends, of_number, of_number_scalar, of_one, of_two}

-- ---- lists

module _ {A R B : Type 0} (f : A → R) where
  pub one-ok : (xs : List A) (x : A) (answer : R → Result B LineError) → of_one {B = A} xs (λ y. Ok y) ≡ Ok x → of_one (map f xs) answer ≡ answer (f x)
  one-ok [] x answer e = absurd (cc)
  one-ok (y ∷ []) x answer e = let same : y ≡ x = cc in ap (λ (z : A). answer (f z)) same
  one-ok (y ∷ z ∷ more) x answer e = absurd (cc)

  pub two-ok : (xs : List A) (pair : A × A) (answer : R → R → Result B LineError) → of_two {B = A × A} xs (λ x y. Ok (x, y)) ≡ Ok pair → of_two (map f xs) answer ≡ answer (f pair.0) (f pair.1)
  two-ok [] pair answer e = absurd (cc)
  two-ok (x ∷ []) pair answer e = absurd (cc)
  two-ok (x ∷ y ∷ []) pair answer e = let same : (x, y) ≡ pair = cc in ap (λ (p : A × A). answer (f p.0) (f p.1)) same
  two-ok (x ∷ y ∷ z ∷ more) pair answer e = absurd (cc)

-- two lists that lead to s by f, lead to b by g, where any two do
module _ {R S B : Type 0} where
  pub two-to : (xs : List R) (f : R → R → Result S LineError) (g : R → R → Result B LineError) (s : S) (b : Result B LineError) → ((x y : R) → f x y ≡ Ok s → g x y ≡ b) → of_two xs f ≡ Ok s → of_two xs g ≡ b
  two-to [] f g s b step e = absurd (cc)
  two-to (x ∷ []) f g s b step e = absurd (cc)
  two-to (x ∷ y ∷ []) f g s b step e = step x y e
  two-to (x ∷ y ∷ z ∷ more) f g s b step e = absurd (cc)

  -- and those that lead to a fault
  pub two-from : (xs : List R) (f : R → R → Result S LineError) (g : R → R → Result B LineError) (fault : LineError) → ((x y : R) → f x y ≡ Err fault → g x y ≡ Err fault) → of_two xs f ≡ Err fault → of_two xs g ≡ Err fault
  two-from [] f g fault step e = let same : Length ≡ fault = cc in ap (λ (z : LineError). Err z) same
  two-from (x ∷ []) f g fault step e = let same : Length ≡ fault = cc in ap (λ (z : LineError). Err z) same
  two-from (x ∷ y ∷ []) f g fault step e = step x y e
  two-from (x ∷ y ∷ z ∷ more) f g fault step e = let same : Length ≡ fault = cc in ap (λ (z : LineError). Err z) same

-- ---- numbers

module _ {S B : Type 0} where
  -- a row that leads to s by f, leads to b by g, where each number does
  number-to : (x : Row) (f : ℤ → Result S LineError) (g : ℤ → Result B LineError) (s : S) (b : Result B LineError) → ((m : ℤ) → f m ≡ Ok s → g m ≡ b) → of_number x f ≡ Ok s → of_number x g ≡ b
  number-to (Int m) f g s b step e = step m e
  number-to Null f g s b step e = absurd (cc)
  number-to (Truth t) f g s b step e = absurd (cc)
  number-to (Bytes bs) f g s b step e = absurd (cc)
  number-to (Rows rs) f g s b step e = absurd (cc)
  number-to (Fields rs) f g s b step e = absurd (cc)
  number-to (Entry r) f g s b step e = absurd (cc)

  -- and one that leads to a fault
  number-from : (x : Row) (f : ℤ → Result S LineError) (g : ℤ → Result B LineError) (fault : LineError) → ((m : ℤ) → f m ≡ Err fault → g m ≡ Err fault) → of_number x f ≡ Err fault → of_number x g ≡ Err fault
  number-from (Int m) f g fault step e = step m e
  number-from Null f g fault step e = let same : Range ≡ fault = cc in ap (λ (z : LineError). Err z) same
  number-from (Truth t) f g fault step e = let same : Range ≡ fault = cc in ap (λ (z : LineError). Err z) same
  number-from (Bytes bs) f g fault step e = let same : Range ≡ fault = cc in ap (λ (z : LineError). Err z) same
  number-from (Rows rs) f g fault step e = let same : Range ≡ fault = cc in ap (λ (z : LineError). Err z) same
  number-from (Fields rs) f g fault step e = let same : Range ≡ fault = cc in ap (λ (z : LineError). Err z) same
  number-from (Entry r) f g fault step e = let same : Range ≡ fault = cc in ap (λ (z : LineError). Err z) same

  -- the same of a list of one row
  pub scalar-to : (xs : List Row) (f : ℤ → Result S LineError) (g : ℤ → Result B LineError) (s : S) (b : Result B LineError) → ((m : ℤ) → f m ≡ Ok s → g m ≡ b) → of_number_scalar xs f ≡ Ok s → of_number_scalar xs g ≡ b
  scalar-to [] f g s b step e = absurd (cc)
  scalar-to (x ∷ []) f g s b step e = number-to x f g s b step e
  scalar-to (x ∷ y ∷ more) f g s b step e = absurd (cc)

  pub scalar-from : (xs : List Row) (f : ℤ → Result S LineError) (g : ℤ → Result B LineError) (fault : LineError) → ((m : ℤ) → f m ≡ Err fault → g m ≡ Err fault) → of_number_scalar xs f ≡ Err fault → of_number_scalar xs g ≡ Err fault
  scalar-from [] f g fault step e = let same : Length ≡ fault = cc in ap (λ (z : LineError). Err z) same
  scalar-from (x ∷ []) f g fault step e = number-from x f g fault step e
  scalar-from (x ∷ y ∷ more) f g fault step e = let same : Length ≡ fault = cc in ap (λ (z : LineError). Err z) same

  -- and of two ends
  pub ends-to : (xs : List Row) (f : ℤ → ℤ → Result S LineError) (g : ℤ → ℤ → Result B LineError) (s : S) (b : Result B LineError) → ((m n : ℤ) → f m n ≡ Ok s → g m n ≡ b) → of_ends xs f ≡ Ok s → of_ends xs g ≡ b
  ends-to [] f g s b step e = absurd (cc)
  ends-to (x ∷ []) f g s b step e = absurd (cc)
  ends-to (x ∷ y ∷ []) f g s b step e = number-to x (λ m. of_number y (f m)) (λ m. of_number y (g m)) s b (λ m. number-to y (f m) (g m) s b (step m)) e
  ends-to (x ∷ y ∷ z ∷ more) f g s b step e = absurd (cc)

  pub ends-from : (xs : List Row) (f : ℤ → ℤ → Result S LineError) (g : ℤ → ℤ → Result B LineError) (fault : LineError) → ((m n : ℤ) → f m n ≡ Err fault → g m n ≡ Err fault) → of_ends xs f ≡ Err fault → of_ends xs g ≡ Err fault
  ends-from [] f g fault step e = let same : Length ≡ fault = cc in ap (λ (z : LineError). Err z) same
  ends-from (x ∷ []) f g fault step e = let same : Length ≡ fault = cc in ap (λ (z : LineError). Err z) same
  ends-from (x ∷ y ∷ []) f g fault step e = number-from x (λ m. of_number y (f m)) (λ m. of_number y (g m)) fault (λ m. number-from y (f m) (g m) fault (step m)) e
  ends-from (x ∷ y ∷ z ∷ more) f g fault step e = let same : Length ≡ fault = cc in ap (λ (z : LineError). Err z) same

-- ---- what is known

module _ {B : Type 0} where
  -- the number that a scalar is
  pub scalar-ok : (xs : List Row) (n : ℤ) (answer : ℤ → Result B LineError) → of_number_scalar {B = ℤ} xs (λ m. Ok m) ≡ Ok n → of_number_scalar xs answer ≡ answer n
  scalar-ok xs n answer e = scalar-to xs (λ m. Ok m) answer n (answer n) (λ m f. let same : m ≡ n = cc in ap answer same) e

  pub scalar-err : (xs : List Row) (fault : LineError) (answer : ℤ → Result B LineError) → of_number_scalar {B = ℤ} xs (λ m. Ok m) ≡ Err fault → of_number_scalar xs answer ≡ Err fault
  scalar-err xs fault answer e = scalar-from xs (λ m. Ok m) answer fault (λ m f. absurd (cc)) e

  -- the numbers that ends are
  pub ends-ok : (xs : List Row) (pair : ℤ × ℤ) (answer : ℤ → ℤ → Result B LineError) → of_ends {B = ℤ × ℤ} xs (λ m n. Ok (m, n)) ≡ Ok pair → of_ends xs answer ≡ answer pair.0 pair.1
  ends-ok xs pair answer e = ends-to xs (λ m n. Ok (m, n)) answer pair (answer pair.0 pair.1) (λ m n f. let same : (m, n) ≡ pair = cc in ap (λ (p : ℤ × ℤ). answer p.0 p.1) same) e
