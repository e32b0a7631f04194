-- What holds of a member that is found by its name, and of errors that a part of a value made.
use Rattle.std.proofs.Common.{◌≡◌, ℕ, List, Bool, true, false, cond, Option, Some, None, IfSome, MatchOption, sym, subst}
use Rattle.std.specs.Option.{option_map}
use Rattle.std.specs.Str.{bytes_eq}
use Rattle.json.specs.Find.{later_or, get_member}
use Rattle.json.specs.Json.{Json, Members, no_members, member, object}
use Rattle.json.specs.Strict.{HasUniqueKeys, MembersHaveUniqueKeys}
use Rattle.json.specs.Tree.{HasNumbers, MembersHaveNumbers}
use Rattle.json_decimals.specs.declared.error.NumberError.{NumberError}
use Rattle.json_decimals.specs.declared.error.NumberError.TheVariants.{Memory, WideExponent}
use Rattle.json_normal.specs.Narrow.{HasNarrowNumbers, MembersHaveNarrowNumbers}
use Rattle.json_changes.specs.Errors.{IsFaultOf}

if_later : (P : Json → Type 0) (o p : Option Json) → IfSome o P → IfSome p P → IfSome (later_or o p) P
if_later P None p h g = g
if_later P (Some j) p h g = h

if_own : (P : Json → Type 0) (b : Bool) (j : Json) → P j → IfSome (cond b (Some j) None) P
if_own P true j h = h
if_own P false j h = tt

pub numbers_found : (k : List ℕ) (ms : Members) → MembersHaveNumbers ms → IfSome (get_member k ms) HasNumbers
numbers_found k no_members h = tt
numbers_found k (member l j ms) h = if_later HasNumbers (get_member k ms) (cond (bytes_eq l k) (Some j) None) (numbers_found k ms h.1) (if_own HasNumbers (bytes_eq l k) j h.0)

pub narrow_found : (k : List ℕ) (ms : Members) → MembersHaveNarrowNumbers ms → IfSome (get_member k ms) HasNarrowNumbers
narrow_found k no_members h = tt
narrow_found k (member l j ms) h =
    if_later HasNarrowNumbers (get_member k ms) (cond (bytes_eq l k) (Some j) None) (narrow_found k ms h.1) (if_own HasNarrowNumbers (bytes_eq l k) j h.0)

pub unique_found : (k : List ℕ) (ms : Members) → MembersHaveUniqueKeys ms → IfSome (get_member k ms) HasUniqueKeys
unique_found k no_members h = tt
unique_found k (member l j ms) h = if_later HasUniqueKeys (get_member k ms) (cond (bytes_eq l k) (Some j) None) (unique_found k ms h.1) (if_own HasUniqueKeys (bytes_eq l k) j h.0)

-- what holds of a value's tree, where one is found
pub if_seen : {X : Type 0} → (P : Json → Type 0) (f : X → Json) (o : Option X) (r : Option Json) → option_map f o ≡ r → IfSome r P → IfSome o (λ x. P (f x))
if_seen P f None r e h = tt
if_seen P f (Some x) r e h = subst (λ (q : Option Json). IfSome q P) (sym e) h

-- an error of two parts is one of the values that they stand in
pub fault_within : (a b j k : Json) (e : NumberError) → (HasNarrowNumbers a → HasNarrowNumbers j) → (HasNarrowNumbers b → HasNarrowNumbers k) → IsFaultOf j k e → IsFaultOf a b e
fault_within a b j k Memory f g h = tt
fault_within a b j k WideExponent f g h = λ both. h (f both.0, g both.1)

pub fault_found : {X : Type 0} → (a : Json) (ns : Members) (key : List ℕ) (j : Json) (f : X → Json) (o : Option X) (e : NumberError) → option_map f o ≡ get_member key ns
    → (HasNarrowNumbers a → HasNarrowNumbers j) → MatchOption o (e ≡ Memory) (λ x. IsFaultOf j (f x) e) → IsFaultOf a (object ns) e
fault_found a ns key j f None e is g h = subst (λ (x : NumberError). IsFaultOf a (object ns) x) (sym h) tt
fault_found a ns key j f (Some x) e is g h = fault_within a (object ns) j (f x) e g (λ n. subst (λ (q : Option Json). IfSome q HasNarrowNumbers) (sym is) (narrow_found key ns n)) h
