-- Texts that are appended one after another.
use Rattle.std.proofs.Common.{◌≡◌, ℕ, Bool, false, List, [], ◌++◌, ap, ◌∙◌}
use Rattle.std.proofs.lemmas.List.{append_assoc}
use Rattle.std.specs.Prelude.{if◌then◌else◌}

-- a text more after what was appended
pub appended : (out a b y z : List ℕ) → y ≡ out ++ a → z ≡ y ++ b → z ≡ out ++ (a ++ b)
appended out a b y z e f = f ∙ ap (λ l. l ++ b) e ∙ append_assoc out a b

-- a note of three texts that is not left out
pub noted : (none : Bool) (out a b c x y z : List ℕ) → none ≡ false → x ≡ out ++ a → y ≡ x ++ b → z ≡ y ++ c → z ≡ out ++ (if none then [] else a ++ b ++ c)
noted none out a b c x y z n e f g = rw n (appended out (a ++ b) c y z (appended out a b x y e f) g)
