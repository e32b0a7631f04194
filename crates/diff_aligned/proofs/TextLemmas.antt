-- Lists that are appended one after another.
use Rattle.std.proofs.Common.{◌≡◌, List, ◌++◌, ap, ◌∙◌}
use Rattle.std.proofs.lemmas.List.{append_assoc}

-- a text more after what was appended
pub appended : {X : Type 0} (out a b y z : List X) → y ≡ out ++ a → z ≡ y ++ b → z ≡ out ++ (a ++ b)
appended out a b y z e f = f ∙ ap (λ l. l ++ b) e ∙ append_assoc out a b

-- one text more, of what is still to be written
pub one_written : {X : Type 0} (all now after text rest : List X) → now ++ (text ++ rest) ≡ all → after ≡ now ++ text → after ++ rest ≡ all
one_written all now after text rest e a = ap (λ l. l ++ rest) a ∙ append_assoc now text rest ∙ e
