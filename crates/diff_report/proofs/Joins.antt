-- Texts that are written one after another.
use Rattle.std.proofs.Common.{◌≡◌, ℕ, Bool, true, List, [], ◌++◌, ap, ◌∙◌, refl}
use Rattle.std.proofs.lemmas.List.{append_assoc}
use Rattle.std.specs.Prelude.{if◌then◌else◌}

-- one text more after what was written
pub appended : (old a b y z : List ℕ) → y ≡ old ++ a → z ≡ y ++ b → z ≡ old ++ (a ++ b)
appended old a b y z e f = f ∙ (ap (λ l. l ++ b) e ∙ append_assoc old a b)

-- a text that is not left out
pub written_if : (is : Bool) (old text after : List ℕ) → is ≡ true → after ≡ old ++ text → after ≡ old ++ (if is then text else [])
written_if is old text after e more = rw e more

pub joined_three : (old a b c : List ℕ) → ((old ++ a) ++ b) ++ c ≡ old ++ ((a ++ b) ++ c)
joined_three old a b c = simp append_assoc

-- the seven parts of the line of a pair
pub joined_pair : (old a b c d e f g first second third fourth fifth sixth last : List ℕ)
    → first ≡ old ++ a → second ≡ first ++ b → third ≡ second ++ c → fourth ≡ third ++ d → fifth ≡ fourth ++ e → sixth ≡ fifth ++ f → last ≡ sixth ++ g
    → last ≡ old ++ (((((a ++ (b ++ c)) ++ d) ++ e) ++ f) ++ g)
joined_pair old a b c d e f g first second third fourth fifth sixth last p q r s t u v = rw (v, u, t, s, r, q, p) (simp append_assoc)

-- a text that is written piece by piece, one piece more
pub piece : (old text before more after : List ℕ) → before ≡ old ++ text → after ≡ before ++ more → after ≡ old ++ (text ++ more)
piece old text before more after b a = a ∙ (ap (λ l. l ++ more) b ∙ append_assoc old text more)

-- two pieces more
pub pieces : (old text before more last after : List ℕ) → before ≡ old ++ text → after ≡ before ++ more ++ last → after ≡ old ++ (text ++ more ++ last)
pieces old text before more last after b a = piece old (text ++ more) (before ++ more) last after (piece old text before more (before ++ more) b refl) a
