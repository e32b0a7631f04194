-- Known bytes that a reader loses, in several reads.
use Rattle.std.proofs.Common.{◌≡◌, ◌++◌, ◌∙◌, ℕ, IsTrue, Bool, List, Option, Some, None, IfSome, sym, ap, append_assoc, append-nil}
use Rattle.std.specs.Io.KnownBytes.{Consumes, IsAtEnd}
use Rattle.polars_tables_lines.specs.Reading.{ReadsOn}

consumes_then : (a b c : Option (List ℕ)) (xs ys : List ℕ) → Consumes a b xs → Consumes b c ys → Consumes a c (xs ++ ys)
consumes_then None b c xs ys p q = tt
consumes_then (Some all) None c xs ys p q = absurd p
consumes_then (Some all) (Some bs) None xs ys p q = absurd q
consumes_then (Some all) (Some bs) (Some cs) xs ys p q = p ∙ ap (λ (t : List ℕ). xs ++ t) q ∙ sym (append_assoc xs ys cs)

-- a read more
pub consumes_more : (first before after : Option (List ℕ)) (old new : List ℕ) (ended : Bool) → Consumes first before old → ReadsOn before after old new ended → Consumes first after new
consumes_more first before after old new ended c r =
    rw r.taken.1 (consumes_then first before after old r.taken.0 c r.taken.2)

all_at_end : (first after : Option (List ℕ)) (input : List ℕ) → Consumes first after input → IsAtEnd after → IfSome first (λ bytes. input ≡ bytes)
all_at_end None after input c e = tt
all_at_end (Some bytes) None input c e = absurd c
all_at_end (Some bytes) (Some rest) input c e = sym (c ∙ ap (λ (t : List ℕ). input ++ t) e ∙ append-nil input)

-- the read at the end
pub read_to_end : (first before after : Option (List ℕ)) (old new : List ℕ) (ended : Bool) → Consumes first before old → ReadsOn before after old new ended → IsTrue ended → IfSome first (λ bytes. new ≡ bytes)
read_to_end first before after old new ended c r t =
    all_at_end first after new (consumes_more first before after old new ended c r) (r.at_end t)
