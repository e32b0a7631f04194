use Rattle.std.proofs.Common.{◌≡◌, ◌+◌, ◌≤◌, ℕ, List, length, take, drop, true, Bool, refl, sym, ap, ap₂, ◌∙◌, arith}
use Rattle.std.proofs.lemmas.List.{length-take-le, length-drop}
use Rattle.std.specs.List.{refill}
use Rattle.polars_arrays_bits.specs.Buffer.{Elements, stored, is_vector}
use Rattle.polars_arrays_bits.specs.BufferLends.{with_elements}
use Rattle.polars_arrays_bits.specs.StoreLends.{written_from}
use Rattle.polars_arrays_bits.specs.declared.buffer.Store.{Store}
use Rattle.polars_arrays_bits.specs.declared.buffer.Store.TheVariants.{Owned, Shared}
use Rattle.polars_arrays_bits.proofs.BufferWindows.{take-drop-written}
use Rattle.polars_arrays_bits.proofs.buffer.Buffer.as_mut_slice.Goals as goal

-- a window of a store that was written over
items-written : {A : Type 0} (s : Store A) (start len : ℕ) (ws : List A) → is_vector s ≡ true → start + len ≤ length (stored s) → take len (drop start (stored (written_from s start ws))) ≡ refill len (take len (drop start (stored s))) ws
items-written (Owned elements) start len ws e le = take-drop-written len start elements.len elements.items ws _ elements.ok.0 (omega (arith, elements.ok.0))
items-written (Shared elements) start len ws e le = cc

owned-written : {A : Type 0} (s : Store A) (start : ℕ) (ws : List A) → is_vector (written_from s start ws) ≡ is_vector s
owned-written (Owned elements) start ws = refl
owned-written (Shared elements) start ws = refl

-- the buffer after that
view-written :
    {A : Type 0} (s : Store A) (start len : ℕ) (ws : List A) (b : Elements A) → start + len ≤ length (stored s) → b.owned ≡ true →
    record { items = take len (drop start (stored s)); owned = is_vector s } ≡ b →
    record { items = take len (drop start (stored (written_from s start ws))); owned = is_vector (written_from s start ws) } ≡ with_elements b ws
view-written {A} s start len ws b le owned e =
    let window : List A = take len (drop start (stored s)) in
    let long : length window ≡ len = length-take-le len (drop start (stored s)) (omega (arith, length-drop start (stored s))) in
    ap₂ (λ (xs : List A) (o : Bool). let r : Elements A = record { items = xs; owned = o } in r)
    (items-written s start len ws (ap (λ x. x.owned) e ∙ owned) le ∙ ap (λ k. refill k window ws) (sym long))
    (owned-written s start ws)
    ∙ ap (λ (x : Elements A). with_elements x ws) e

pub returns : goal.returns
returns g c = ((refl, λ w. view-written c.self.inside.store c.self.inside.start c.self.inside.len w c.args.self.now c.self.invariant c.requires c.self.view_is), record { written = tt; items = c.window_mut.ensures.items ∙ ap (λ b. b.items) c.self.view_is })
