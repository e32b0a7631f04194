use Rattle.std.proofs.Common.{◌-◌, ◌≤◌, ◌++◌, ℕ, List, Bool, sym, ap, ap₂, ◌∙◌, subst}
use Rattle.polars_arrays_words.proofs.Firsts.{length-first}
use Rattle.polars_arrays_bits.proofs.BlockPlaces.{window-blocks}
use Rattle.polars_arrays_bits.proofs.Drafts.{draft_of}
use Rattle.polars_arrays_bits.proofs.builder.BitmapBuilder.extend_blocks.Goals as goal

pub returns-in-2 : goal.returns-in-2
returns-in-2 c =
    rw c.in-2.is
    (c.extend_source.ensures
    ∙ ap (λ (xs : List Bool). draft_of (c.args.self.now.bits ++ xs) (c.args.self.now.room - c.args.n))
    (window-blocks _ _ _ 2 c.args.n c.args.items.now c.packed-by.ensures.bits (rw c.in-2.is at c.requires.within)))

pub returns-in-4 : goal.returns-in-4
returns-in-4 c =
    rw c.in-4.is
    (c.extend_source-in-4.ensures
    ∙ ap (λ (xs : List Bool). draft_of (c.args.self.now.bits ++ xs) (c.args.self.now.room - c.args.n))
    (window-blocks _ _ _ 4 c.args.n c.args.items.now c.packed-by.ensures.bits (rw c.in-4.is at c.requires.within)))

pub extend_values-requires : goal.extend_values-requires
extend_values-requires c = subst (λ (m : ℕ). m ≤ c.args.self.now.room) (sym (length-first _ c.args.n)) c.requires.room

pub returns-in_default : goal.returns-in_default
returns-in_default c =
    c.extend_values.ensures
    ∙ ap₂ draft_of
    (ap (λ (xs : List Bool). c.args.self.now.bits ++ xs) (window-blocks _ _ _ c.args.width c.args.n c.args.items.now c.packed-by.ensures.bits c.requires.within))
    (ap (λ (m : ℕ). c.args.self.now.room - m) (length-first _ c.args.n))
