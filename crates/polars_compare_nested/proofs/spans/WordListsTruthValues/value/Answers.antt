use Rattle.std.proofs.Common.{◌<◌, sym, ◌∙◌, arith}
use Rattle.polars_arrays_bytes.specs.OffsetStrings.{places}
use Rattle.polars_arrays_words.specs.Bits.{first_of, is_bit}
use Rattle.polars_compare_nested.proofs.ListBits.{length-lists, get_or-lists}
use Rattle.polars_compare_nested.proofs.WordRuns.{items-first}
use Rattle.polars_compare_nested.proofs.spans.WordListsTruthValues.value.Goals as goal

pub overflow_add-self : goal.overflow_add-self
overflow_add-self g c =
    let l = c.args.self.now in
    record { fits = omega (arith, c.requires, l.fits, length-lists (first_of (is_bit l.word) 64) (places g.O.Number.value l.offsets.now) l.first l.a l.rows) }

pub list_at-place-requires-clause-within : goal.list_at-place-requires-clause-within
list_at-place-requires-clause-within g c =
    let l = c.args.self.now in
    omega (arith, c.requires, l.has_offsets, length-lists (first_of (is_bit l.word) 64) (places g.O.Number.value l.offsets.now) l.first l.a l.rows)

pub list_at-place-requires-clause-good : goal.list_at-place-requires-clause-good
list_at-place-requires-clause-good g c κs within =
    let l = c.args.self.now in
    l.good c.args.i (omega (arith, c.requires, length-lists (first_of (is_bit l.word) 64) (places g.O.Number.value l.offsets.now) l.first l.a l.rows))

pub word_set-requires : goal.word_set-requires
word_set-requires g c =
    let l = c.args.self.now in
    let below : c.args.i < l.rows = omega (arith, c.requires, length-lists (first_of (is_bit l.word) 64) (places g.O.Number.value l.offsets.now) l.first l.a l.rows) in
    let place = rw c.list_at-place.ensures.start at c.saturating_sub.ensures in
    rw (place, c.list_at-place.ensures.count) (l.within c.args.i below)

pub returns : goal.returns
returns g c =
    let l = c.args.self.now in
    let below : c.args.i < l.rows = omega (arith, c.requires, length-lists (first_of (is_bit l.word) 64) (places g.O.Number.value l.offsets.now) l.first l.a l.rows) in
    let place = rw c.list_at-place.ensures.start at c.saturating_sub.ensures in
    let set = rw (place, c.list_at-place.ensures.count) at c.word_set.ensures in
    set
    ∙ items-first (is_bit l.word) 64 (places g.O.Number.value l.offsets.now) l.first _ (l.within c.args.i below)
    ∙ sym (get_or-lists (first_of (is_bit l.word) 64) (places g.O.Number.value l.offsets.now) l.first l.a l.rows c.args.i below)
