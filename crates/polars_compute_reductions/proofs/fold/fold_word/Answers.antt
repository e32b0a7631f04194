use Rattle.std.proofs.Common.{rules, ◌≡◌, ◌<◌, ◌∙◌, ℕ, Bool, List, false, length, ap, sym, arith}
use Rattle.polars_arrays_flat.specs.Row.{Row}
use Rattle.polars_arrays_flat.specs.StoredRows.{number_slots}
use Rattle.polars_compute_reductions.specs.Folds.{folded}
use Rattle.polars_compute_reductions.proofs.FoldSteps.{folded-none, length-slots, masked-all}
use Rattle.polars_arrays_words.specs.Bits.{first_of, is_bit}
use Rattle.polars_arrays_words.proofs.Firsts.{get_or-first, length-first}
use Rattle.polars_arrays_words.proofs.TrueRuns.{all-first}
use Rattle.polars_arrays_words.proofs.WrittenBits.{ones_bit, zeros_bit}
use Rattle.polars_compute_reductions.proofs.fold.fold_word.Goals as goal

pub returns-in-18446744073709551615 : goal.returns-in-18446744073709551615
returns-in-18446744073709551615 g c =
    let bits : List Bool = first_of (is_bit c.args.word) 64 in
    let rows : List Row = number_slots g.T.Number.value c.args.numbers.now in
    let all = all-first (is_bit c.args.word) 64 (λ i lt. ap (λ (w : ℕ). is_bit w i) c.in-18446744073709551615.is ∙ ones_bit i lt) in
    let long : length bits ≡ length rows = length-first (is_bit c.args.word) 64 ∙ sym (length-slots g.T.Number.value c.args.numbers.now ∙ c.requires) in
    c.fold_all.ensures ∙ ap (λ (rs : List Row). folded g.O.Operator.joined (g.O.Operator.neutral c.args.operator.now) rs) (sym (masked-all bits rows long all))

pub returns-in-0 : goal.returns-in-0
returns-in-0 g c =
    let bits : List Bool = first_of (is_bit c.args.word) 64 in
    c.start.ensures
    ∙ sym
    (folded-none g.O.Operator.joined (g.O.Operator.neutral c.args.operator.now) bits (number_slots g.T.Number.value c.args.numbers.now)
    (λ i lt.
    let within : i < 64 = omega (arith, length-first (is_bit c.args.word) 64) in
    get_or-first (is_bit c.args.word) 64 i false within ∙ ap (λ (w : ℕ). is_bit w i) c.in-0.is ∙ zeros_bit i))

pub returns-in_default : goal.returns-in_default
returns-in_default c = search rules
