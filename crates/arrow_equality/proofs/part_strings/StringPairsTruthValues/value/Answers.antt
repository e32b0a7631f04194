use Rattle.std.proofs.Common.{◌∙◌, ℕ, [], false, ap₂, arith, sym}
use Rattle.std.specs.Prelude.{slice_index_or}
use Rattle.std.specs.Str.{bytes_eq}
use Rattle.polars_arrays_words.proofs.Firsts.{get_or-first, length-first}
use Rattle.arrow_equality.proofs.part_strings.StringPairsTruthValues.value.Goals as goal

pub on-n-requires-after_bounds : goal.on-n-requires-after_bounds
on-n-requires-after_bounds g c κs within =
    let long = length-first (λ i. bytes_eq (slice_index_or c.args.self.now.left i []) (slice_index_or c.args.self.now.right i [])) c.args.self.now.n in
    omega (arith, c.requires, long, c.args.self.now.left_in)

pub on-m-requires-after_bounds : goal.on-m-requires-after_bounds
on-m-requires-after_bounds g c κs within =
    let long = length-first (λ i. bytes_eq (slice_index_or c.args.self.now.left i []) (slice_index_or c.args.self.now.right i [])) c.args.self.now.n in
    omega (arith, c.requires, long, c.args.self.now.right_in)

pub returns : goal.returns
returns g c =
    let test = λ (i : ℕ). bytes_eq (slice_index_or c.args.self.now.left i []) (slice_index_or c.args.self.now.right i []) in
    let long = length-first test c.args.self.now.n in
    c.beginnings_equal.ensures
    ∙ ap₂ bytes_eq c.on-n.ensures.string c.on-m.ensures.string
    ∙ sym (get_or-first test c.args.self.now.n c.args.i false (omega (arith, c.requires, long)))
