use Rattle.std.proofs.Common.{◌≡◌, ◌+◌, ◌-◌, ◌*◌, ◌%◌, ◌≤◌, sym, ap, ◌∙◌, arith}
use Rattle.std.specs.List.{list_all}
use Rattle.polars_arrays_words.specs.Bits.{window}
use Rattle.polars_arrays_words.proofs.TrueRuns.{all-more, all-fails}
use Rattle.polars_arrays_words.proofs.runs.many_set.Goals as goal

pub returns-then-not-few_set : goal.returns-then-not-few_set
returns-then-not-few_set c =
    let words = c.args.words.now in
    let within : 64 * c.loop-k.k + 64 ≤ c.args.n = omega arith in
    let part = all-more words c.args.by c.args.at (64 * c.loop-k.k) 64 c.few_set.result c.loop-k.invariant c.few_set.ensures in
    sym (all-fails words (c.args.by + c.args.at) (64 * c.loop-k.k + 64) c.args.n (sym part ∙ c.if-not-few_set.true) within)

pub loop-k-preserved : goal.loop-k-preserved
loop-k-preserved c =
    let next : 64 * (c.loop-k.k + 1) ≡ 64 * c.loop-k.k + 64 = omega arith in
    ap (λ m. list_all (λ b. b) (window (c.args.by + c.args.at) m c.args.words.now)) next
    ∙ sym (all-more c.args.words.now c.args.by c.args.at (64 * c.loop-k.k) 64 c.few_set.result c.loop-k.invariant c.few_set.ensures)
    ∙ c.if-not-few_set.false

pub returns : goal.returns
returns c =
    let words = c.args.words.now in
    let rest = c.args.n % 64 in
    let done : 64 * c.loop-k.k ≡ c.args.n - rest = omega arith in
    let all : c.args.n - rest + rest ≡ c.args.n = omega arith in
    let before = sym (ap (λ m. list_all (λ b. b) (window (c.args.by + c.args.at) m words)) done) ∙ c.loop-k.invariant in
    all-more words c.args.by c.args.at (c.args.n - rest) rest c.few_set-2.result before c.few_set-2.ensures
    ∙ ap (λ m. list_all (λ b. b) (window (c.args.by + c.args.at) m words)) all
