use Rattle.std.proofs.Common.{◌≡◌, ℕ, ◌+◌, ◌<◌, length, drop, get_or, inl, inr, subst, sym, ap, ◌∙◌, arith, List}
use Rattle.json_paths.specs.Texts.{IsPlaceText}
use Rattle.json_paths.proofs.PlaceLemmas.{run_end, place_found, any_found, item_open, no_place}
use Rattle.json_paths.proofs.StepLemmas.{run}
use Rattle.json_paths.proofs.parse.item_at.Goals as goal
use Rattle.json_paths.proofs.parse.item_at.Goals.{then-end-bytes-via-then-end-bytes, then-end-bytes-via-else-end-bytes+then-bytes-end-ne93}

pub bounds-bytes-end : goal.bounds-bytes-end
bounds-bytes-end c =
    let same = c.as_bytes-bytes.ensures.value in
    let is = subst (λ (b : List ℕ). c.plain_end-end.result ≡ c.args.start + run (drop c.args.start b)) same c.plain_end-end.ensures in
    let most = run_end c.args.text.now c.args.start c.plain_end-end.result c.requires.0 is in
    let other = c.if-end-bytes.false in
    omega (arith, ap length same)

pub returns-then-end-bytes : goal.returns-then-end-bytes
returns-then-end-bytes c = λ _.
    let d = c.args.text.now in
    let same = c.as_bytes-bytes.ensures.value in
    let is = subst (λ (b : List ℕ). c.plain_end-end.result ≡ c.args.start + run (drop c.args.start b)) same c.plain_end-end.ensures in
    item_open d c.args.start c.plain_end-end.result c.requires.0 is
    (elim c.then-end-bytes.branch [
      | then-end-bytes-via-then-end-bytes w ↦ inl (w.if-end-bytes.true ∙ ap length same)
      | then-end-bytes-via-else-end-bytes+then-bytes-end-ne93 w ↦ inr (λ e. w.if-bytes-end-ne93.true (ap (λ b. get_or b c.plain_end-end.result 0) same ∙ e))
    ])

pub returns-then-end-start : goal.returns-then-end-start
returns-then-end-start c =
    let d = c.args.text.now in
    let same = c.as_bytes-bytes.ensures.value in
    let is = subst (λ (b : List ℕ). c.plain_end-end.result ≡ c.args.start + run (drop c.args.start b)) same c.plain_end-end.ensures in
    let most = run_end d c.args.start c.plain_end-end.result c.requires.0 is in
    let inside : c.plain_end-end.result < length d = let other = c.if-end-bytes.false in omega (arith, ap length same) in (
      omega (arith, c.if-end-start.true),
      omega arith,
      any_found d c.args.start c.plain_end-end.result c.requires.0 is c.if-end-start.true inside (sym (ap (λ b. get_or b c.plain_end-end.result 0) same) ∙ c.if-bytes-end-ne93.false),
    )

pub returns-in_default : goal.returns-in_default
returns-in_default c = λ _.
    let d = c.args.text.now in
    let same = c.as_bytes-bytes.ensures.value in
    let is = subst (λ (b : List ℕ). c.plain_end-end.result ≡ c.args.start + run (drop c.args.start b)) same c.plain_end-end.ensures in
    no_place d c.args.start c.plain_end-end.result c.requires.0 is c.if-end-start.false (λ i p. c.in_default.ensures i (subst (λ s. IsPlaceText s i) (sym c.range.ensures.value) p))

pub returns : goal.returns
returns c =
    let d = c.args.text.now in
    let same = c.as_bytes-bytes.ensures.value in
    let is = subst (λ (b : List ℕ). c.plain_end-end.result ≡ c.args.start + run (drop c.args.start b)) same c.plain_end-end.ensures in
    let most = run_end d c.args.start c.plain_end-end.result c.requires.0 is in
    let inside : c.plain_end-end.result < length d = let other = c.if-end-bytes.false in omega (arith, ap length same) in (
      omega (arith, is),
      omega arith,
      place_found d c.args.start c.plain_end-end.result c.requires.0 is c.in-Some.place (subst (λ s. IsPlaceText s c.in-Some.place) c.range.ensures.value c.in-Some.ensures) inside (sym (ap (λ b. get_or b c.plain_end-end.result 0) same) ∙ c.if-bytes-end-ne93.false),
    )
