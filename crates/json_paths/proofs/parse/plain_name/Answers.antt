use Rattle.std.proofs.Common.{◌≡◌, ℕ, ◌+◌, ◌<◌, drop, subst, ◌∙◌, arith, List, string_bytes}
use Rattle.json_paths.proofs.PlaceLemmas.{run_end, run_boundary, name_found, no_name}
use Rattle.json_paths.proofs.StepLemmas.{run}
use Rattle.json_paths.proofs.parse.plain_name.Goals as goal

pub returns-then-end-start : goal.returns-then-end-start
returns-then-end-start c = λ _.
    let is = subst (λ (b : List ℕ). c.plain_end-end.result ≡ c.args.start + run (drop c.args.start b)) c.as_bytes.ensures.value c.plain_end-end.ensures in
    no_name c.args.text.now c.args.start c.plain_end-end.result c.requires.starts.0 is c.if-end-start.true c.requires.unquoted

pub range-requires-clause-end_boundary : goal.range-requires-clause-end_boundary
range-requires-clause-end_boundary c =
    let is = subst (λ (b : List ℕ). c.plain_end-end.result ≡ c.args.start + run (drop c.args.start b)) c.as_bytes.ensures.value c.plain_end-end.ensures in
    run_boundary c.args.text.now c.args.start c.plain_end-end.result c.requires.starts.0 is

pub returns : goal.returns
returns c =
    let is = subst (λ (b : List ℕ). c.plain_end-end.result ≡ c.args.start + run (drop c.args.start b)) c.as_bytes.ensures.value c.plain_end-end.ensures in
    let some : c.args.start < c.plain_end-end.result = let other = c.if-end-start.false in omega (arith, is) in (
      some,
      run_end c.args.text.now c.args.start c.plain_end-end.result c.requires.starts.0 is,
      name_found c.args.text.now c.args.start c.plain_end-end.result c.requires.starts.0 is (string_bytes c.in_ok-name.name) (c.in_ok-name.ensures.ok ∙ c.range.ensures.value) some,
    )
