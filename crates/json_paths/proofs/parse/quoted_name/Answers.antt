use Rattle.std.proofs.Common.{◌≡◌, ℕ, ◌+◌, drop, false, option_map, subst, sym, ap, ◌∙◌, List, string_bytes}
use Rattle.std.proofs.lemmas.Result.{err_from_is_err_and}
use Rattle.json.specs.Json.{document}
use Rattle.json_paths.specs.Reading.{up_to_quote}
use Rattle.json_paths.proofs.PlaceLemmas.{unclosed, quote_end, quote_boundary, quoted_found, quoted_not}
use Rattle.json_paths.proofs.parse.quoted_name.Goals as goal

pub returns-in_default : goal.returns-in_default
returns-in_default c = λ _.
    let is = subst (λ (b : List ℕ). c.quoted_end.result ≡ option_map (λ n. c.args.start + 2 + n) (up_to_quote false (drop (c.args.start + 1) b))) c.as_bytes.ensures.value c.quoted_end.ensures in
    unclosed c.args.text.now c.args.start c.requires.within c.requires.quoted (sym c.in_default.is ∙ is)

pub range-requires-clause-end_boundary : goal.range-requires-clause-end_boundary
range-requires-clause-end_boundary c =
    let is = subst (λ (b : List ℕ). c.quoted_end.result ≡ option_map (λ n. c.args.start + 2 + n) (up_to_quote false (drop (c.args.start + 1) b))) c.as_bytes.ensures.value c.quoted_end.ensures in
    quote_boundary c.args.text.now c.args.start c.requires.within c.requires.quoted c.in-Some.end (sym c.in-Some.is ∙ is) c.utf8.text

pub returns-in_err-name : goal.returns-in_err-name
returns-in_err-name c =
    let is = subst (λ (b : List ℕ). c.quoted_end.result ≡ option_map (λ n. c.args.start + 2 + n) (up_to_quote false (drop (c.args.start + 1) b))) c.as_bytes.ensures.value c.quoted_end.ensures in
    let p = err_from_is_err_and c.from_residual.result c.from_residual.ensures.1 in
    rw p.1 (λ e. quoted_not c.args.text.now c.args.start c.requires.within c.requires.quoted c.in-Some.end (sym c.in-Some.is ∙ is) (λ k h. c.in_err-name.ensures.invalid (sym p.2 ∙ e) k (ap document c.range.ensures.value ∙ h)))

pub returns : goal.returns
returns c =
    let is = subst (λ (b : List ℕ). c.quoted_end.result ≡ option_map (λ n. c.args.start + 2 + n) (up_to_quote false (drop (c.args.start + 1) b))) c.as_bytes.ensures.value c.quoted_end.ensures in
    let d = c.args.text.now in
    let e = sym c.in-Some.is ∙ is in
    let w = quote_end d c.args.start c.requires.within c.requires.quoted c.in-Some.end e in
    (w.0, w.1, quoted_found d c.args.start c.requires.within c.requires.quoted c.in-Some.end e (string_bytes c.in_ok-name.name) (sym (ap document c.range.ensures.value) ∙ c.in_ok-name.ensures.read))
