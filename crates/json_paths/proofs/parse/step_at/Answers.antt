use Rattle.std.proofs.Common.{◌≡◌, get_or, inl, inr, subst, sym, ap, ◌∙◌, arith, IsCharBoundary}
use Rattle.std.proofs.lemmas.Str.{IsCharBoundary-after_ascii, IsCharBoundary-start}
use Rattle.json_paths.specs.Texts.{is_plain}
use Rattle.json_paths.proofs.PlaceLemmas.{no_step}
use Rattle.json_paths.proofs.parse.step_at.Goals as goal
use Rattle.json_paths.proofs.parse.step_at.Goals.{then-start-gt0-via-then-start-gt0, then-start-gt0-via-else-start-gt0+then-not-is_plain}

pub item_at-requires : goal.item_at-requires
item_at-requires c =
    let byte : get_or c.args.text.now c.args.start 0 ≡ 91 = sym (ap (λ b. get_or b c.args.start 0) c.as_bytes.ensures.value) ∙ c.if-byte-eq91.true in
    IsCharBoundary-after_ascii c.args.text.now c.args.start c.utf8.text c.requires (omega arith)

pub name_at-requires : goal.name_at-requires
name_at-requires c =
    let byte : get_or c.args.text.now c.args.start 0 ≡ 46 = sym (ap (λ b. get_or b c.args.start 0) c.as_bytes.ensures.value) ∙ c.if-byte-eq46.true in
    IsCharBoundary-after_ascii c.args.text.now c.args.start c.utf8.text c.requires (omega arith)

pub returns-then-start-gt0 : goal.returns-then-start-gt0
returns-then-start-gt0 c = λ _.
    let same = ap (λ b. get_or b c.args.start 0) c.as_bytes.ensures.value in
    no_step c.args.text.now c.args.start c.requires (λ e. c.if-byte-eq46.false (same ∙ e)) (λ e. c.if-byte-eq91.false (same ∙ e))
    (elim c.then-start-gt0.branch [ then-start-gt0-via-then-start-gt0 w ↦ inl w.if-start-gt0.true | then-start-gt0-via-else-start-gt0+then-not-is_plain w ↦ inr (ap is_plain (sym same) ∙ sym w.if-not-is_plain.ensures) ])

pub plain_name-requires-clause-starts : goal.plain_name-requires-clause-starts
plain_name-requires-clause-starts c = let z : 0 ≡ c.args.start = let low = c.if-start-gt0.false in omega arith in subst (IsCharBoundary c.args.text.now) z (IsCharBoundary-start c.args.text.now c.utf8.text)
