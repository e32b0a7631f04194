use Rattle.std.proofs.Common.{◌≢◌, ◌+◌, ◌++◌, ◌∷◌, [], take, length, refl, sym, ap, subst, ◌∙◌, arith, take_all}
use Rattle.std.specs.Io.BufRead.{FillKeeps}
use Rattle.std.proofs.BufReadLemmas.{Consumes_shown}
use Rattle.std.proofs.lemmas.List.{append-nil, append_assoc}
use Rattle.std.proofs.lemmas.List.Elements.{All-nil}
use Rattle.document_rows.proofs.LineLemmas.{consumed, kept, none_at_all, none_before, up_to_feed}
use Rattle.document_rows.proofs.lines.append_part.Goals as goal

pub returns-in_ok-extend_from_slice-in-Some : goal.returns-in_ok-extend_from_slice-in-Some
returns-in_ok-extend_from_slice-in-Some g c = λ rest known.
    let shown = c.in-Ok.at_hand.now in
    let end = c.in-Some.end in
    let rested = c.fill_buf.follows.lender-at-none in
    let filled = subst (FillKeeps _ (g.B.Read.remaining rested) (g.B.BufRead.consumable_len rested)) c.in-Ok.is c.fill_buf.follows.holds-at-none in
    let found = c.in-Some.ensures in
    let taken = Consumes_shown _ _ _ _ shown (end + 1) (omega (arith, found.0.high)) c.in-Ok.ensures.front c.in-Ok.ensures.end filled.0 filled.1 c.consume.ensures.bytes in
    let (left, is, split) = consumed _ rest _ (rw known at taken.0) in
    (take end shown, left, is, split ∙ (ap (λ l. l ++ left) (up_to_feed shown end found) ∙ append_assoc (take end shown) (10 ∷ []) left), c.in_ok-extend_from_slice-in-Some.ensures.items, none_before shown end (omega (arith, found.0.high)) found.0.before)

pub returns-in_ok-extend_from_slice-in-None : goal.returns-in_ok-extend_from_slice-in-None
returns-in_ok-extend_from_slice-in-None g c = λ rest known.
    let shown = c.in-Ok.at_hand.now in
    let rested = c.fill_buf.follows.lender-at-none in
    let filled = subst (FillKeeps _ (g.B.Read.remaining rested) (g.B.BufRead.consumable_len rested)) c.in-Ok.is c.fill_buf.follows.holds-at-none in
    let taken = Consumes_shown _ _ _ _ shown (length shown) (omega arith) c.in-Ok.ensures.front c.in-Ok.ensures.end filled.0 filled.1 c.consume-in-None.ensures.bytes in
    let (left, is, split) = consumed _ rest _ (rw (known, take_all (length shown) shown (omega arith)) at taken.0) in
    (shown, left, is, split, c.in_ok-extend_from_slice-in-None.ensures.items, none_at_all shown c.in-None.ensures)

pub returns-then-eq : goal.returns-then-eq
returns-then-eq g c = λ rest known.
    let is = rw known at c.fill_buf.follows.holds-at-none.0 in
    ([], rest, kept _ rest is, refl, sym (append-nil c.args.line.now.items), All-nil (λ b. b ≢ 10))
