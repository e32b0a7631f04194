use Rattle.std.proofs.Common.{◌∙◌, ap, sym, ◌++◌, ◌∷◌, [], length}
use Rattle.diff_merge.proofs.pairing.PairingSink.removed.Goals as goal

pub returns-clause-told : goal.returns-clause-told
returns-clause-told c = λ left_rows right_rows before after next held gone. record {
  left_rows = held.left_rows ∙ sym gone.left_rows;
  right_rows = held.right_rows ∙ sym gone.right_rows;
  removed = c.in_ok-push.ensures.items ∙ (ap (λ n. c.args.self.now.removed.items ++ n ∷ []) (c.place.ensures (length left_rows) next) ∙ (ap (λ l. l ++ length left_rows ∷ []) held.removed ∙ sym gone.removed));
  added = held.added ∙ sym gone.added;
}
