use Rattle.std.proofs.Common.{◌∙◌, ap, sym, ◌++◌, ◌∷◌, [], length}
use Rattle.diff_merge.proofs.pairing.PairingSink.added.Goals as goal

pub returns-clause-told : goal.returns-clause-told
returns-clause-told c = λ left_rows right_rows before after next held new. record {
  left_rows = held.left_rows ∙ sym new.left_rows;
  right_rows = held.right_rows ∙ sym new.right_rows;
  removed = held.removed ∙ sym new.removed;
  added = c.in_ok-push.ensures.items ∙ (ap (λ n. c.args.self.now.added.items ++ n ∷ []) (c.place.ensures (length right_rows) next) ∙ (ap (λ l. l ++ length right_rows ∷ []) held.added ∙ sym new.added));
}
