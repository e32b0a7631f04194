use Rattle.std.proofs.Common.{◌∙◌, ap, sym, ◌++◌, ◌∷◌, [], length}
use Rattle.diff_merge.proofs.pairing.PairingSink.pair.Goals as goal

pub returns-clause-told : goal.returns-clause-told
returns-clause-told c = λ left_rows right_rows before after left_next right_next held one. record {
  left_rows = c.in_ok-push.ensures.items ∙ (ap (λ n. c.args.self.now.left_rows.items ++ n ∷ []) (c.place.ensures (length left_rows) left_next) ∙ (ap (λ l. l ++ length left_rows ∷ []) held.left_rows ∙ sym one.left_rows));
  right_rows = c.in_ok-push-2.ensures.items ∙ (ap (λ n. c.args.self.now.right_rows.items ++ n ∷ []) (c.place-2.ensures (length right_rows) right_next) ∙ (ap (λ l. l ++ length right_rows ∷ []) held.right_rows ∙ sym one.right_rows));
  removed = held.removed ∙ sym one.removed;
  added = held.added ∙ sym one.added;
}
