use Rattle.std.proofs.Common.{◌≡◌, [], ◌++◌, ◌∷◌, ◌∙◌, sym, refl}
use Rattle.csv.specs.Records.{fields_of}
use Rattle.diff_csv.specs.Quotes.{mark}
use Rattle.diff_csv.proofs.ReadingLemmas.{closed, open_end}
use Rattle.diff_csv.proofs.reading.Records.read.Goals as goal

pub returns-then-branch-clause-told : goal.returns-then-branch-clause-told
returns-then-branch-clause-told g c = λ options text rows h. record {
  delimiter = h.delimiter;
  read = rw c.swap.ensures.x_after (rw c.if-branch.true at (c.in_ok-read_record.ensures.told options (text ++ mark) (rows ++ fields_of c.args.self.now.ahead.value ∷ []) h.read));
}

pub returns-then-is_mark-clause-told : goal.returns-then-is_mark-clause-told
returns-then-is_mark-clause-told g c = λ options text rows h.
    let same : fields_of c.deref-2.result.now ≡ fields_of c.args.self.now.ahead.value = rw (c.deref-2.ensures, c.swap.ensures.x_after) refl in
    closed options text rows (fields_of c.args.self.now.ahead.value) h.delimiter
    (rw c.if-branch.false at (c.in_ok-read_record.ensures.told options (text ++ mark) (rows ++ fields_of c.args.self.now.ahead.value ∷ []) h.read))
    (sym same ∙ c.is_mark.ensures.0 c.if-is_mark.true)

pub returns-clause-told : goal.returns-clause-told
returns-clause-told g c = λ options text rows h.
    let same : fields_of c.deref-2.result.now ≡ fields_of c.args.self.now.ahead.value = rw (c.deref-2.ensures, c.swap.ensures.x_after) refl in
    open_end options text rows (fields_of c.args.self.now.ahead.value) h.delimiter
    (rw c.if-branch.false at (c.in_ok-read_record.ensures.told options (text ++ mark) (rows ++ fields_of c.args.self.now.ahead.value ∷ []) h.read))
    (λ e. cc (sym c.if-is_mark.false ∙ c.is_mark.ensures.1 (same ∙ e)))
