use Rattle.std.proofs.Common.{◌≡◌, ◌++◌, ◌∷◌, ◌∙◌, [], ℕ, List, length, ap, refl, sym}
use Rattle.std.proofs.lemmas.Result.{err_from_is_err_and}
use Rattle.csv.specs.Records.{Row, fields_of}
use Rattle.diff_csv.specs.Given.{IsBehind}
use Rattle.diff_csv.proofs.GivenLemmas.{none_behind, one_behind, other_behind}
use Rattle.diff_csv.proofs.row_reader.RowReader.read_later.Goals as goal

pub returns-in_err-line-clause-told : goal.returns-in_err-line-clause-told
returns-in_err-line-clause-told g c =
    let p = err_from_is_err_and c.from_residual.result c.from_residual.ensures.1 in
    rw (p.1, p.2) (λ options text rows h.
    let before : IsBehind g.R.Read.remaining options text c.args.self.now rows = rw c.requires at h in
    c.in_err-line.ensures.told options text (before.first ∷ before.more) before.reading)

pub returns-in_default-clause-told : goal.returns-in_default-clause-told
returns-in_default-clause-told g c = λ options text rows h.
    let before : IsBehind g.R.Read.remaining options text c.args.self.now rows = rw c.requires at h in
    none_behind g.R.Read.remaining options text c.args.self.now c.read.new.self rows (fields_of c.read.new.row.value) before
    (rw c.in_default.is at (c.in_ok-line.ensures.told options text (before.first ∷ before.more) before.reading))

pub returns-in_err-check_length-clause-told : goal.returns-in_err-check_length-clause-told
returns-in_err-check_length-clause-told g c =
    let p = err_from_is_err_and c.from_residual-in_err-check_length.result c.from_residual-in_err-check_length.ensures.1 in
    rw (p.1, p.2) (λ options text rows h.
    let before : IsBehind g.R.Read.remaining options text c.args.self.now rows = rw c.requires at h in
    other_behind g.R.Read.remaining options text c.args.self.now c.read.new.self rows (fields_of c.read.new.row.value) c.in-Some.line c.args.self.now.width _ _ before
    (rw c.in-Some.is at (c.in_ok-line.ensures.told options text (before.first ∷ before.more) before.reading)) refl (ap (λ (r : Row). length (fields_of r)) c.deref.ensures) c.in_err-check_length.ensures)

pub returns-clause-told : goal.returns-clause-told
returns-clause-told g c = λ options text rows h.
    let before : IsBehind g.R.Read.remaining options text c.args.self.now rows = rw c.requires at h in
    rw c.requires (one_behind g.R.Read.remaining options text c.args.self.now (record { records = c.read.new.self; first = c.args.self.now.first; line = c.args.self.now.line; width = c.args.self.now.width; ahead = c.args.self.now.ahead }) rows (fields_of c.read.new.row.value) before
    (rw c.in-Some.is at (c.in_ok-line.ensures.told options text (before.first ∷ before.more) before.reading))
    (ap (λ (r : Row). length (fields_of r)) (sym c.deref.ensures) ∙ c.in_ok-check_length.ensures) refl)
