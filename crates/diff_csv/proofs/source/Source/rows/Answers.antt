use Rattle.diff_csv.proofs.source.Source.rows.Goals as goal

pub returns : goal.returns
returns g c = λ options text opened. c.in_ok-reader.ensures options text opened.header opened.begun
