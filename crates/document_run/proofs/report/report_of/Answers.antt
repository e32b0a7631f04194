use Rattle.document_run.proofs.report.report_of.Goals as goal

pub returns : goal.returns
returns c = record {
  found = c.in_ok-found.found;
  found_on = c.in_ok-found.ensures;
  text = c.in_ok-text.ensures;
  outcome_is = rw c.deref.ensures.value at c.outcome_of-outcome.ensures;
}
