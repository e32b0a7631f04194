use Rattle.dunkelva_c.proofs.StateMemory.{counted-state}
use Rattle.dunkelva_c.proofs.states.count_state.Goals as goal

pub returns-clause-counted : goal.returns-clause-counted
returns-clause-counted c =
    counted-state c.args.least.now c.args.greatest.now c.in_ok-range.range.count c.args.words.now c.args.flag c.count_seen.result c.count_finalised.result c.in_ok-range.ensures.range.count c.count_seen.ensures c.count_finalised.ensures
