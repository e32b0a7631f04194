use Rattle.std.proofs.Common.{length, rules}
use Rattle.dunkelva_c.proofs.StateMemory.{list-room, listed-state}
use Rattle.dunkelva_c.proofs.states.list_state.Goals as goal

pub returns-then-out-count_seen-clause-refused : goal.returns-then-out-count_seen-clause-refused
returns-then-out-count_seen-clause-refused c =
    list-room c.args.least.now c.args.greatest.now c.in_ok-range.range.count c.count_seen.result c.args.words.now (length c.args.out.now) c.in_ok-range.ensures.range.count c.count_seen.ensures c.if-out-count_seen.true

pub returns-clause-listed : goal.returns-clause-listed
returns-clause-listed c =
    listed-state c.args.least.now c.args.greatest.now c.in_ok-range.range.count c.args.words.now c.args.flag c.args.out.now c.list.new.out c.from.result
    c.list.ensures
    (search (rules, c.in_ok-range.ensures.range.from))
    c.in_ok-range.ensures.range.count
    c.from.ensures
