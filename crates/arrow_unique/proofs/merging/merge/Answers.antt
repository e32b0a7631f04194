use Rattle.arrow_unique.proofs.Joined.{holds-no_null, holds-null}
use Rattle.arrow_unique.proofs.merging.merge.Goals as goal

pub returns-then-other_flag-ne0 : goal.returns-then-other_flag-ne0
returns-then-other_flag-ne0 c least =
    holds-null least c.args.count c.args.others.now c.args.words.now c.join_words.new.words c.args.flag.now c.args.other_flag c.join_words.ensures c.if-other_flag-ne0.true

pub returns-else-other_flag-ne0 : goal.returns-else-other_flag-ne0
returns-else-other_flag-ne0 c least =
    holds-no_null least c.args.count c.args.others.now c.args.words.now c.join_words.new.words c.args.flag.now c.args.other_flag c.join_words.ensures c.if-other_flag-ne0.false
