use Rattle.arrow_parts.proofs.ByteWordLemmas.{presence-held}
use Rattle.arrow_parts.proofs.bits.validity.Goals as goal

pub returns-clause-held : goal.returns-clause-held
returns-clause-held c = presence-held c.args.at c.args.n c.args.bytes.now c.in_ok-bits_of.ensures.held
