use Rattle.polars_arrays_words.proofs.Puts.{is_bit-put_below, is_bit-put_above}
use Rattle.polars_arrays_words.proofs.packing.put.Goals as goal

pub returns-clause-below : goal.returns-clause-below
returns-clause-below c = λ i lt. is_bit-put_below c.args.word c.args.more c.args.by i lt c.requires

pub returns-clause-above : goal.returns-clause-above
returns-clause-above c = λ i lt. is_bit-put_above c.args.word c.args.more c.args.by i c.requires lt
