use Rattle.diff_columns.specs.Names.{names_of}
use Rattle.diff_columns.proofs.LayoutLemmas.{ArePlacesTo}
use Rattle.diff_columns.proofs.places.key_places.Given as goal

abbrev pub invariant-loop-k : goal.invariant-loop-k
invariant-loop-k g l = ArePlacesTo (g.N.ByteRows.strings l.names) l.columns (names_of l.keys) l.k l.places.items
