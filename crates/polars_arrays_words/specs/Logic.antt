-- Operators on single truth values.
use Rattle.std.specs.Prelude.{Bool, not, ◌&&◌, ◌||◌}

-- exactly one of the two
abbrev pub xor : Bool → Bool → Bool
xor a b = (a && not b) || (not a && b)

-- both or neither of the two
abbrev pub xnor : Bool → Bool → Bool
xnor a b = not (xor a b)

-- the first without the second
abbrev pub and_not : Bool → Bool → Bool
and_not a b = a && not b

-- the first, or not the second
abbrev pub or_not : Bool → Bool → Bool
or_not a b = a || not b

-- two rows are equal, with null equal to null alone; q: equal values, l and r: present rows
abbrev pub merged_eq : Bool → Bool → Bool → Bool
merged_eq q l r = ((q && l) && r) || not (l || r)

-- two rows are unequal, with null equal to null alone; q: unequal values, l and r: present rows
abbrev pub merged_ne : Bool → Bool → Bool → Bool
merged_ne q l r = ((q && l) && r) || xor l r
