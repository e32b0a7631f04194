use Rattle.std.proofs.Common.{◌≡◌, ◌∙◌, ◌<◌, ◌+◌, ◌*◌, ℕ, List, get_or, drop, ap, sym, arith}
use Rattle.std.specs.Int.{w64, from_le_bytes}
use Rattle.std.proofs.lemmas.List.{get_or-drop, get_or-take, length-drop, length-take}
use Rattle.std.proofs.lemmas.Nat.{le_bytes_8}
use Rattle.polars_arrays_flat.specs.ByteOrderLaws.{bytes_drop, bytes_take}
use Rattle.polars_arrays_flat.specs.Validity.{window}
use Rattle.polars_arrays_flat.proofs.byte_equality.eight_at.Goals as goal
use lib.Dec.{lit<}

-- a byte of the window is that byte of the whole
byte_is : (xs : List ℕ) (at k : ℕ) → k < 8 → get_or xs (at + k) 0 ≡ get_or (window at 8 xs) k 0
byte_is xs at k below = sym (get_or-take 8 (drop at xs) k 0 below ∙ get_or-drop at xs k 0)

-- the eight bytes from a place on spell the number that their window spells
eight_number : (xs : List ℕ) (at : ℕ) → get_or xs at 0 + get_or xs (at + 1) 0 * 256 + get_or xs (at + 2) 0 * 65536 + get_or xs (at + 3) 0 * 16777216 + get_or xs (at + 4) 0 * 4294967296 + get_or xs (at + 5) 0 * 1099511627776 + get_or xs (at + 6) 0 * 281474976710656 + get_or xs (at + 7) 0 * 72057594037927936 ≡ from_le_bytes w64 (window at 8 xs)
eight_number xs at =
    let first : get_or xs at 0 ≡ get_or (window at 8 xs) 0 0 = ap (λ (n : ℕ). get_or xs n 0) (omega arith) ∙ byte_is xs at 0 (lit< tt) in
    λ i.
    first i + byte_is xs at 1 (lit< tt) i * 256 + byte_is xs at 2 (lit< tt) i * 65536 + byte_is xs at 3 (lit< tt) i * 16777216 + byte_is xs at 4 (lit< tt) i * 4294967296 + byte_is xs at 5 (lit< tt) i * 1099511627776 + byte_is xs at 6 (lit< tt) i * 281474976710656 + byte_is xs at 7 (lit< tt) i * 72057594037927936

pub returns-clause-number : goal.returns-clause-number
returns-clause-number c = c.from_le_bytes.ensures ∙ eight_number c.args.bytes.now c.args.at

pub returns-clause-bytes : goal.returns-clause-bytes
returns-clause-bytes c =
    le_bytes_8 (window c.args.at 8 c.args.bytes.now) c.from_le_bytes.result (simp (length-take, length-drop) (omega (arith, c.requires)))
    (bytes_take 8 (drop c.args.at c.args.bytes.now) (bytes_drop c.args.at c.args.bytes.now (λ k. (c.type_inv.bytes k).fits)))
    (returns-clause-number c)
