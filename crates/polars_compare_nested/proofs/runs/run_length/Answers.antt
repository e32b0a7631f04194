use Rattle.std.proofs.Common.{refl}
use Rattle.polars_compare_nested.proofs.runs.run_length.Goals as goal

pub matching_rows-requires : goal.matching_rows-requires
matching_rows-requires c = (
  λ a m. m,
  (
    λ a m. m,
    (
      c.requires.left_good,
      (
        c.requires.right_good,
        (
          rw (c.as_slice.ensures, ← c.offsets.ensures, c.in-Small-Small.is-0) refl,
          (
            rw (c.as_slice-in-Small-Small.ensures, ← c.offsets-2.ensures, c.in-Small-Small.is-1) refl,
            (c.requires.left_in, c.requires.right_in),
          ),
        ),
      ),
    ),
  ),
)

pub matching_rows-requires-in-Small-Large : goal.matching_rows-requires-in-Small-Large
matching_rows-requires-in-Small-Large c = (
  λ a m. m,
  (
    λ a m. m,
    (
      c.requires.left_good,
      (
        c.requires.right_good,
        (
          rw (c.as_slice-in-Small-Large.ensures, ← c.offsets.ensures, c.in-Small-Large.is-0) refl,
          (
            rw (c.as_slice-in-Small-Large-2.ensures, ← c.offsets-2.ensures, c.in-Small-Large.is-1) refl,
            (c.requires.left_in, c.requires.right_in),
          ),
        ),
      ),
    ),
  ),
)

pub matching_rows-requires-in-Large-Large : goal.matching_rows-requires-in-Large-Large
matching_rows-requires-in-Large-Large c = (
  λ a m. m,
  (
    λ a m. m,
    (
      c.requires.left_good,
      (
        c.requires.right_good,
        (
          rw (c.as_slice-in-Large-Large.ensures, ← c.offsets.ensures, c.in-Large-Large.is-0) refl,
          (
            rw (c.as_slice-in-Large-Large-2.ensures, ← c.offsets-2.ensures, c.in-Large-Large.is-1) refl,
            (c.requires.left_in, c.requires.right_in),
          ),
        ),
      ),
    ),
  ),
)

pub matching_rows-requires-in-Large-Small : goal.matching_rows-requires-in-Large-Small
matching_rows-requires-in-Large-Small c = (
  λ a m. m,
  (
    λ a m. m,
    (
      c.requires.left_good,
      (
        c.requires.right_good,
        (
          rw (c.as_slice-in-Large-Small.ensures, ← c.offsets.ensures, c.in-Large-Small.is-0) refl,
          (
            rw (c.as_slice-in-Large-Small-2.ensures, ← c.offsets-2.ensures, c.in-Large-Small.is-1) refl,
            (c.requires.left_in, c.requires.right_in),
          ),
        ),
      ),
    ),
  ),
)
