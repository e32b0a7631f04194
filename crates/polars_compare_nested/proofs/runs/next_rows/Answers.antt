use Rattle.std.proofs.Common.{◌≡◌, ◌+◌, ◌-◌, refl, arith}
use Rattle.polars_arrays_nested.specs.Parts.{list_offsets}
use Rattle.polars_compare_nested.proofs.KnownLists.{known_at, known_behind}
use Rattle.polars_compare_nested.proofs.ListRuns.{run_is}
use Rattle.polars_compare_nested.proofs.Offsets.{offset_rise}
use Rattle.polars_compare_nested.proofs.runs.next_rows.Goals as goal

pub returns-then-rows-eq0 : goal.returns-then-rows-eq0
returns-then-rows-eq0 c =
    let run = c.matching_run-rows in
    let none = c.if-rows-eq0.true in
    let apart = run.ensures.apart none in
    let here : c.args.a + run.result ≡ c.args.a = omega (arith, none) in
    let there : c.args.b + run.result ≡ c.args.b = omega (arith, none) in
    let left : c.args.n - run.result ≡ c.args.n = omega (arith, none) in
    record {
      next = apart.1;
      known =
          known_behind c.args.left.now c.args.a c.args.right.now c.args.b c.args.n 1 run.new.matches c.skip.new.self
          (known_at c.args.left.now (c.args.a + run.result) c.args.a c.args.right.now (c.args.b + run.result) c.args.b (c.args.n - run.result) c.args.n run.new.matches here there left run.ensures.known)
          apart.0 c.skip.ensures.len c.skip.ensures.bits;
    }

pub overflow_sub-result : goal.overflow_sub-result
overflow_sub-result c =
    let first = rw c.offsets-2.ensures at c.offset-first.ensures in
    let last = rw c.offsets-4.ensures at c.offset-2.ensures in
    omega (arith, first, last, offset_rise _ (list_offsets c.args.left.now) c.args.a c.matching_run-rows.result c.requires.left_good.0.good (omega (arith, c.requires.left_in, c.matching_run-rows.ensures.within)))

pub returns : goal.returns
returns c =
    let first = rw c.offsets-2.ensures at c.offset-first.ensures in
    let right = rw c.offsets-3.ensures at c.offset.ensures in
    let last = rw c.offsets-4.ensures at c.offset-2.ensures in
    record {
      next =
          run_is c.args.left.now c.args.right.now c.args.a c.args.b c.args.n c.matching_run-rows.result _ c.requires.left_good c.requires.right_good c.requires.left_in c.requires.right_in (omega arith) c.matching_run-rows.ensures.within c.matching_run-rows.ensures.matching (rw (first, right, last) refl);
      known = c.matching_run-rows.ensures.known;
    }
