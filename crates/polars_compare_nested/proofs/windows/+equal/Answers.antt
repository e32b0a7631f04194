use Rattle.std.proofs.Common.{◌≡◌, ◌≤◌, ◌<◌, ◌+◌, ◌∙◌, ℕ, length, refl, sym, ap, subst, arith, rules}
use Rattle.std.specs.Prelude.{IfOk}
use Rattle.std.proofs.lemmas.Result.{MatchResult-weaker}
use Rattle.polars_arrays_flat.specs.Kind.{NullKind}
use Rattle.polars_arrays_nested.specs.Parts.{columns}
use Rattle.polars_arrays_nested.specs.Types.{type_of}
use Rattle.polars_arrays_nested.specs.declared.any_array.AnyArray.{List, Struct, Dictionary, the_lemmas}
use Rattle.polars_compare_nested.proofs.Cases.{list_sort}
use Rattle.polars_compare_nested.proofs.Columns.{columns_tally-take, first_column, more_columns, no_columns, struct_bits, struct_count, struct_tally}
use Rattle.polars_compare_nested.proofs.FewRows.{whole_joined}
use Rattle.polars_compare_nested.proofs.KnownLists.{known_at, none_known}
use Rattle.polars_compare_nested.proofs.LeafSorts.{leaf_bit, leaf_bits, leaf_case, leaf_tally}
use Rattle.polars_compare_nested.proofs.ListRuns.{apart_bits, run_bits, run_tally}
use Rattle.polars_compare_nested.proofs.RawRows.{adds_one, entry_bit, entry_count, entry_none, fixed_bits, joined, null_free, on_ok, raw_adds, raw_none, raw_nulls, same_first}
use Rattle.polars_compare_nested.proofs.TallyAdds.{tally-adds}
use Rattle.polars_compare_nested.proofs.WordRuns.{run_word}
use Rattle.polars_compare_nested.specs.Bits.{RawBits}
use Rattle.polars_compare_nested.specs.Tally.{tally}
use Rattle.polars_compare_nested.specs.Windows.{Compares}
use Rattle.polars_compare_nested.proofs.windows.+equal.Goals as goal
use Rattle.polars_compare_nested.proofs.windows.+equal.Goals.{equal_windows-in-Null, equal_windows-in-List, equal_windows-in-FixedSizeList, equal_windows-in-Struct, equal_windows-in-Dictionary, equal_windows-in_default}

pub equal_windows-join_windows-requires : goal.equal_windows-join_windows-requires
equal_windows-join_windows-requires g t c =
    let raw : Compares (RawBits g.K.LeafKernel.agree) c.args.left.now c.args.a c.args.right.now c.args.b c.args.n (g.K.LeafKernel.count c.args.steps.now) (g.K.LeafKernel.count c.match-left.steps) c.match-left.raw =
    elim c.match-left.branch [
      | equal_windows-in-Null w ↦
          let nulls : type_of c.args.right.now ≡ NullKind = sym c.requires.one_type ∙ ap type_of w.in-Null.is in
          rw (w.raw-is, w.steps-is, w.in-Null.is)
          (record {
            told =
                MatchResult-weaker w.new_with_value-raw.result w.new_with_value-raw.ensures
                (λ bits e. raw_nulls _ w.in-Null.field-0 c.args.right.now _ _ _ bits nulls e)
                (λ e memory. memory);
            counted = on_ok w.new_with_value-raw.result _ (null_free w.in-Null.field-0 c.args.right.now c.args.a c.args.b c.args.n (g.K.LeafKernel.count c.args.steps.now));
            kept = omega arith;
          })
      | equal_windows-in-List w ↦ rw (w.raw-is, w.steps-is, w.in-List.is, w.as_list.ensures) w.eq_lists-raw.ensures
      | equal_windows-in-FixedSizeList w ↦
          rw (w.raw-is, w.steps-is, w.in-FixedSizeList.is, w.as_fixed_size_list.ensures) w.eq_fixed_size_lists-raw.ensures
      | equal_windows-in-Struct w ↦ rw (w.raw-is, w.steps-is, w.in-Struct.is, w.as_struct.ensures) w.eq_structs-raw.ensures
      | equal_windows-in-Dictionary w ↦
          rw (w.raw-is, w.steps-is, w.in-Dictionary.is, w.as_dictionary.ensures) w.eq_dictionaries-raw.ensures
      | equal_windows-in_default w ↦
          let leaves = leaf_case c.args.left.now w.in_default.not-Null w.in_default.not-List w.in_default.not-FixedSizeList w.in_default.not-Struct w.in_default.not-Dictionary in
          rw (w.raw-is, w.steps-is)
          (record {
            told =
                MatchResult-weaker w.leaf_eq-raw.result w.leaf_eq-raw.ensures.told
                (λ bits says. leaf_bits _ _ _ _ _ _ bits leaves c.requires.one_type c.requires.left_in c.requires.right_in says)
                (λ e memory. memory);
            counted =
                subst (λ (k : ℕ). IfOk w.leaf_eq-raw.result (λ _. g.K.LeafKernel.count w.leaf_eq-raw.new.self ≡ g.K.LeafKernel.count c.args.steps.now + k))
                (sym (leaf_tally c.args.left.now c.args.right.now c.args.a c.args.b c.args.n leaves)) w.leaf_eq-raw.ensures.counted;
            kept = w.leaf_eq-raw.ensures.kept;
          })
    ] in
    let told : RawBits g.K.LeafKernel.agree c.args.left.now c.args.a c.args.right.now c.args.b c.args.n c.in_ok-raw.field-0 = rw c.in_ok-raw.was at raw.told in
    record {
      left_good = c.requires.left_good;
      right_good = c.requires.right_good;
      one_type = c.requires.one_type;
      left_in = omega (arith, told.size, c.requires.left_in);
      right_in = omega (arith, told.size, c.requires.right_in);
    }

pub equal_windows-returns : goal.equal_windows-returns
equal_windows-returns g t c =
    let raw : Compares (RawBits g.K.LeafKernel.agree) c.args.left.now c.args.a c.args.right.now c.args.b c.args.n (g.K.LeafKernel.count c.args.steps.now) (g.K.LeafKernel.count c.match-left.steps) c.match-left.raw =
    elim c.match-left.branch [
      | equal_windows-in-Null w ↦
          let nulls : type_of c.args.right.now ≡ NullKind = sym c.requires.one_type ∙ ap type_of w.in-Null.is in
          rw (w.raw-is, w.steps-is, w.in-Null.is)
          (record {
            told =
                MatchResult-weaker w.new_with_value-raw.result w.new_with_value-raw.ensures
                (λ bits e. raw_nulls _ w.in-Null.field-0 c.args.right.now _ _ _ bits nulls e)
                (λ e memory. memory);
            counted = on_ok w.new_with_value-raw.result _ (null_free w.in-Null.field-0 c.args.right.now c.args.a c.args.b c.args.n (g.K.LeafKernel.count c.args.steps.now));
            kept = omega arith;
          })
      | equal_windows-in-List w ↦ rw (w.raw-is, w.steps-is, w.in-List.is, w.as_list.ensures) w.eq_lists-raw.ensures
      | equal_windows-in-FixedSizeList w ↦
          rw (w.raw-is, w.steps-is, w.in-FixedSizeList.is, w.as_fixed_size_list.ensures) w.eq_fixed_size_lists-raw.ensures
      | equal_windows-in-Struct w ↦ rw (w.raw-is, w.steps-is, w.in-Struct.is, w.as_struct.ensures) w.eq_structs-raw.ensures
      | equal_windows-in-Dictionary w ↦
          rw (w.raw-is, w.steps-is, w.in-Dictionary.is, w.as_dictionary.ensures) w.eq_dictionaries-raw.ensures
      | equal_windows-in_default w ↦
          let leaves = leaf_case c.args.left.now w.in_default.not-Null w.in_default.not-List w.in_default.not-FixedSizeList w.in_default.not-Struct w.in_default.not-Dictionary in
          rw (w.raw-is, w.steps-is)
          (record {
            told =
                MatchResult-weaker w.leaf_eq-raw.result w.leaf_eq-raw.ensures.told
                (λ bits says. leaf_bits _ _ _ _ _ _ bits leaves c.requires.one_type c.requires.left_in c.requires.right_in says)
                (λ e memory. memory);
            counted =
                subst (λ (k : ℕ). IfOk w.leaf_eq-raw.result (λ _. g.K.LeafKernel.count w.leaf_eq-raw.new.self ≡ g.K.LeafKernel.count c.args.steps.now + k))
                (sym (leaf_tally c.args.left.now c.args.right.now c.args.a c.args.b c.args.n leaves)) w.leaf_eq-raw.ensures.counted;
            kept = w.leaf_eq-raw.ensures.kept;
          })
    ] in
    let told : RawBits g.K.LeafKernel.agree c.args.left.now c.args.a c.args.right.now c.args.b c.args.n c.in_ok-raw.field-0 = rw c.in_ok-raw.was at raw.told in
    record {
      told =
          MatchResult-weaker c.join_windows.result c.join_windows.ensures
          (λ bits join. joined _ _ _ _ _ _ _ bits told join)
          (λ e memory. memory);
      counted = on_ok c.join_windows.result _ (rw c.in_ok-raw.was at raw.counted);
      kept = raw.kept;
    }

pub equal_windows-leaf_eq-raw-requires : goal.equal_windows-leaf_eq-raw-requires
equal_windows-leaf_eq-raw-requires g t c = record {
  leaves = leaf_case c.args.left.now c.in_default.not-Null c.in_default.not-List c.in_default.not-FixedSizeList c.in_default.not-Struct c.in_default.not-Dictionary;
  windows = c.requires;
}

pub eq_lists-loop-done-init : goal.eq_lists-loop-done-init
eq_lists-loop-done-init g t c = (
  omega arith,
  rw c.in_ok-bits.ensures.empty (raw_none _ _ _ _ _),
  omega arith,
  omega arith,
  omega (arith, c.in_ok-bits.ensures.room),
  none_known _ _ _ _ _ _ c.none-matches.ensures,
)

pub eq_lists-loop-done-preserved : goal.eq_lists-loop-done-preserved
eq_lists-loop-done-preserved g t c =
    let next = c.in_ok-done.ensures in
    let adds = tally-adds (List c.args.left.now) (List c.args.right.now) c.args.a c.args.b c.loop-done.done c.in_ok-done.field-0 in (
      omega (arith, next.within),
      raw_adds _ _ _ _ _ _ _ _ _ c.loop-done.invariant.1 next.told,
      next.counted ∙ omega (arith, c.loop-done.invariant.2, adds),
      omega (arith, next.kept, c.loop-done.invariant.3),
      omega (arith, next.room, next.within, c.loop-done.invariant.4),
      known_at _ _ _ _ _ _ _ _ _ (omega arith) (omega arith) (omega arith) next.known,
    )

pub push_next-returns-in-Apart-clause-told : goal.push_next-returns-in-Apart-clause-told
push_next-returns-in-Apart-clause-told g t c =
    rw c.push_reserved.ensures
    (apart_bits _ c.args.left.now c.args.right.now c.args.a c.args.b _ (rw c.in-Apart.is at c.next_rows.ensures.next))

pub push_next-returns-in-Apart-clause-known : goal.push_next-returns-in-Apart-clause-known
push_next-returns-in-Apart-clause-known g t c = rw c.in-Apart.is at c.next_rows.ensures.known

pub push_next-returns-in_ok-items-in-Run-clause-known :
    goal.push_next-returns-in_ok-items-in-Run-clause-known
push_next-returns-in_ok-items-in-Run-clause-known g t c = rw c.in-Run.is at c.next_rows.ensures.known

pub push_next-returns-in_ok-items-in-Run-clause-told :
    goal.push_next-returns-in_ok-items-in-Run-clause-told
push_next-returns-in_ok-items-in-Run-clause-told g t c =
    let run = rw c.in-Run.is at c.next_rows.ensures.next in
    let items = rw (c.values-left_items.ensures.values, c.values-right_items.ensures.values) at c.in_ok-items-in-Run.ensures.told in
    run_bits _ c.args.left.now c.args.right.now c.args.a c.args.b c.args.n c.in-Run.run' c.in_ok-items-in-Run.items _ _ c.requires.windows.left_good c.requires.windows.right_good c.requires.windows.left_in c.requires.windows.right_in run items c.push_rows.ensures.bits

pub push_next-returns-in_ok-items-in-Run-clause-counted :
    goal.push_next-returns-in_ok-items-in-Run-clause-counted
push_next-returns-in_ok-items-in-Run-clause-counted g t c =
    let run = rw c.in-Run.is at c.next_rows.ensures.next in
    let cost = run_tally c.args.left.now c.args.right.now c.args.a c.args.b c.args.n c.in-Run.run' c.requires.windows.left_good c.requires.windows.right_good c.requires.windows.left_in c.requires.windows.right_in run in
    let counted = rw (c.values-left_items.ensures.values, c.values-right_items.ensures.values) at c.in_ok-items-in-Run.ensures.counted in
    counted ∙ ap (λ (k : ℕ). g.K.LeafKernel.count c.args.steps.now + k) (sym cost)

pub push_next-returns-then-are_few_leaves-clause-told :
    goal.push_next-returns-then-are_few_leaves-clause-told
push_next-returns-then-are_few_leaves-clause-told g t c =
    let run = rw c.in-Run.is at c.next_rows.ensures.next in
    let items = rw (c.values-left_items.ensures.values, c.values-right_items.ensures.values) at c.in_ok-word-in-Run.ensures.told in
    run_word _ c.args.left.now c.args.right.now c.args.a c.args.b c.args.n c.in-Run.run' c.in_ok-word-in-Run.word _ _ c.requires.windows.left_good c.requires.windows.right_good c.requires.windows.left_in c.requires.windows.right_in run items c.push_word.ensures.bits

pub push_next-returns-then-are_few_leaves-clause-counted :
    goal.push_next-returns-then-are_few_leaves-clause-counted
push_next-returns-then-are_few_leaves-clause-counted g t c =
    let run = rw c.in-Run.is at c.next_rows.ensures.next in
    let cost = run_tally c.args.left.now c.args.right.now c.args.a c.args.b c.args.n c.in-Run.run' c.requires.windows.left_good c.requires.windows.right_good c.requires.windows.left_in c.requires.windows.right_in run in
    let counted = rw (c.values-left_items.ensures.values, c.values-right_items.ensures.values) at c.in_ok-word-in-Run.ensures.counted in
    counted ∙ ap (λ (k : ℕ). g.K.LeafKernel.count c.args.steps.now + k) (sym cost)

pub eq_fixed_size_lists-returns : goal.eq_fixed_size_lists-returns
eq_fixed_size_lists-returns g t c = record {
  told =
      MatchResult-weaker c.all_in_blocks.result (rw c.from_bitmap.ensures at c.all_in_blocks.ensures)
      (λ bits blocks.
      fixed_bits _ c.args.left.now c.args.right.now c.args.a c.args.b c.args.n _ _ _ _ _ _ c.in_ok-items.items bits c.values-left_items.ensures.values c.values-right_items.ensures.values c.item_window-left_start.ensures.first c.item_window-right_start.ensures.first c.item_window-left_start.ensures.count c.width.ensures c.requires.one_type c.in_ok-items.ensures.told blocks)
      (λ e memory. memory);
  counted = search rules;
  kept = c.in_ok-items.ensures.kept;
}

pub eq_structs-returns-then-count-eq0 : goal.eq_structs-returns-then-count-eq0
eq_structs-returns-then-count-eq0 g t c =
    let l = c.args.left.now in
    let r = c.args.right.now in
    let many = struct_count l r c.requires.left_good c.requires.right_good c.requires.one_type in
    let all : length (columns l) ≤ 0 = omega (arith, c.if-count-eq0.true, ap length c.values-count.ensures) in
    let all' : length (columns r) ≤ 0 = omega (arith, all, many) in
    let free = struct_tally l r c.args.a c.args.b c.args.n 0 all all' in
    let counted : g.K.LeafKernel.count c.args.steps.now ≡ g.K.LeafKernel.count c.args.steps.now + tally (Struct l) (Struct r) c.args.a c.args.b c.args.n = omega (arith, free) in
    record {
      told =
          MatchResult-weaker c.new_with_value.result c.new_with_value.ensures
          (λ bits e. struct_bits _ l r _ _ _ 0 bits all all' (no_columns _ _ _ _ _ _ bits e))
          (λ e memory. memory);
      counted = search rules;
      kept = omega arith;
    }

pub eq_structs-loop-i-init : goal.eq_structs-loop-i-init
eq_structs-loop-i-init g t c =
    let l = c.args.left.now in
    let r = c.args.right.now in
    let pair = c.column_pair.ensures in
    let some : 0 < length (columns l) = omega (arith, c.if-count-eq0.false, ap length c.values-count.ensures) in (
      first_column _ (columns l) _ (columns r) _ _ _ _ c.in_ok-first.first _ c.in_ok-first.ensures.told c.in_ok-bits.ensures some pair.as_many pair.left_is pair.right_is,
      omega (arith, c.in_ok-first.ensures.counted, columns_tally-take (columns l) (columns r) _ _ 0 c.args.a c.args.b c.args.n some pair.as_many pair.left_is pair.right_is),
      c.in_ok-first.ensures.kept,
      ap length c.values-count.ensures,
    )

pub eq_structs-loop-i-preserved : goal.eq_structs-loop-i-preserved
eq_structs-loop-i-preserved g t c =
    let l = c.args.left.now in
    let r = c.args.right.now in
    let pair = c.column_pair-in-loop-i.ensures in
    let column = c.in_ok-join_column.ensures in
    let low : c.loop-i.i < length (columns l) = omega (arith, c.loop-i-test.true, c.loop-i.invariant.3) in (
      more_columns _ (columns l) _ (columns r) _ _ c.loop-i.i _ _ _ column.told.same _ c.loop-i.invariant.0 column.told.told column.told.joined low pair.as_many pair.left_is pair.right_is,
      omega (arith, column.counted, c.loop-i.invariant.1, columns_tally-take (columns l) (columns r) _ _ c.loop-i.i c.args.a c.args.b c.args.n low pair.as_many pair.left_is pair.right_is),
      omega (arith, column.kept, c.loop-i.invariant.2),
      c.loop-i.invariant.3,
    )

pub eq_structs-returns : goal.eq_structs-returns
eq_structs-returns g t c =
    let l = c.args.left.now in
    let r = c.args.right.now in
    let many = struct_count l r c.requires.left_good c.requires.right_good c.requires.one_type in
    let all : length (columns l) ≤ c.loop-i.i = omega (arith, c.loop-i.invariant.3) in
    record {
      told = rw c.freeze.ensures (struct_bits _ l r _ _ _ c.loop-i.i _ all (omega (arith, all, many)) c.loop-i.invariant.0);
      counted =
          c.loop-i.invariant.1
          ∙ ap (λ (k : ℕ). g.K.LeafKernel.count c.args.steps.now + k) (sym (struct_tally l r c.args.a c.args.b c.args.n c.loop-i.i all (omega (arith, all, many))));
      kept = c.loop-i.invariant.2;
    }

pub join_column-leaf_and_eq-requires : goal.join_column-leaf_and_eq-requires
join_column-leaf_and_eq-requires g t c = record {
  leaves = (c.are_leaves.ensures c.if-are_leaves.true).leaves;
  windows = rw c.requires.as_many c.requires.windows;
}

pub join_column-returns-then-are_leaves-clause-told :
    goal.join_column-returns-then-are_leaves-clause-told
join_column-returns-then-are_leaves-clause-told g t c =
    MatchResult-weaker c.leaf_and_eq.result c.leaf_and_eq.ensures.told
    (λ done joins. whole_joined g.K.LeafKernel.agree c.args.left.now c.args.right.now c.args.a c.args.b c.args.n c.args.bits.now c.leaf_and_eq.new.bits c.requires.windows (c.are_leaves.ensures c.if-are_leaves.true) c.requires.as_many joins)
    (λ e memory. memory)

pub join_column-returns-then-are_leaves-clause-counted :
    goal.join_column-returns-then-are_leaves-clause-counted
join_column-returns-then-are_leaves-clause-counted g t c =
    let whole = c.are_leaves.ensures c.if-are_leaves.true in
    subst (λ (k : ℕ). IfOk c.leaf_and_eq.result (λ _. g.K.LeafKernel.count c.leaf_and_eq.new.self ≡ g.K.LeafKernel.count c.args.steps.now + k))
    (c.requires.as_many ∙ sym (leaf_tally c.args.left.now c.args.right.now c.args.a c.args.b c.args.n whole.leaves)) c.leaf_and_eq.ensures.counted

pub join_column-and_assign-requires : goal.join_column-and_assign-requires
join_column-and_assign-requires g t c = c.in_ok-same.ensures.told.size ∙ sym c.requires.as_many

pub join_column-returns-clause-told : goal.join_column-returns-clause-told
join_column-returns-clause-told g t c = record {
  same = c.in_ok-same.same;
  told = c.in_ok-same.ensures.told;
  joined = c.and_assign.ensures;
}

pub eq_dictionaries-loop-i-init : goal.eq_dictionaries-loop-i-init
eq_dictionaries-loop-i-init g t c = (
  rw c.in_ok-bits.ensures.empty (raw_none _ _ _ _ _),
  omega arith,
  omega arith,
  omega (arith, c.in_ok-bits.ensures.room),
)

pub eq_dictionaries-loop-i-preserved : goal.eq_dictionaries-loop-i-preserved
eq_dictionaries-loop-i-preserved g t c =
    let same = c.in_ok-same.ensures in
    let adds = tally-adds (Dictionary c.args.left.now) (Dictionary c.args.right.now) c.args.a c.args.b c.loop-i.i 1 in
    rw c.push_reserved.ensures (
      raw_adds _ _ _ _ _ _ _ _ _ c.loop-i.invariant.0 (adds_one _ _ _ _ _ _ _ same.told),
      same.counted ∙ omega (arith, c.loop-i.invariant.1, adds),
      omega (arith, same.kept, c.loop-i.invariant.2),
      omega (arith, c.loop-i.invariant.3),
    )

pub equal_entries-returns-in_ok-same-in-Some-clause-told :
    goal.equal_entries-returns-in_ok-same-in-Some-clause-told
equal_entries-returns-in_ok-same-in-Some-clause-told g t c =
    let entries = rw c.in-Some.is at c.row_entries.ensures in
    entry_bit g.K.LeafKernel.agree c.args.left.now c.args.right.now c.args.a c.args.b _ _ c.in-Some.pair c.in_ok-same-in-Some.same c.requires.left_good c.requires.right_good (omega (arith, c.requires.left_in)) (omega (arith, c.requires.right_in)) c.values-entries.ensures.values c.values-others.ensures.values entries c.in_ok-same-in-Some.ensures.told

pub equal_entries-returns-in_ok-same-in-Some-clause-counted :
    goal.equal_entries-returns-in_ok-same-in-Some-clause-counted
equal_entries-returns-in_ok-same-in-Some-clause-counted g t c =
    let entries = rw c.in-Some.is at c.row_entries.ensures in
    c.in_ok-same-in-Some.ensures.counted
    ∙ ap (λ (k : ℕ). g.K.LeafKernel.count c.args.steps.now + k) (entry_count c.args.left.now c.args.right.now c.args.a c.args.b _ _ c.in-Some.pair c.values-entries.ensures.values c.values-others.ensures.values entries)

pub equal_entries-returns-in-None-clause-told : goal.equal_entries-returns-in-None-clause-told
equal_entries-returns-in-None-clause-told g t c =
    entry_none _ c.args.left.now c.args.right.now c.args.a c.args.b _ c.requires.left_good c.requires.right_good (omega (arith, c.requires.left_in)) (omega (arith, c.requires.right_in)) (rw c.in-None.is at c.row_entries.ensures)

pub raw_row-leaf_row_eq-requires : goal.raw_row-leaf_row_eq-requires
raw_row-leaf_row_eq-requires g t c = record {
  leaves = leaf_case c.args.left.now c.in_default.not-Null c.in_default.not-List c.in_default.not-FixedSizeList c.in_default.not-Struct c.in_default.not-Dictionary;
  windows = c.requires;
}

pub raw_row-returns-in_default : goal.raw_row-returns-in_default
raw_row-returns-in_default g t c =
    let leaves = leaf_case c.args.left.now c.in_default.not-Null c.in_default.not-List c.in_default.not-FixedSizeList c.in_default.not-Struct c.in_default.not-Dictionary in
    record {
      told =
          MatchResult-weaker c.leaf_row_eq.result c.leaf_row_eq.ensures.told
          (λ bit says. leaf_bit g.K.LeafKernel.agree c.args.left.now c.args.right.now c.args.a c.args.b bit leaves c.requires.one_type c.requires.left_in c.requires.right_in says)
          (λ e memory. memory);
      counted =
          subst (λ (k : ℕ). IfOk c.leaf_row_eq.result (λ _. g.K.LeafKernel.count c.leaf_row_eq.new.self ≡ g.K.LeafKernel.count c.args.steps.now + k))
          (sym (leaf_tally c.args.left.now c.args.right.now c.args.a c.args.b 1 leaves)) c.leaf_row_eq.ensures.counted;
      kept = c.leaf_row_eq.ensures.kept;
    }

pub nested_row-returns-in_ok-bits-in_default : goal.nested_row-returns-in_ok-bits-in_default
nested_row-returns-in_ok-bits-in_default g t c = record {
  told = same_first g.K.LeafKernel.agree c.args.left.now c.args.a c.args.right.now c.args.b c.in_ok-bits-in_default.bits _ c.in_ok-bits-in_default.ensures.told c.get_bit.ensures;
  counted = c.in_ok-bits-in_default.ensures.counted;
  kept = c.in_ok-bits-in_default.ensures.kept;
}

pub equal_windows-as_list-requires : goal.equal_windows-as_list-requires
equal_windows-as_list-requires g t c = rw (← c.requires.one_type) (list_sort c.args.left.now c.in-List.left c.in-List.is)

pub equal_windows-eq_lists-raw-requires : goal.equal_windows-eq_lists-raw-requires
equal_windows-eq_lists-raw-requires g t c κs within =
    (search (rules, the_lemmas), (within, rw (c.in-List.is, c.as_list.ensures) at c.requires))

pub equal_windows-as_fixed_size_list-requires : goal.equal_windows-as_fixed_size_list-requires
equal_windows-as_fixed_size_list-requires g t c = rw (← c.requires.one_type, c.in-FixedSizeList.is) refl

pub equal_windows-eq_fixed_size_lists-raw-requires : goal.equal_windows-eq_fixed_size_lists-raw-requires
equal_windows-eq_fixed_size_lists-raw-requires g t c κs within =
    (search (rules, the_lemmas), (within, rw (c.in-FixedSizeList.is, c.as_fixed_size_list.ensures) at c.requires))

pub equal_windows-as_struct-requires : goal.equal_windows-as_struct-requires
equal_windows-as_struct-requires g t c = rw (← c.requires.one_type, c.in-Struct.is) refl

pub equal_windows-eq_structs-raw-requires : goal.equal_windows-eq_structs-raw-requires
equal_windows-eq_structs-raw-requires g t c κs within =
    (search (rules, the_lemmas), (within, rw (c.in-Struct.is, c.as_struct.ensures) at c.requires))

pub equal_windows-as_dictionary-requires : goal.equal_windows-as_dictionary-requires
equal_windows-as_dictionary-requires g t c = rw (← c.requires.one_type, c.in-Dictionary.is) refl

pub equal_windows-eq_dictionaries-raw-requires : goal.equal_windows-eq_dictionaries-raw-requires
equal_windows-eq_dictionaries-raw-requires g t c κs within =
    (search (rules, the_lemmas), (within, rw (c.in-Dictionary.is, c.as_dictionary.ensures) at c.requires))

pub nested_row-as_dictionary-requires : goal.nested_row-as_dictionary-requires
nested_row-as_dictionary-requires g t c = rw (← c.requires.one_type, c.in-Dictionary.is) refl

pub nested_row-equal_entries-requires : goal.nested_row-equal_entries-requires
nested_row-equal_entries-requires g t c κs within =
    (search (rules, the_lemmas), (within, rw (c.in-Dictionary.is, c.as_dictionary.ensures) at c.requires))

pub nested_row-returns-in-Dictionary-clause-told : goal.nested_row-returns-in-Dictionary-clause-told
nested_row-returns-in-Dictionary-clause-told g t c =
    rw (c.in-Dictionary.is, c.as_dictionary.ensures) c.equal_entries.ensures.told

pub nested_row-returns-in-Dictionary-clause-counted :
    goal.nested_row-returns-in-Dictionary-clause-counted
nested_row-returns-in-Dictionary-clause-counted g t c =
    rw (c.in-Dictionary.is, c.as_dictionary.ensures) c.equal_entries.ensures.counted

pub nested_row-returns-in-Dictionary-clause-kept : goal.nested_row-returns-in-Dictionary-clause-kept
nested_row-returns-in-Dictionary-clause-kept g t c = c.equal_entries.ensures.kept

pub nested_row-equal_windows-requires : goal.nested_row-equal_windows-requires
nested_row-equal_windows-requires g t c κs within = (omega arith, (within, c.requires))

pub raw_row-nested_row-requires : goal.raw_row-nested_row-requires
raw_row-nested_row-requires g t c κs within = (omega arith, (within, c.requires))

pub raw_row-returns-in-Null-clause-told : goal.raw_row-returns-in-Null-clause-told
raw_row-returns-in-Null-clause-told g t c = c.nested_row.ensures.told

pub raw_row-returns-in-Null-clause-counted : goal.raw_row-returns-in-Null-clause-counted
raw_row-returns-in-Null-clause-counted g t c = c.nested_row.ensures.counted

pub join_column-equal_windows-requires : goal.join_column-equal_windows-requires
join_column-equal_windows-requires g t c κs within = (omega arith, (within, c.requires.windows))

pub join_column-returns-clause-counted : goal.join_column-returns-clause-counted
join_column-returns-clause-counted g t c = c.in_ok-same.ensures.counted

pub join_column-returns-clause-kept : goal.join_column-returns-clause-kept
join_column-returns-clause-kept g t c = c.in_ok-same.ensures.kept

pub eq_structs-equal_windows-requires : goal.eq_structs-equal_windows-requires
eq_structs-equal_windows-requires g t c κs within =
    let pair = c.column_pair.ensures in (
      omega (arith, pair.smaller),
      (
        within,
        record {
          left_good = pair.left_good;
          right_good = pair.right_good;
          one_type = pair.one_type;
          left_in = rw pair.left_len c.requires.left_in;
          right_in = rw pair.right_len c.requires.right_in;
        },
      ),
    )

pub eq_dictionaries-returns : goal.eq_dictionaries-returns
eq_dictionaries-returns g t c =
    let all : c.loop-i.i ≡ c.args.n = omega arith in
    record {
      told = rw (c.freeze.ensures, ← all) c.loop-i.invariant.0;
      counted = rw (← all) c.loop-i.invariant.1;
      kept = c.loop-i.invariant.2;
    }

pub eq_lists-returns : goal.eq_lists-returns
eq_lists-returns g t c =
    let all : c.loop-done.done ≡ c.args.n = omega (arith, c.loop-done.invariant.0) in
    record {
      told = rw (c.freeze.ensures, ← all) c.loop-done.invariant.1;
      counted = rw (← all) c.loop-done.invariant.2;
      kept = c.loop-done.invariant.3;
    }

pub eq_dictionaries-equal_entries-requires : goal.eq_dictionaries-equal_entries-requires
eq_dictionaries-equal_entries-requires g t c κs within = (
  omega arith,
  (
    within,
    record {
      left_good = c.requires.left_good;
      right_good = c.requires.right_good;
      one_type = c.requires.one_type;
      left_in = omega (arith, c.requires.left_in, c.loop-i-test.true);
      right_in = omega (arith, c.requires.right_in, c.loop-i-test.true);
    },
  ),
)
