-- Shapes that fit parts, and what refuses them.
use Rattle.std.proofs.Common.{◌≡◌, ◌↔◌, ℕ, ◌-◌, ◌*◌, ℤ, pos, Bool, List, [], ◌∷◌, length, map, refl, sym, ap, subst, ◌∙◌}
use Rattle.std.proofs.lemmas.List.{length-map}
use Rattle.std.proofs.lemmas.List.FromFn.{length-map-range_with_len}
use Rattle.std.specs.Prelude.{Option, Some, None}
use Rattle.polars_arrays_bits.specs.Buffer.{Elements}
use Rattle.polars_arrays_bytes.specs.OffsetStrings.{AreGood, OffsetStrings, offset_rows, places, row_count, strings_between}
use Rattle.polars_arrays_bytes.specs.SizedStrings.{SizedStrings, sized_strings}
use Rattle.polars_arrays_flat.specs.ArrayRows.{number_rows}
use Rattle.polars_arrays_flat.specs.Flat.{Flat}
use Rattle.polars_arrays_flat.specs.Kind.{FixedSizeBinaryKind, FixedSizeListKind}
use Rattle.polars_arrays_flat.specs.Numbers.{Numbers}
use Rattle.polars_arrays_flat.specs.Row.{Row, Fields, Int}
use Rattle.polars_arrays_flat.specs.StoredRows.{byte_slots, kept, number_slots, rows_under, truth_slots}
use Rattle.polars_arrays_flat.specs.StoredRows.{row as row_at}
use Rattle.polars_arrays_flat.specs.Validity.{is_present}
use Rattle.polars_arrays_nested.specs.DictKeys.{NameEntries, key_places}
use Rattle.polars_arrays_nested.specs.GoodParts.{AreFixedLists, AreKeys, AreLists}
use Rattle.polars_arrays_nested.specs.declared.any_array.AnyArray.{AnyArray}
use Rattle.polars_arrays_nested.specs.declared.any_array.AnyArray as of
use Rattle.polars_arrays_nested.specs.declared.dict_keys.DictKeys.{DictKeys}
use Rattle.polars_arrays_nested.specs.declared.dict_keys.DictKeys.TheVariants as keys
use Rattle.polars_arrays_nested.specs.declared.list_offsets.ListOffsets.TheVariants.{Large}
use Rattle.polars_arrays_numbers.specs.Naturals.{natural_of}
use Rattle.arrow_parts.specs.ByteBits.{byte_window}
use Rattle.arrow_parts.specs.Lent.{present_in, signed_wide, wide_numbers}
use Rattle.arrow_parts.specs.Refusals.{IsHonest}
use Rattle.arrow_parts.specs.declared.part.Part.{Part}
use Rattle.arrow_parts.specs.declared.part.PartKind.{PartKind}
use Rattle.arrow_parts.specs.declared.part.PartKind.TheVariants as kind
use Rattle.arrow_parts.specs.declared.refused.Refused.{Refused}
use Rattle.arrow_arrays.proofs.Honest.{honest-more}
use Rattle.arrow_arrays.proofs.MaskedRows.{kept-missing, row-under}
use Rattle.arrow_arrays.proofs.SlotLemmas.{good-placed, rows-bits}
use Rattle.arrow_arrays.proofs.ViewStanding.{gathered-count, gathered-rows}
use Rattle.arrow_arrays.specs.Columns.{Column, across, entries, entry_leaves, far_ends, fixed_leaves, fixed_lists, keys_in, kind_inside, list_leaves, lists, near_ends}
use Rattle.arrow_arrays.specs.Good.{AllLong, AreEntries, AreNumbers, ArePlaced, AreRows, AreSized, AreTextRows, GoodEntries, GoodKind, GoodLists, GoodRows, GoodStrings, GoodStructs, HoldRows, OneColumn}
use Rattle.arrow_arrays.specs.Shapes.{AreKeysOf, FitsEntries, FitsKind, FitsLists, IsHonestOver}
use Rattle.arrow_arrays.specs.Stands.{IsNumbers, IsSizedStrings, IsStrings, IsTruths, IsViewed, StandsFor}
use Rattle.arrow_arrays.specs.Views.{AreTextViews, AreViews}
use Rattle.arrow_arrays.specs.declared.shapes.Shape.TheVariants.{Leaf, Lists, FixedLists, Structs, Entries}
use Rattle.arrow_arrays.specs.declared.shapes.Size.{Size}

-- stored rows of an array that are those of a part
slots-same : (validity : Option (List Bool)) (p : Part) (xs ys : List Row) → validity ≡ present_in p → xs ≡ ys → (i : ℕ) → row_at (rows_under validity xs) i ≡ kept (is_present (present_in p) i) (row_at ys i)
slots-same validity p xs ys mask same i =
    row-under validity xs i
    ∙ ap (λ v. kept (is_present v i) (row_at xs i)) mask
    ∙ ap (λ slots. kept (is_present (present_in p) i) (row_at slots i)) same

-- ---- arrays inside others

-- what holds of one column exactly if another property does
one-both : (f g : Column → Type 0) → ((c : Column) → f c ↔ g c) → (cs : List Column) → OneColumn f cs ↔ OneColumn g cs
one-both f g both [] = (λ x. x, λ x. x)
one-both f g both (c ∷ []) = both c
one-both f g both (c ∷ d ∷ cs) = (λ x. x, λ x. x)

-- what holds of one column shows something of the part
one-shows : (f : Column → Type 0) (P : Type 0) → ((c : Column) → f c → P) → (cs : List Column) → OneColumn f cs → P
one-shows f P show [] good = absurd good
one-shows f P show (c ∷ []) good = show c good
one-shows f P show (c ∷ d ∷ cs) good = absurd good

list_count-of : (all : List (Option ℕ)) (n : ℕ) (ends : List ℤ) → row_count ends ≡ n → places (λ x. x) ends ≡ all → row_count (places (λ x. x) ends) ≡ n
list_count-of all n ends count same = ap (λ m. m - 1) (length-map ends (λ x. natural_of x)) ∙ count

pub fits-lists : (all : List (Option ℕ)) (p : Part) (ends : Elements ℤ) (validity : Option (List Bool)) → HoldRows p → row_count ends.items ≡ p.rows → places (λ x. x) ends.items ≡ all → validity ≡ present_in p → FitsLists all p (Lists (Large ends) validity)
fits-lists all p ends validity present count stored mask =
    let rows : row_count (places (λ x. x) ends.items) ≡ p.rows = list_count-of all p.rows ends.items count stored in
    record {
      good = tt;
      fits = λ cs. record {
        kind = refl;
        len = rows;
        rows = λ i.
            ap (λ v. kept (is_present v i) (lists (places (λ x. x) ends.items) cs i)) mask
            ∙ ap (λ xs. kept (is_present (present_in p) i) (lists xs cs i)) stored;
        leaves = λ from n. ap (λ xs. list_leaves xs cs from n) stored;
      };
      fills = one-both (λ c. AreRows p c.len all) (λ c. AreLists c.len (Large ends) validity)
          (λ c. (
            λ good. record {
              bits = rows-bits p (row_count (places (λ x. x) ends.items)) validity rows mask;
              good = subst (AreGood c.len) (sym stored) good.good;
            },
            λ lists. record {
              present = present;
              count = ap (λ xs. length xs - 1) (sym stored) ∙ rows;
              good = subst (AreGood c.len) stored lists.good;
            },
          ));
    }

pub fits-fixed : (p : Part) (size : Size) (validity : Option (List Bool)) → HoldRows p → size.width ≡ p.width → size.rows ≡ p.rows → validity ≡ present_in p → FitsKind kind.FixedSizeList p (FixedLists size validity)
fits-fixed p size validity present width long mask = record {
  good = tt;
  fits = λ cs. record {
    kind = ap (λ n. FixedSizeListKind (kind_inside cs) n) width;
    len = long;
    rows = λ i.
        ap (λ v. kept (is_present v i) (fixed_lists size.width cs i)) mask
        ∙ ap (λ n. kept (is_present (present_in p) i) (fixed_lists n cs i)) width;
    leaves = λ from n. ap (λ w. fixed_leaves w cs from n) width;
  };
  fills = one-both (λ c. AreSized p c.len) (λ c. AreFixedLists c.len size.width size.rows validity)
      (λ c. (
        λ good. record {
          bits = rows-bits p size.rows validity long mask;
          items = good.size ∙ ap (λ w. w * p.rows) (sym width) ∙ ap (λ n. size.width * n) (sym long);
        },
        λ lists. record {
          present = present;
          size = lists.items ∙ ap (λ w. w * size.rows) width ∙ ap (λ n. p.width * n) long;
        },
      ));
}

pub fits-structs : (p : Part) (n : ℕ) (validity : Option (List Bool)) → HoldRows p → n ≡ p.rows → validity ≡ present_in p → FitsKind kind.Struct p (Structs n validity)
fits-structs p n validity present long mask = record {
  good = tt;
  fits = λ cs. record {
    kind = refl;
    len = long;
    rows = λ i. ap (λ v. kept (is_present v i) (Fields (across cs i))) mask;
    leaves = λ from m. refl;
  };
  fills = λ cs. (
    λ good. (rows-bits p n validity long mask, subst (λ m. AllLong m cs) (sym long) good.long),
    λ structs. record { present = present; long = subst (λ m. AllLong m cs) long structs.1 },
  );
}

-- ---- dictionaries

keys-good : {A : Type 0} (value : A → ℤ) (p : Part) (xs : List A) → AreNumbers p (length xs) → AreNumbers p (length (places value xs))
keys-good value p xs = subst (AreNumbers p) (sym (length-map xs (λ x. natural_of (value x))))

fits-keys : (k : PartKind) (p : Part) (ks : DictKeys) → AreKeysOf k p ks → FitsEntries k p (Entries ks)
fits-keys k p ks are = record {
  good = tt;
  fits = λ cs. record {
    kind = are.type cs;
    len = ap length are.named ∙ are.good.count;
    rows = λ i.
        ap (λ v. kept (is_present v i) (entries (key_places ks) cs i)) are.mask
        ∙ ap (λ all. kept (is_present (present_in p) i) (entries all cs i)) are.named;
    leaves = λ from n.
        ap (λ v. entry_leaves v (key_places ks) cs from n) are.mask
        ∙ ap (λ all. entry_leaves (present_in p) all cs from n) are.named;
  };
  fills = one-both (λ c. AreEntries p (keys_in k p) c.len) (λ c. AreKeys c.len ks)
      (λ c. (
        λ good. record {
          named = subst (λ v. NameEntries c.len v (key_places ks)) (sym are.mask) (subst (NameEntries c.len (present_in p)) (sym are.named) good.named);
        },
        λ named. record {
          keys = are.good;
          named = subst (NameEntries c.len (present_in p)) are.named (subst (λ v. NameEntries c.len v (key_places ks)) are.mask named.named);
        },
      ));
}

pub key-Int8 : (p : Part) (a : Numbers ℤ) → IsNumbers p p.i8s.now a → FitsKind kind.DictInt8 p (Entries (keys.Int8 a))
key-Int8 p a are =
    fits-keys kind.DictInt8 p (keys.Int8 a) (record { type = λ cs. refl; good = keys-good (λ x. x) p p.i8s.now are.good; mask = are.mask; named = ap (places (λ x. x)) are.stored })

pub key-Int16 : (p : Part) (a : Numbers ℤ) → IsNumbers p p.i16s.now a → FitsKind kind.DictInt16 p (Entries (keys.Int16 a))
key-Int16 p a are =
    fits-keys kind.DictInt16 p (keys.Int16 a) (record { type = λ cs. refl; good = keys-good (λ x. x) p p.i16s.now are.good; mask = are.mask; named = ap (places (λ x. x)) are.stored })

pub key-Int32 : (p : Part) (a : Numbers ℤ) → IsNumbers p p.i32s.now a → FitsKind kind.DictInt32 p (Entries (keys.Int32 a))
key-Int32 p a are =
    fits-keys kind.DictInt32 p (keys.Int32 a) (record { type = λ cs. refl; good = keys-good (λ x. x) p p.i32s.now are.good; mask = are.mask; named = ap (places (λ x. x)) are.stored })

pub key-Int64 : (p : Part) (a : Numbers ℤ) → IsNumbers p p.i64s.now a → FitsKind kind.DictInt64 p (Entries (keys.Int64 a))
key-Int64 p a are =
    fits-keys kind.DictInt64 p (keys.Int64 a) (record { type = λ cs. refl; good = keys-good (λ x. x) p p.i64s.now are.good; mask = are.mask; named = ap (places (λ x. x)) are.stored })

pub key-UInt8 : (p : Part) (a : Numbers ℕ) → IsNumbers p p.u8s.now a → FitsKind kind.DictUInt8 p (Entries (keys.UInt8 a))
key-UInt8 p a are =
    fits-keys kind.DictUInt8 p (keys.UInt8 a) (record { type = λ cs. refl; good = keys-good (λ x. pos x) p p.u8s.now are.good; mask = are.mask; named = ap (places (λ x. pos x)) are.stored })

pub key-UInt16 : (p : Part) (a : Numbers ℕ) → IsNumbers p p.u16s.now a → FitsKind kind.DictUInt16 p (Entries (keys.UInt16 a))
key-UInt16 p a are =
    fits-keys kind.DictUInt16 p (keys.UInt16 a) (record { type = λ cs. refl; good = keys-good (λ x. pos x) p p.u16s.now are.good; mask = are.mask; named = ap (places (λ x. pos x)) are.stored })

pub key-UInt32 : (p : Part) (a : Numbers ℕ) → IsNumbers p p.u32s.now a → FitsKind kind.DictUInt32 p (Entries (keys.UInt32 a))
key-UInt32 p a are =
    fits-keys kind.DictUInt32 p (keys.UInt32 a) (record { type = λ cs. refl; good = keys-good (λ x. pos x) p p.u32s.now are.good; mask = are.mask; named = ap (places (λ x. pos x)) are.stored })

pub key-UInt64 : (p : Part) (a : Numbers ℕ) → IsNumbers p p.u64s.now a → FitsKind kind.DictUInt64 p (Entries (keys.UInt64 a))
key-UInt64 p a are =
    fits-keys kind.DictUInt64 p (keys.UInt64 a) (record { type = λ cs. refl; good = keys-good (λ x. pos x) p p.u64s.now are.good; mask = are.mask; named = ap (places (λ x. pos x)) are.stored })

-- ---- arrays of one level

leaf-fits : (k : PartKind) (p : Part) (a : AnyArray) → StandsFor k p a → ((cs : List Column) → GoodKind k p cs) → FitsKind k p (Leaf a)
leaf-fits k p a stands good = record {
  good = (stands []).good;
  fits = λ cs. record { kind = (stands cs).kind; len = (stands cs).len; rows = (stands cs).rows; leaves = (stands cs).leaves };
  fills = λ cs. (λ _. tt, λ _. good cs);
}

numbers-same : {A : Type 0} (value : A → ℤ) (p : Part) (xs : List A) (a : Numbers A) → IsNumbers p xs a → (i : ℕ) → row_at (number_rows value a) i ≡ kept (is_present (present_in p) i) (row_at (number_slots value xs) i)
numbers-same value p xs a are =
    slots-same a.validity p (number_slots value a.values) (number_slots value xs) are.mask (ap (number_slots value) are.stored)

pub leaf-Int8 : (p : Part) (a : Numbers ℤ) → IsNumbers p p.i8s.now a → FitsKind kind.Int8 p (Leaf (of.Int8 a))
leaf-Int8 p a are =
    leaf-fits kind.Int8 p (of.Int8 a)
    (λ cs. record {
      good = tt;
      kind = refl;
      len = ap length are.stored ∙ are.good.count;
      rows = numbers-same (λ x. x) p p.i8s.now a are;
      leaves = λ from n. refl;
    })
    (λ cs. are.good)

pub leaf-Int16 : (p : Part) (a : Numbers ℤ) → IsNumbers p p.i16s.now a → FitsKind kind.Int16 p (Leaf (of.Int16 a))
leaf-Int16 p a are =
    leaf-fits kind.Int16 p (of.Int16 a)
    (λ cs. record {
      good = tt;
      kind = refl;
      len = ap length are.stored ∙ are.good.count;
      rows = numbers-same (λ x. x) p p.i16s.now a are;
      leaves = λ from n. refl;
    })
    (λ cs. are.good)

pub leaf-Int32 : (p : Part) (a : Numbers ℤ) → IsNumbers p p.i32s.now a → FitsKind kind.Int32 p (Leaf (of.Int32 a))
leaf-Int32 p a are =
    leaf-fits kind.Int32 p (of.Int32 a)
    (λ cs. record {
      good = tt;
      kind = refl;
      len = ap length are.stored ∙ are.good.count;
      rows = numbers-same (λ x. x) p p.i32s.now a are;
      leaves = λ from n. refl;
    })
    (λ cs. are.good)

pub leaf-Int64 : (p : Part) (a : Numbers ℤ) → IsNumbers p p.i64s.now a → FitsKind kind.Int64 p (Leaf (of.Int64 a))
leaf-Int64 p a are =
    leaf-fits kind.Int64 p (of.Int64 a)
    (λ cs. record {
      good = tt;
      kind = refl;
      len = ap length are.stored ∙ are.good.count;
      rows = numbers-same (λ x. x) p p.i64s.now a are;
      leaves = λ from n. refl;
    })
    (λ cs. are.good)

pub leaf-UInt8 : (p : Part) (a : Numbers ℕ) → IsNumbers p p.u8s.now a → FitsKind kind.UInt8 p (Leaf (of.UInt8 a))
leaf-UInt8 p a are =
    leaf-fits kind.UInt8 p (of.UInt8 a)
    (λ cs. record {
      good = tt;
      kind = refl;
      len = ap length are.stored ∙ are.good.count;
      rows = numbers-same (λ x. pos x) p p.u8s.now a are;
      leaves = λ from n. refl;
    })
    (λ cs. are.good)

pub leaf-UInt16 : (p : Part) (a : Numbers ℕ) → IsNumbers p p.u16s.now a → FitsKind kind.UInt16 p (Leaf (of.UInt16 a))
leaf-UInt16 p a are =
    leaf-fits kind.UInt16 p (of.UInt16 a)
    (λ cs. record {
      good = tt;
      kind = refl;
      len = ap length are.stored ∙ are.good.count;
      rows = numbers-same (λ x. pos x) p p.u16s.now a are;
      leaves = λ from n. refl;
    })
    (λ cs. are.good)

pub leaf-UInt32 : (p : Part) (a : Numbers ℕ) → IsNumbers p p.u32s.now a → FitsKind kind.UInt32 p (Leaf (of.UInt32 a))
leaf-UInt32 p a are =
    leaf-fits kind.UInt32 p (of.UInt32 a)
    (λ cs. record {
      good = tt;
      kind = refl;
      len = ap length are.stored ∙ are.good.count;
      rows = numbers-same (λ x. pos x) p p.u32s.now a are;
      leaves = λ from n. refl;
    })
    (λ cs. are.good)

pub leaf-UInt64 : (p : Part) (a : Numbers ℕ) → IsNumbers p p.u64s.now a → FitsKind kind.UInt64 p (Leaf (of.UInt64 a))
leaf-UInt64 p a are =
    leaf-fits kind.UInt64 p (of.UInt64 a)
    (λ cs. record {
      good = tt;
      kind = refl;
      len = ap length are.stored ∙ are.good.count;
      rows = numbers-same (λ x. pos x) p p.u64s.now a are;
      leaves = λ from n. refl;
    })
    (λ cs. are.good)

pub leaf-UInt128 : (p : Part) (a : Numbers ℕ) → IsNumbers p (wide_numbers p.u64s.now) a → FitsKind kind.UInt128 p (Leaf (of.UInt128 a))
leaf-UInt128 p a are =
    leaf-fits kind.UInt128 p (of.UInt128 a)
    (λ cs. record {
      good = tt;
      kind = refl;
      len = ap length are.stored ∙ are.good.count;
      rows = numbers-same (λ x. pos x) p (wide_numbers p.u64s.now) a are;
      leaves = λ from n. refl;
    })
    (λ cs. are.good)

int-slots : (xs : List ℕ) → number_slots (λ x. x) (map signed_wide xs) ≡ number_slots signed_wide xs
int-slots [] = refl
int-slots (x ∷ xs) = ap (λ rows. Int (signed_wide x) ∷ rows) (int-slots xs)

pub leaf-Int128 : (p : Part) (a : Numbers ℤ) → IsNumbers p (map signed_wide (wide_numbers p.u64s.now)) a → FitsKind kind.Int128 p (Leaf (of.Int128 a))
leaf-Int128 p a are =
    let words = wide_numbers p.u64s.now in
    leaf-fits kind.Int128 p (of.Int128 a)
    (λ cs. record {
      good = tt;
      kind = refl;
      len = ap length are.stored ∙ are.good.count;
      rows = λ i. numbers-same (λ x. x) p (map signed_wide words) a are i ∙ ap (λ slots. kept (is_present (present_in p) i) (row_at slots i)) (int-slots words);
      leaves = λ from n. refl;
    })
    (λ cs. subst (AreNumbers p) (length-map words signed_wide) are.good)

pub leaf-Null : (p : Part) (n : ℕ) → n ≡ p.rows → FitsKind kind.Null p (Leaf (of.Null n))
leaf-Null p n long =
    leaf-fits kind.Null p (of.Null n)
    (λ cs. record {
      good = tt;
      kind = refl;
      len = long;
      rows = λ i. sym (kept-missing (is_present (present_in p) i));
      leaves = λ from m. refl;
    })
    (λ cs. tt)

pub leaf-Boolean : (p : Part) (a : Flat Bool) → IsTruths p a → FitsKind kind.Boolean p (Leaf (of.Boolean a))
leaf-Boolean p a are =
    leaf-fits kind.Boolean p (of.Boolean a)
    (λ cs. record {
      good = tt;
      kind = refl;
      len = ap length are.stored ∙ length-map-range_with_len _ 0 p.rows;
      rows = slots-same a.validity p (truth_slots a.values) (truth_slots (byte_window p.first_bit p.rows p.u8s.now)) are.mask (ap truth_slots are.stored);
      leaves = λ from n. refl;
    })
    (λ cs. are.good)

strings-same : (p : Part) (all : List (Option ℕ)) (a : OffsetStrings ℤ) → IsStrings p all a → (i : ℕ) → row_at (offset_rows (λ x. x) a) i ≡ kept (is_present (present_in p) i) (row_at (byte_slots (strings_between all p.u8s.now)) i)
strings-same p all a are =
    slots-same a.validity p (byte_slots (strings_between (places (λ x. x) a.offsets) a.values)) (byte_slots (strings_between all p.u8s.now)) are.mask (ap (λ xs. byte_slots (strings_between xs a.values)) are.ends ∙ ap (λ bytes. byte_slots (strings_between all bytes)) are.stored)

pub leaf-Binary : (p : Part) (a : OffsetStrings ℤ) → IsStrings p (near_ends p) a → GoodStrings (near_ends p) p → FitsKind kind.Binary p (Leaf (of.LargeBinary a))
leaf-Binary p a are good =
    leaf-fits kind.Binary p (of.LargeBinary a)
    (λ cs. record { good = tt; kind = refl; len = are.count; rows = strings-same p (near_ends p) a are; leaves = λ from n. refl })
    (λ cs. good)

pub leaf-LargeBinary : (p : Part) (a : OffsetStrings ℤ) → IsStrings p (far_ends p) a → GoodStrings (far_ends p) p → FitsKind kind.LargeBinary p (Leaf (of.LargeBinary a))
leaf-LargeBinary p a are good =
    leaf-fits kind.LargeBinary p (of.LargeBinary a)
    (λ cs. record { good = tt; kind = refl; len = are.count; rows = strings-same p (far_ends p) a are; leaves = λ from n. refl })
    (λ cs. good)

pub leaf-Utf8 : (p : Part) (a : OffsetStrings ℤ) → IsStrings p (near_ends p) a → AreTextRows p (near_ends p) → FitsKind kind.Utf8 p (Leaf (of.LargeUtf8 a))
leaf-Utf8 p a are good =
    leaf-fits kind.Utf8 p (of.LargeUtf8 a)
    (λ cs. record { good = tt; kind = refl; len = are.count; rows = strings-same p (near_ends p) a are; leaves = λ from n. refl })
    (λ cs. good)

pub leaf-LargeUtf8 : (p : Part) (a : OffsetStrings ℤ) → IsStrings p (far_ends p) a → AreTextRows p (far_ends p) → FitsKind kind.LargeUtf8 p (Leaf (of.LargeUtf8 a))
leaf-LargeUtf8 p a are good =
    leaf-fits kind.LargeUtf8 p (of.LargeUtf8 a)
    (λ cs. record { good = tt; kind = refl; len = are.count; rows = strings-same p (far_ends p) a are; leaves = λ from n. refl })
    (λ cs. good)

pub leaf-FixedSizeBinary : (p : Part) (a : SizedStrings) → IsSizedStrings p a → FitsKind kind.FixedSizeBinary p (Leaf (of.FixedSizeBinary a))
leaf-FixedSizeBinary p a are =
    leaf-fits kind.FixedSizeBinary p (of.FixedSizeBinary a)
    (λ cs. record {
      good = tt;
      kind = ap (λ n. FixedSizeBinaryKind n) are.size;
      len = are.count;
      rows = slots-same a.validity p (byte_slots (sized_strings a.size a.count a.values)) (byte_slots (sized_strings p.width p.rows p.u8s.now)) are.mask (ap (λ n. byte_slots (sized_strings n a.count a.values)) are.size ∙ ap (λ n. byte_slots (sized_strings p.width n a.values)) are.count ∙ ap (λ bytes. byte_slots (sized_strings p.width p.rows bytes)) are.stored);
      leaves = λ from n. refl;
    })
    (λ cs. are.good)

pub leaf-BinaryView : (p : Part) (a : OffsetStrings ℤ) → IsViewed p a → AreViews p → FitsKind kind.BinaryView p (Leaf (of.LargeBinary a))
leaf-BinaryView p a are good =
    leaf-fits kind.BinaryView p (of.LargeBinary a)
    (λ cs. record { good = tt; kind = refl; len = gathered-count p a are.rows; rows = gathered-rows p a are.rows are.mask; leaves = λ from n. refl })
    (λ cs. good)

pub leaf-Utf8View : (p : Part) (a : OffsetStrings ℤ) → IsViewed p a → AreTextViews p → FitsKind kind.Utf8View p (Leaf (of.LargeUtf8 a))
leaf-Utf8View p a are good =
    leaf-fits kind.Utf8View p (of.LargeUtf8 a)
    (λ cs. record { good = tt; kind = refl; len = gathered-count p a are.rows; rows = gathered-rows p a are.rows are.mask; leaves = λ from n. refl })
    (λ cs. good)

-- ---- refusals

pub lists-present : (all : List (Option ℕ)) (p : Part) (r : Refused) → IsHonest (HoldRows p) r → IsHonestOver (GoodLists all p) r
lists-present all p r honest cs =
    honest-more (HoldRows p) (GoodLists all p cs) r honest (one-shows (λ c. AreRows p c.len all) (HoldRows p) (λ c good. good.present) cs)

pub lists-placed : (all : List (Option ℕ)) (p : Part) (r : Refused) → IsHonest (ArePlaced p.rows all) r → IsHonestOver (GoodLists all p) r
lists-placed all p r honest cs =
    honest-more (ArePlaced p.rows all) (GoodLists all p cs) r honest (one-shows (λ c. AreRows p c.len all) (ArePlaced p.rows all) (λ c good. good-placed p c.len all good) cs)

pub fixed-present : (p : Part) (r : Refused) → IsHonest (HoldRows p) r → IsHonestOver (GoodKind kind.FixedSizeList p) r
fixed-present p r honest cs =
    honest-more (HoldRows p) (GoodKind kind.FixedSizeList p cs) r honest (one-shows (λ c. AreSized p c.len) (HoldRows p) (λ c good. good.present) cs)

pub structs-present : (p : Part) (r : Refused) → IsHonest (HoldRows p) r → IsHonestOver (GoodKind kind.Struct p) r
structs-present p r honest cs = honest-more (HoldRows p) (GoodStructs p cs) r honest (λ good. good.present)

-- whatever the columns are
pub refused-over : (P : Type 0) (r : Refused) → IsHonest P r → (cs : List Column) → IsHonest P r
refused-over P r honest cs = honest

pub keys-refused : {A : Type 0} (value : A → ℤ) (p : Part) (xs : List A) (r : Refused) → IsHonest (AreNumbers p (length xs)) r → IsHonestOver (GoodEntries (places value xs) p) r
keys-refused value p xs r honest cs =
    honest-more (AreNumbers p (length xs)) (GoodEntries (places value xs) p cs) r honest (λ good. subst (AreNumbers p) (length-map xs (λ x. natural_of (value x))) (one-shows (λ c. AreEntries p (places value xs) c.len) (AreNumbers p (length (places value xs))) (λ c are. are.keys) cs good))

pub no-kind : (k : Option PartKind) (p : Part) (cs : List Column) → k ≡ None → ¬ (GoodRows k p cs)
no-kind None p cs none good = good
no-kind (Some k) p cs none good = cc

pub ruleset fitting = (fits-lists, fits-fixed, fits-structs, lists-present, lists-placed, fixed-present, structs-present, no-kind, refused-over, keys-refused, leaf-Int8, leaf-Int16, leaf-Int32, leaf-Int64, leaf-UInt8, leaf-UInt16, leaf-UInt32, leaf-UInt64, leaf-Int128, leaf-UInt128, leaf-Null, leaf-Boolean, leaf-Binary, leaf-LargeBinary, leaf-Utf8, leaf-LargeUtf8, leaf-FixedSizeBinary, leaf-BinaryView, leaf-Utf8View, key-Int8, key-Int16, key-Int32, key-Int64, key-UInt8, key-UInt16, key-UInt32, key-UInt64)
