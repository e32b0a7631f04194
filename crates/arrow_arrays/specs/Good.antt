-- Parts that make an array (the Arrow layout). Of arrays inside a part their lengths count: two
-- lists with the offsets 0, 2, 3 are good over a column of three rows, and not over one of two.
use Rattle.std.specs.Prelude.{◌≡◌, ◌≢◌, ◌*◌, ◌≤◌, ℕ, List, [], ◌∷◌, Option, Some, None, length}
use Rattle.std.specs.Prelude.{take, ⊤}
use Rattle.std.specs.List.{All}
use Rattle.std.specs.Str.{IsUtf8}
use Rattle.polars_arrays_bytes.specs.OffsetStrings.{AreGood, row_count, strings_between}
use Rattle.polars_arrays_nested.specs.DictKeys.{NameEntries}
use Rattle.arrow_parts.specs.ByteBits.{HoldBits, HoldPresence}
use Rattle.arrow_parts.specs.Kinds.{kind_number}
use Rattle.arrow_parts.specs.Lent.{present_in, wide_numbers}
use Rattle.arrow_parts.specs.declared.part.Part.{Part}
use Rattle.arrow_parts.specs.declared.part.PartKind.{PartKind}
use Rattle.arrow_parts.specs.declared.part.PartKind.TheVariants as kind
use Rattle.arrow_arrays.specs.Columns.{Column, columns_of, far_ends, keys_in, near_ends}
use Rattle.arrow_arrays.specs.Views.{AreTextViews, AreViews}

-- which rows are present: no bytes, or a bit for each row
abbrev pub HoldRows : Part → Type 0
HoldRows p = HoldPresence p.first_bit p.rows p.present.now

-- a number or a key for each of the rows; n is how many there are
pub record AreNumbers (p : Part) (n : ℕ) : Type 0 where
  pub present : HoldRows p
  pub count : n ≡ p.rows

-- a truth value for each row
pub record AreTruths (p : Part) : Type 0 where
  pub present : HoldRows p
  pub values : HoldBits p.first_bit p.rows p.u8s.now

-- one offset more than rows, or none without rows, and none before the base
pub record ArePlaced (rows : ℕ) (all : List (Option ℕ)) : Type 0 where
  pub count : row_count all ≡ rows
  pub placed : All (λ place. place ≢ None) all

-- there is an offset, none is less than the one before, and the last is at most n
pub record AreRows (p : Part) (n : ℕ) (all : List (Option ℕ)) : Type 0 where
  pub present : HoldRows p
  pub count : row_count all ≡ p.rows
  pub good : AreGood n all

-- byte strings between places among the bytes of a part
abbrev pub GoodStrings : List (Option ℕ) → Part → Type 0
GoodStrings all p = AreRows p (length p.u8s.now) all

-- byte strings between places, each of them UTF-8
pub record AreTextRows (p : Part) (all : List (Option ℕ)) : Type 0 where
  pub rows : GoodStrings all p
  pub texts : All IsUtf8 (strings_between all p.u8s.now)

-- n bytes or items are exactly those of the rows, `width` of each
pub record AreSized (p : Part) (n : ℕ) : Type 0 where
  pub present : HoldRows p
  pub size : n ≡ p.width * p.rows

-- what is good makes an array of one level, whatever is inside it
abbrev pub GoodLeaf : PartKind → Part → Type 0
GoodLeaf kind.Null p = ⊤
GoodLeaf kind.Boolean p = AreTruths p
GoodLeaf kind.Int8 p = AreNumbers p (length p.i8s.now)
GoodLeaf kind.Int16 p = AreNumbers p (length p.i16s.now)
GoodLeaf kind.Int32 p = AreNumbers p (length p.i32s.now)
GoodLeaf kind.Int64 p = AreNumbers p (length p.i64s.now)
GoodLeaf kind.Int128 p = AreNumbers p (length (wide_numbers p.u64s.now))
GoodLeaf kind.UInt8 p = AreNumbers p (length p.u8s.now)
GoodLeaf kind.UInt16 p = AreNumbers p (length p.u16s.now)
GoodLeaf kind.UInt32 p = AreNumbers p (length p.u32s.now)
GoodLeaf kind.UInt64 p = AreNumbers p (length p.u64s.now)
GoodLeaf kind.UInt128 p = AreNumbers p (length (wide_numbers p.u64s.now))
GoodLeaf kind.Binary p = GoodStrings (near_ends p) p
GoodLeaf kind.LargeBinary p = GoodStrings (far_ends p) p
GoodLeaf kind.Utf8 p = AreTextRows p (near_ends p)
GoodLeaf kind.LargeUtf8 p = AreTextRows p (far_ends p)
GoodLeaf kind.FixedSizeBinary p = AreSized p (length p.u8s.now)
GoodLeaf kind.BinaryView p = AreViews p
GoodLeaf kind.Utf8View p = AreTextViews p
GoodLeaf _ p = ⊥

-- there is one column, and `f` holds of it
abbrev pub OneColumn : (Column → Type 0) → List Column → Type 0
OneColumn f (column ∷ []) = f column
OneColumn f _ = ⊥

-- each column has `rows` rows
abbrev pub AllLong : ℕ → List Column → Type 0
AllLong rows cs = All (λ c. c.len ≡ rows) cs

-- lists of the items of one column between places
abbrev pub GoodLists : List (Option ℕ) → Part → List Column → Type 0
GoodLists all p cs = OneColumn (λ c. AreRows p c.len all) cs

-- structs of columns
pub record GoodStructs (p : Part) (cs : List Column) : Type 0 where
  pub present : HoldRows p
  pub long : AllLong p.rows cs

-- a key for each row, and each present one names an entry
pub record AreEntries (p : Part) (all : List (Option ℕ)) (n : ℕ) : Type 0 where
  pub keys : AreNumbers p (length all)
  pub named : NameEntries n (present_in p) all

-- dictionary rows of the entries of one column
abbrev pub GoodEntries : List (Option ℕ) → Part → List Column → Type 0
GoodEntries all p cs = OneColumn (λ c. AreEntries p all c.len) cs

-- a part of a kind makes an array of the columns inside it
abbrev pub GoodKind : PartKind → Part → List Column → Type 0
GoodKind kind.List p cs = GoodLists (near_ends p) p cs
GoodKind kind.LargeList p cs = GoodLists (far_ends p) p cs
GoodKind kind.FixedSizeList p cs = OneColumn (λ c. AreSized p c.len) cs
GoodKind kind.Struct p cs = GoodStructs p cs
GoodKind kind.DictInt8 p cs = GoodEntries (keys_in kind.DictInt8 p) p cs
GoodKind kind.DictInt16 p cs = GoodEntries (keys_in kind.DictInt16 p) p cs
GoodKind kind.DictInt32 p cs = GoodEntries (keys_in kind.DictInt32 p) p cs
GoodKind kind.DictInt64 p cs = GoodEntries (keys_in kind.DictInt64 p) p cs
GoodKind kind.DictUInt8 p cs = GoodEntries (keys_in kind.DictUInt8 p) p cs
GoodKind kind.DictUInt16 p cs = GoodEntries (keys_in kind.DictUInt16 p) p cs
GoodKind kind.DictUInt32 p cs = GoodEntries (keys_in kind.DictUInt32 p) p cs
GoodKind kind.DictUInt64 p cs = GoodEntries (keys_in kind.DictUInt64 p) p cs
GoodKind k p cs = GoodLeaf k p

-- the number of a kind, and a part that is good for it
abbrev pub GoodRows : Option PartKind → Part → List Column → Type 0
GoodRows None p cs = ⊥
GoodRows (Some k) p cs = GoodKind k p cs

-- a part is good before columns: its name is a text, and it makes an array of those that it takes
pub record GoodPart (p : Part) (cs : List Column) : Type 0 where
  pub name : IsUtf8 p.name.now
  pub children : p.children ≤ length cs
  pub rows : GoodRows (kind_number p.kind) p (take p.children cs)

-- each part is good before the columns of those after it
abbrev pub AllGood : List Part → Type 0
AllGood [] = ⊤
AllGood (p ∷ rest) = GoodPart p (columns_of rest) × AllGood rest

-- parts make one array
pub record AreGoodParts (parts : List Part) : Type 0 where
  pub all : AllGood parts
  pub one : length (columns_of parts) ≡ 1
