-- Why two sorted inputs are not compared.
--
-- With the key "id" the text "id,n", "8,1", "7,2" is not compared with any other, since the key 7
-- of its second row is less than 8.
use Rattle.std.specs.Prelude.{◌≡◌, ◌<◌, ℕ, true, List, None, length}
use Rattle.polars_arrays_bytes.specs.OffsetStrings.{offset_strings}
use Rattle.diff_columns.specs.Layout.{IsLayout}
use Rattle.diff_columns.specs.declared.error.Side.{Side}
use Rattle.diff_columns.specs.declared.error.Side.TheVariants.{Left, Right}
use Rattle.diff_columns.specs.declared.layout.Layout.{Layout}
use Rattle.diff_merge.specs.Faults.{HasFall, HasTwice}
use Rattle.diff_merge.specs.declared.error.MergeError.{MergeError}
use Rattle.diff_merge.specs.declared.error.MergeError.TheVariants as merge
use Rattle.diff_run.specs.Faults as run
use Rattle.diff_run.specs.Faults.{IsRunFault, text_on}
use Rattle.diff_run.specs.Heads.{AreHeadsOf}
use Rattle.diff_run.specs.declared.error.RunError.{RunError}
use Rattle.diff_run.specs.declared.error.RunError.TheVariants as cause
use Rattle.diff_run.specs.declared.heads.Heads.{Heads}
use Rattle.diff_run.specs.declared.options.Options.{Options}
use Rattle.diff_sorted.specs.declared.error.SortedError.{SortedError}
use Rattle.diff_sorted.specs.declared.error.SortedError.TheVariants as error

-- an allocation failed
abbrev pub IsMemory : SortedError → Type 0
IsMemory e = e ≡ error.Run cause.Memory

-- the error has this cause
abbrev pub IsRunCause : RunError → SortedError → Type 0
IsRunCause c e = e ≡ error.Run c

-- why texts are not merged is why they are not compared
abbrev pub fault_of : MergeError → SortedError
fault_of merge.Memory = error.Run cause.Memory
fault_of (merge.Csv side c) = error.Run (cause.Csv side c)
fault_of (merge.Falls side line) = error.Falls side line
fault_of (merge.KeyTwice side first again) = error.KeyTwice side first again

abbrev pub IsFaultOf : MergeError → SortedError → Type 0
IsFaultOf m e = e ≡ fault_of m

-- sorted inputs are compared by a key, as texts, exactly, and whole
pub record CanBeSorted (options : Options) : Type 0 where
  pub keys : 0 < length options.choice.keys.now
  pub numbers : options.numbers ≡ None
  pub tolerances : options.tolerances ≡ None
  pub part : options.part ≡ None

-- the columns that are compared, on a side
abbrev pub columns_on : Side → Layout → List ℕ
columns_on Left layout = layout.left.items
columns_on Right layout = layout.right.items

-- on this side a row has a lesser key than the row before it
pub record HasFallOn (options : Options) (left_text right_text : List ℕ) (side : Side) :
    Type 0 where
  pub heads : Heads
  pub heads_are : AreHeadsOf options left_text right_text heads
  pub laid_out :
      IsLayout (offset_strings (λ x. x) heads.left_names)
      (offset_strings (λ x. x) heads.right_names) options.choice heads.layout
  pub fall : HasFall options.csv (text_on side left_text right_text)
      (columns_on side heads.layout) heads.layout.keys.items

-- on this side two adjacent rows have one key, and keys have to be unique
pub record HasTwiceOn (options : Options) (left_text right_text : List ℕ) (side : Side) :
    Type 0 where
  pub heads : Heads
  pub heads_are : AreHeadsOf options left_text right_text heads
  pub laid_out :
      IsLayout (offset_strings (λ x. x) heads.left_names)
      (offset_strings (λ x. x) heads.right_names) options.choice heads.layout
  pub unique : options.unique ≡ true
  pub twice : HasTwice options.csv (text_on side left_text right_text)
      (columns_on side heads.layout) heads.layout.keys.items

-- why two sorted inputs are not compared: the options do not go with sorted inputs, a key falls, or
-- comes twice where keys have to be unique, or what is no matter of their order
abbrev pub IsSortedFault : Options → List ℕ → List ℕ → SortedError → Type 0
IsSortedFault options left_text right_text error.Refused = ¬ (CanBeSorted options)
IsSortedFault options left_text right_text (error.Falls side line) =
    HasFallOn options left_text right_text side
IsSortedFault options left_text right_text (error.KeyTwice side first again) =
    HasTwiceOn options left_text right_text side
IsSortedFault options left_text right_text (error.Run c) = IsRunFault options left_text right_text c

-- a write failed
abbrev pub IsWrite : SortedError → Type 0
IsWrite error.Refused = ⊥
IsWrite (error.Falls side line) = ⊥
IsWrite (error.KeyTwice side first again) = ⊥
IsWrite (error.Run c) = run.IsWrite c
