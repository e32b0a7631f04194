-- A part of a schema is its own partner, so that nothing differs.
use Rattle.std.proofs.Common.{◌≡◌, ℕ, suc, ◌-◌, Bool, true, false, not, cond, List, [], ◌∷◌, ◌++◌, length, Option, Some, is_none, refl, sym, ap, ◌∙◌, append_assoc, arith, filter, if◌then◌else◌, ◌==◌}
use Rattle.std.specs.Str.{bytes_eq}
use Rattle.std.proofs.Math.Dec.{eqb-suc-zero}
use Rattle.std.proofs.lemmas.List.Sums.{length-filter}
use Rattle.std.proofs.lemmas.Slice.Eq.{bytes_eq-Decides}
use Rattle.schema_report.specs.Changes.{nth_named, partner, is_alone, differs_from, is_changed, count_parts, texts_of, change_by, change_text, lone_text}
use Rattle.schema_report.specs.Laws.{HasOwnKinds, AllTheSame, NothingWritten}
use Rattle.schema_report.specs.declared.changes.SchemaCounts.{SchemaCounts}
use Rattle.diff_columns.specs.declared.error.Side.TheVariants.{Right}

-- a part is passed over, and is counted if it has the name
passed : {S : Type 0} (has_name : Bool) (others : List S) (x s : S) (nth : ℕ → Option S) → nth (length others) ≡ Some s
    → (if has_name then (if length (cond has_name (x ∷ others) others) == 0 then Some x else nth (length (cond has_name (x ∷ others) others) - 1)) else nth (length (cond has_name (x ∷ others) others))) ≡ Some s
passed true others x s nth found = ap (λ b. cond b (Some x) (nth (suc (length others) - 1))) (eqb-suc-zero (length others)) ∙ ap nth (omega (arith)) ∙ found
passed false others x s nth found = found

-- behind all parts of its name that are before it, a part is found
found_behind : {S : Type 0} (name_of : S → List ℕ) (before more : List S) (s : S) → nth_named name_of (name_of s) (length (filter (λ t. bytes_eq (name_of t) (name_of s)) before)) (before ++ s ∷ more) ≡ Some s
found_behind name_of [] more s = ap (λ b. cond b (Some s) (nth_named name_of (name_of s) 0 more)) ((bytes_eq-Decides (name_of s) (name_of s)).1 refl)
found_behind name_of (x ∷ before) more s =
    passed (bytes_eq (name_of x) (name_of s)) (filter (λ t. bytes_eq (name_of t) (name_of s)) before) x s (λ n. nth_named name_of (name_of s) n (before ++ s ∷ more)) (found_behind name_of before more s)

-- no part meets a condition that fails at each place
pub none_counted : {S : Type 0} (p : List S → S → Bool) (before l : List S) → ((b m : List S) (s : S) → b ++ s ∷ m ≡ before ++ l → p b s ≡ false) → count_parts p before l ≡ 0
none_counted p before [] never = refl
none_counted p before (s ∷ l) never =
    ap (λ b. cond b (suc (count_parts p (before ++ s ∷ []) l)) (count_parts p (before ++ s ∷ []) l)) (never before l s refl)
    ∙ none_counted p (before ++ s ∷ []) l (λ b m t is. never b m t (is ∙ append_assoc before (s ∷ []) l))

-- nothing is written where nothing is written at each place
pub none_written : {S : Type 0} (f : List S → S → List ℕ) (before l : List S) → ((b m : List S) (s : S) → b ++ s ∷ m ≡ before ++ l → f b s ≡ []) → texts_of f before l ≡ []
none_written f before [] never = refl
none_written f before (s ∷ l) never =
    ap (λ t. t ++ texts_of f (before ++ s ∷ []) l) (never before l s refl)
    ∙ none_written f (before ++ s ∷ []) l (λ b m t is. never b m t (is ∙ append_assoc before (s ∷ []) l))

-- a part is its own partner
own_partner : {S : Type 0} (name_of : S → List ℕ) (before more : List S) (s : S) → partner name_of (before ++ s ∷ more) before s ≡ Some s
own_partner name_of before more s =
    ap (λ n. nth_named name_of (name_of s) n (before ++ s ∷ more)) (sym (length-filter (λ t. bytes_eq (name_of t) (name_of s)) before))
    ∙ found_behind name_of before more s

own_partner_in : {S : Type 0} (name_of : S → List ℕ) (parts before more : List S) (s : S) → before ++ s ∷ more ≡ parts → partner name_of parts before s ≡ Some s
own_partner_in name_of parts before more s is = ap (λ all. partner name_of all before s) (sym is) ∙ own_partner name_of before more s

-- the counts of two schemas with this many parts
abbrev counts_record : ℕ → ℕ → ℕ → SchemaCounts
counts_record changed lone all = record { changed = changed; removed = lone; added = lone; same = all - changed - lone }

-- if no part is changed or alone, all are the same
nothing_counted : (changed lone all : ℕ) → changed ≡ 0 → lone ≡ 0 → counts_record changed lone all ≡ record { changed = 0; removed = 0; added = 0; same = all }
nothing_counted changed lone all no_change no_lone = ap (λ n. counts_record n lone all) no_change ∙ ap (λ n. counts_record 0 n all) no_lone
    ∙ ap (λ n. record { changed = 0; removed = 0; added = 0; same = n }) (omega (arith))

pub all_the_same : {S : Type 0} (name_of : S → List ℕ) (same : S → S → Bool) → HasOwnKinds same → AllTheSame name_of same
all_the_same name_of same own parts =
    nothing_counted (count_parts (is_changed name_of same parts) [] parts) (count_parts (is_alone name_of parts) [] parts) (length parts)
    (none_counted (is_changed name_of same parts) [] parts (λ b m s is. ap (differs_from same s) (own_partner_in name_of parts b m s is) ∙ ap not (own s)))
    (none_counted (is_alone name_of parts) [] parts (λ b m s is. ap is_none (own_partner_in name_of parts b m s is)))

pub nothing_written : {S : Type 0} (name_of : S → List ℕ) (same : S → S → Bool) → HasOwnKinds same → NothingWritten name_of same
nothing_written name_of same own alone changed parts =
    ap (λ t. t ++ texts_of (lone_text name_of alone parts) [] parts)
    (none_written (change_text name_of same alone changed parts) [] parts (λ b m s is. ap (change_by same alone changed s) (own_partner_in name_of parts b m s is) ∙ ap (λ k. cond k [] (changed s s)) (own s)))
    ∙ none_written (lone_text name_of alone parts) [] parts (λ b m s is. ap (λ o. cond (is_none o) (alone Right s) []) (own_partner_in name_of parts b m s is))
