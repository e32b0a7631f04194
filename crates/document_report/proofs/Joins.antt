-- Changes that are written one after another.
use Rattle.std.proofs.Common.{◌≡◌, ◌<◌, ◌∙◌, ℕ, List, [], length, get_or, map, ap, sym, None}
use Rattle.std.proofs.lemmas.List.{get_or-map}
use Rattle.json_changes.specs.Texts.{Told, change_view}
use Rattle.json_changes.specs.declared.parts.Change.{Change}

-- a change of no part
abbrev pub none_told : Told
none_told = record { path = []; left = None; right = None }

-- the texts of the change at place n
pub told_at : (changes : List Change) (n : ℕ) (c : Change) → n < length changes → c ≡ get_or changes n c → change_view c ≡ get_or (map change_view changes) n none_told
told_at changes n c within e = ap change_view e ∙ sym (get_or-map change_view changes n c none_told within)
