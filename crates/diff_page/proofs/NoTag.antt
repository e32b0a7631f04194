-- No tag begins in an escaped text.
use Rattle.std.proofs.Common.{◌≡◌, ◌==◌, ℕ, List, [], ◌∷◌, Bool, true, false, codes, refl, if◌then◌else◌}
use Rattle.std.proofs.lemmas.List.Elements.{All-append, All-cons, All-nil}
use Rattle.diff_page.specs.Page.{HasNoTag, untagged, untagged_byte}

-- the byte begins no tag
abbrev IsNoTag : ℕ → Type 0
IsNoTag b = (b == 60) ≡ false

escape : HasNoTag (codes "\\u003c")
escape = All-cons IsNoTag 92 (codes "u003c") refl (All-cons IsNoTag 117 (codes "003c") refl (All-cons IsNoTag 48 (codes "03c") refl
    (All-cons IsNoTag 48 (codes "3c") refl (All-cons IsNoTag 51 (codes "c") refl (All-cons IsNoTag 99 [] refl (All-nil IsNoTag))))))

chosen : (b : ℕ) (tag : Bool) → (b == 60) ≡ tag → HasNoTag (if tag then codes "\\u003c" else b ∷ [])
chosen b true is = escape
chosen b false is = All-cons IsNoTag b [] is (All-nil IsNoTag)

pub no_tag : (text : List ℕ) → HasNoTag (untagged text)
unfolding untagged
no_tag [] = All-nil IsNoTag
no_tag (b ∷ rest) = All-append IsNoTag (untagged_byte b) (untagged rest) (chosen b (b == 60) refl) (no_tag rest)
