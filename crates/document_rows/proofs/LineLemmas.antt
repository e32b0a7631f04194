-- Lines of a text that are read part by part.
use Rattle.std.proofs.Common.{◌≡◌, ◌≢◌, ◌<◌, ◌≤◌, ◌+◌, ◌++◌, ◌∷◌, [], ℕ, Bool, true, false, List, Option, Some, None, length, take, refl, sym, ap, ◌∙◌, arith, eq-eqb, eqb-true, ne_eqb, get_or, get_or-take, length-take-le, append_assoc, take_all}
use Rattle.std.specs.Io.KnownBytes.{Consumes, Keeps}
use Rattle.std.specs.Prelude.{◌==◌, not}
use Rattle.std.proofs.lemmas.List.{get_or_default, take_more, append-nil}
use Rattle.std.proofs.lemmas.List.Elements.{All-head, All-tail, All-nil, All-append}
use Rattle.memchr.specs.Find.{IsFirstByte, Nowhere, Passes, is_byte}
use Rattle.document_rows.specs.Lines.{lines_of}
use Rattle.document_rows.specs.LineParts.{HasNoLineFeed}
use Rattle.document_rows.specs.Reading.{TakesLine}

-- bytes that a reader keeps are those that it had
pub kept : (known : Option (List ℕ)) (rest : List ℕ) → Keeps (Some rest) known → known ≡ Some rest
kept None rest is = absurd is
kept (Some left) rest is = ap Some is

-- bytes that a reader consumes are those that it had first
pub consumed : (known : Option (List ℕ)) (rest text : List ℕ) → Consumes (Some rest) known text → (left : List ℕ) × (known ≡ Some left) × (rest ≡ text ++ left)
consumed None rest text is = absurd is
consumed (Some left) rest text is = (left, refl, is)

-- where a search met no line feed before a place, none stands before it
pub none_before : (shown : List ℕ) (end : ℕ) → end ≤ length shown → Nowhere (Passes (is_byte 10) shown) 0 end → HasNoLineFeed (take end shown)
none_before shown end within free k d before is =
    let less : k < end = omega (arith, before, length-take-le end shown within) in
    let there : get_or shown k 0 ≡ 10 = get_or_default shown k 0 d (omega arith) ∙ (sym (get_or-take end shown k d less) ∙ is) in
    free k (omega arith) less (eq-eqb _ _ there)

-- where a search met no line feed at all, none stands there
pub none_at_all : (shown : List ℕ) → IsFirstByte (is_byte 10) shown None → HasNoLineFeed shown
none_at_all shown free = rw (take_all (length shown) shown (omega arith)) at (none_before shown (length shown) (omega arith) free)

-- the bytes up to a line feed that was found, and it
pub up_to_feed : (shown : List ℕ) (end : ℕ) → IsFirstByte (is_byte 10) shown (Some end) → take (end + 1) shown ≡ take end shown ++ 10 ∷ []
up_to_feed shown end found = take_more shown end 0 found.0.high ∙ ap (λ b. take end shown ++ b ∷ []) (eqb-true _ _ found.1)

-- a line that ends in a line feed is the first one
pub ended_line : (line left : List ℕ) → HasNoLineFeed line → lines_of (line ++ 10 ∷ left) ≡ line ∷ lines_of left
unfolding lines_of
ended_line [] left free = refl
ended_line (b ∷ line) left free =
    let other : (b == 10) ≡ false = ne_eqb b 10 (All-head (λ b. b ≢ 10) b line free) in
    rw (other, ended_line line left (All-tail (λ b. b ≢ 10) b line free)) refl

-- a line that ends with the text is the only one
pub last_line : (b : ℕ) (line : List ℕ) → HasNoLineFeed (b ∷ line) → lines_of (b ∷ line) ≡ (b ∷ line) ∷ []
unfolding lines_of
last_line b [] free =
    let other : (b == 10) ≡ false = ne_eqb b 10 (All-head (λ b. b ≢ 10) b [] free) in
    rw other refl
last_line b (c ∷ line) free =
    let other : (b == 10) ≡ false = ne_eqb b 10 (All-head (λ b. b ≢ 10) b (c ∷ line) free) in
    rw (other, last_line c line (All-tail (λ b. b ≢ 10) b (c ∷ line) free)) refl

-- what was read of a line, and what is left of the text
pub record IsBegun (text line left : List ℕ) : Type 0 where
  pub split : text ≡ line ++ left
  pub free : HasNoLineFeed line

-- nothing was read
pub begun : (text line : List ℕ) → line ≡ [] → IsBegun text line text
begun text line is = record { split = rw is refl; free = rw is (All-nil (λ b. b ≢ 10)) }

-- a part more was read
pub went_on : (text line part more after left : List ℕ) → IsBegun text line left → left ≡ part ++ after → more ≡ line ++ part → HasNoLineFeed part → IsBegun text more after
went_on text line part more after left begun split is free =
    record {
      split = begun.split ∙ (rw split (sym (append_assoc line part after)) ∙ ap (λ l. l ++ after) (sym is));
      free = rw is (All-append (λ b. b ≢ 10) line part begun.free free);
    }

-- the line feed was met
pub met_feed : (text line part more after left : List ℕ) → IsBegun text line left → left ≡ part ++ 10 ∷ after → more ≡ line ++ part → HasNoLineFeed part → lines_of text ≡ more ∷ lines_of after
met_feed text line part more after left begun split is free =
    let on = went_on text line part more (10 ∷ after) left begun split is free in
    rw on.split (ended_line more after on.free)

-- the end was met, and a line stands before it
pub met_end : (text line left : List ℕ) → IsBegun text line left → left ≡ [] → 0 < length line → lines_of text ≡ line ∷ []
met_end text [] left begun end some = absurd (omega (arith, some))
met_end text (b ∷ line) left begun end some = rw (begun.split, end, append-nil (b ∷ line)) (last_line b line begun.free)

-- the end was met: the line that stands before it is the last one, unless it is empty
pub at_end : {R : Type 0} (remaining : R → Option (List ℕ)) (reader : R) (text line left : List ℕ) (is_empty : Bool) → IsBegun text line left → left ≡ [] → remaining reader ≡ Some []
    → (is_empty ≡ true → length line ≡ 0) → (is_empty ≡ false → 0 < length line) → TakesLine remaining text line reader (not is_empty)
unfolding lines_of
at_end remaining reader text [] left true begun end is empty some = begun.split ∙ end
at_end remaining reader text (b ∷ line) left true begun end is empty some = absurd (omega (arith, empty refl))
at_end remaining reader text line left false begun end is empty some = ([], is, met_end text line left begun end (some refl))
