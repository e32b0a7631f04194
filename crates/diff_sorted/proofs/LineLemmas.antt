-- Lines, one more.
use Rattle.std.proofs.Common.{◌≡◌, ◌∙◌, ◌<◌, ◌≤◌, ◌+◌, ◌-◌, ◌⊎◌, ℕ, suc, List, [], ◌∷◌, ◌++◌, length, take, drop, arith, ap, sym, inl, inr}
use Rattle.std.proofs.Math.Seq.{take-add, take-append_seam}
use Rattle.std.proofs.lemmas.Bool.{cases_lt}
use Rattle.std.proofs.lemmas.List.{append-nil, get_or_append_left, get_or_push, length-append, length_push, take-append-le, take_all}
use Rattle.std.proofs.lemmas.List.Folds.{concat-append}
use Rattle.std.specs.List.{concat}
use Rattle.std.specs.Prelude.{slice_index}
use Rattle.diff_sorted.specs.Lines.{HasLines, IsClosed, IsPassed}
use Rattle.diff_sorted.specs.declared.lines.Lines.{Lines}

-- no lines
pub no_lines : (limit : ℕ) (l : Lines) → l.text.items ≡ [] → l.ends.items ≡ [] → l.count ≡ 0 → HasLines limit [] l
no_lines limit l text ends count = record {
  text = text ∙ ap concat (sym (take_all limit [] (omega arith)));
  count = count;
  shown = let none : length l.ends.items ≡ 0 = ap length ends in omega (arith, none);
  ends = λ k within. absurd (let none : length l.ends.items ≡ 0 = ap length ends in omega (arith, within, none));
}

-- a line that is counted alone
pub line_passed : (limit : ℕ) (all : List (List ℕ)) (x : List ℕ) (old new : Lines) → limit ≤ length old.ends.items → HasLines limit all old → IsPassed old new → HasLines limit (all ++ x ∷ []) new
line_passed limit all x old new full h p =
    let many = h.shown in
    let pushed = length_push all x in
    let before = h.count in
    let counted = p.count in
    let same : length new.ends.items ≡ length old.ends.items = ap length p.ends in
    record {
      text = p.text ∙ (h.text ∙ ap concat (sym (take-append-le limit all (x ∷ []) (omega (arith, many, full)))));
      count = omega (arith, before, counted, pushed);
      shown = omega (arith, many, same, pushed, full);
      ends = λ k within. ap (λ es. slice_index es k) p.ends
          ∙ (h.ends k (omega (arith, within, same)) ∙ ap (λ ls. length (concat ls)) (sym (take-append-le (suc k) all (x ∷ []) (omega (arith, many, within, same)))));
    }

-- a line that is kept
pub line_kept : (limit : ℕ) (all : List (List ℕ)) (x : List ℕ) (old mid new : Lines) → length old.ends.items < limit → HasLines limit all old → mid.text.items ≡ old.text.items ++ x
    → mid.ends.items ≡ old.ends.items → mid.count ≡ old.count → IsClosed mid new → HasLines limit (all ++ x ∷ []) new
line_kept limit all x old mid new room h written ends_same count_same p = record {
  text = text ∙ ap concat (sym whole);
  count = let before = h.count in let counted = p.count in omega (arith, before, counted, count_same, pushed);
  shown = omega (arith, many, pushed, room, more);
  ends = λ k within. ap (λ es. slice_index es k) ends ∙ at k (cases_lt k (length old.ends.items)) (omega (arith, within, more));
}
  where
    many : length old.ends.items ≡ length all
    many = let shown = h.shown in omega (arith, shown, room)

    pushed : length (all ++ x ∷ []) ≡ length all + 1
    pushed = length_push all x

    whole : take limit (all ++ x ∷ []) ≡ all ++ x ∷ []
    whole = take_all limit (all ++ x ∷ []) (omega (arith, pushed, many, room))

    all_text : old.text.items ≡ concat all
    all_text = h.text ∙ ap concat (take_all limit all (omega (arith, many, room)))

    text : new.text.items ≡ concat (all ++ x ∷ [])
    text = p.text ∙ (written ∙ (ap (λ l. l ++ x) all_text ∙ (ap (λ l. concat all ++ l) (sym (append-nil x)) ∙ sym (concat-append all (x ∷ [])))))

    ends : new.ends.items ≡ old.ends.items ++ length new.text.items ∷ []
    ends = p.ends ∙ (ap (λ l. l ++ length mid.text.items ∷ []) ends_same ∙ ap (λ t. old.ends.items ++ length t ∷ []) (sym p.text))

    more : length new.ends.items ≡ length old.ends.items + 1
    more = ap length ends ∙ length_push old.ends.items (length new.text.items)

    at : (k : ℕ) → (k < length old.ends.items) ⊎ (length old.ends.items ≤ k) → k < length old.ends.items + 1
        → slice_index (old.ends.items ++ length new.text.items ∷ []) k ≡ length (concat (take (suc k) (all ++ x ∷ [])))
    at k (inl before) within = get_or_append_left old.ends.items (length new.text.items ∷ []) 0 k before
        ∙ (h.ends k before ∙ ap (λ ls. length (concat ls)) (sym (take-append-le (suc k) all (x ∷ []) (omega (arith, before, many)))))
    at k (inr behind) within =
        let here : length old.ends.items ≡ k = omega (arith, behind, within) in
        get_or_push old.ends.items (length new.text.items) 0 k here
        ∙ (ap length text ∙ ap (λ ls. length (concat ls)) (sym (take_all (suc k) (all ++ x ∷ []) (omega (arith, pushed, many, here)))))

-- the first lines of some that are kept
begin : (limit room : ℕ) (all : List (List ℕ)) → room ≤ limit → concat (take limit all) ≡ concat (take room all) ++ concat (take (limit - room) (drop room all))
begin limit room all below =
    let sum : limit ≡ room + (limit - room) = omega (arith, below) in
    ap (λ n. concat (take n all)) sum ∙ (ap concat (take-add room (limit - room) all) ∙ concat-append (take room all) (take (limit - room) (drop room all)))

pub cut_there : (limit room end : ℕ) (all : List (List ℕ)) (l : Lines) → room ≤ limit → HasLines limit all l → end ≡ length (concat (take room all))
    → (end ≤ length l.text.items) × (take end l.text.items ≡ concat (take room all))
cut_there limit room end all l below h is =
    let parts : l.text.items ≡ concat (take room all) ++ concat (take (limit - room) (drop room all)) = h.text ∙ begin limit room all below in
    let size : length l.text.items ≡ length (concat (take room all)) + length (concat (take (limit - room) (drop room all))) = ap length parts ∙ length-append (concat (take room all)) (concat (take (limit - room) (drop room all))) in (
      omega (arith, is, size),
      ap (λ t. take end t) parts ∙ (ap (λ n. take n (concat (take room all) ++ concat (take (limit - room) (drop room all)))) is ∙ take-append_seam (concat (take room all)) (concat (take (limit - room) (drop room all)))),
    )

-- all of them, where there are no more
pub all_there : (limit room : ℕ) (all : List (List ℕ)) (l : Lines) → room ≤ limit → length l.ends.items < room → HasLines limit all l → l.text.items ≡ concat (take room all)
all_there limit room all l below few h =
    let shown = h.shown in
    let many : length all ≤ room = omega (arith, shown, few, below) in
    h.text ∙ ap concat (take_all limit all (omega (arith, many, below)) ∙ sym (take_all room all many))
