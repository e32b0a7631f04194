-- What one more byte makes of the texts in a list.
use Rattle.std.proofs.Common.{◌≡◌, ℕ, suc, ◌+◌, ◌-◌, ◌<◌, ◌≤◌, List, [], ◌∷◌, ◌++◌, length, get_or, drop, refl, ap, true, false, arith, add-one, append_assoc, IsUtf8, IsCharBoundary}
use Rattle.std.proofs.Math.Seq.{drop-cons, take-suc}
use Rattle.std.proofs.lemmas.List.{get_or-drop, length-drop}
use Rattle.std.proofs.lemmas.Str.{IsCharBoundary-after_ascii, IsCharBoundary-before_ascii}
use Rattle.std.proofs.lemmas.Grind.{common_steps}
use Rattle.std.specs.List.{slice_range}
use Rattle.dunkelva_options.specs.Lists.{after, is_end, parts_from}
use Rattle.dunkelva_options.specs.declared.lists.Quoting.{Quoting}
use Rattle.dunkelva_options.specs.declared.lists.Quoting.TheVariants.{Outside, Inside, Escaped}

-- the texts of a list are those that were found, and those in what is left of it
pub record IsRead (list : List ℕ) (q : Quoting) (start at : ℕ) (found all : List (List ℕ)) : Type 0 where
  pub before : start ≤ at
  pub boundary : 0 < start → IsCharBoundary list start
  pub parts : all ≡ found ++ parts_from q (slice_range list start at) (drop at list)

comma : (q : Quoting) (x : ℕ) → is_end q x ≡ true → x ≡ 44
comma Outside x e = grind arith
comma Inside x e = cc
comma Escaped x e = cc

pub comma_boundary : (list : List ℕ) (q : Quoting) (i : ℕ) → i < length list → is_end q (get_or list i 0) ≡ true → IsCharBoundary list i
comma_boundary list q i lt e = IsCharBoundary-before_ascii list i lt (let h = comma q (get_or list i 0) e in omega arith)

grow : (s : List ℕ) (a i : ℕ) → a ≤ i → i < length s → slice_range s a (i + 1) ≡ slice_range s a i ++ (get_or s i 0 ∷ [])
grow s a i le lt =
    let e : i + 1 - a ≡ suc (i - a) = omega arith in
    let k : a + (i - a) ≡ i = omega arith in
    let g : get_or (drop a s) (i - a) 0 ≡ get_or s i 0 = rw get_or-drop (ap (λ (j : ℕ). get_or s j 0) k) in
    let n : i - a < length (drop a s) = omega (arith, length-drop {A = ℕ}) in
    rw (e, take-suc (drop a s) (i - a) 0 n, g) refl

at_end : (q : Quoting) (part list : List ℕ) (i : ℕ) → i < length list → is_end q (get_or list i 0) ≡ true
    → parts_from q part (drop i list) ≡ part ∷ parts_from (after q (get_or list i 0)) [] (drop (i + 1) list)
at_end q part list i lt e = rw (add-one, drop-cons list i 0) (rw e refl)

within : (q : Quoting) (part list : List ℕ) (i : ℕ) → i < length list → is_end q (get_or list i 0) ≡ false
    → parts_from q part (drop i list) ≡ parts_from (after q (get_or list i 0)) (part ++ (get_or list i 0 ∷ [])) (drop (i + 1) list)
within q part list i lt e = rw (add-one, drop-cons list i 0) (rw e refl)

empty_range : (s : List ℕ) (i : ℕ) → slice_range s i i ≡ []
empty_range s i = grind (arith, common_steps)

-- a comma ends a text
pub ends : (list : List ℕ) (q : Quoting) (start at : ℕ) (found more all : List (List ℕ)) → IsUtf8 list → at < length list
    → IsRead list q start at found all → is_end q (get_or list at 0) ≡ true → more ≡ found ++ (slice_range list start at ∷ [])
    → IsRead list (after q (get_or list at 0)) (at + 1) (at + 1) more all
ends list q start at found more all utf8 lt r e m = record {
  before = omega arith;
  boundary = λ _. IsCharBoundary-after_ascii list at utf8 lt (let h = comma q (get_or list at 0) e in omega arith);
  parts = rw (r.parts, at_end q (slice_range list start at) list at lt e, m, empty_range list (at + 1), append_assoc) refl;
}

-- another byte goes on in it
pub goes_on : (list : List ℕ) (q : Quoting) (start at : ℕ) (found all : List (List ℕ)) → at < length list
    → IsRead list q start at found all → is_end q (get_or list at 0) ≡ false
    → IsRead list (after q (get_or list at 0)) start (at + 1) found all
goes_on list q start at found all lt r e = record {
  before = let h = r.before in omega arith;
  boundary = r.boundary;
  parts = rw (r.parts, within q (slice_range list start at) list at lt e, grow list start at r.before lt) refl;
}
