use Rattle.std.proofs.Common.{◌≡◌, ◌≢◌, ◌∙◌, ℕ, List, Option, Some, None, suc, true, false, arith, ap, get_or, length, set, subst, sym}
use Rattle.std.proofs.lemmas.List.{get_or_read}
use Rattle.std.specs.Str.{bytes_eq}
use Rattle.diff_keys.specs.Chains.{IsFirstAt, IsIn, Waits, class_of}
use Rattle.diff_keys.specs.NthLaws.{bytes_eq-refl, same_bytes}
use Rattle.diff_keys.specs.Partners.{Keys, key_at}
use Rattle.diff_keys.proofs.ChainLemmas.{IsBehind, behind_next, link_of, none_behind}
use Rattle.diff_keys.proofs.WaitsLemmas.{Took, took_behind, took_none}
use Rattle.diff_keys.proofs.waiting.Waiting.take_behind.Goals as goal

-- what a row's link reads as
link_read : (keys : Keys) (P : ℕ → Type 0) (q : List ℕ) (n b : ℕ) (next next' : List (Option ℕ)) (r : Option ℕ) → next ≡ next' → length next' ≡ length keys → IsBehind keys P q n b → r ≡ get_or next b r → get_or next' b None ≡ r
link_read keys P q n b next next' r same len behind read = rw (← same) (sym (get_or_read next b r (let within = behind.within in rw same (omega (arith, len, within))) read None))

-- a row that is read has another key
other_key : (keys : Keys) (row : ℕ) (bytes q : List ℕ) → bytes ≡ key_at keys row → false ≡ bytes_eq bytes q → key_at keys row ≢ q
other_key keys row bytes q is e same =
    let clash : false ≡ true = e ∙ (ap (λ b. bytes_eq b q) (is ∙ same) ∙ bytes_eq-refl q) in
    absurd (cc)

pub loop-row-preserved : goal.loop-row-preserved
loop-row-preserved g c =
    let keys = g.R.ByteRows.strings c.args.keys.now in
    record {
      heads = c.loop-row.invariant.heads;
      next = c.loop-row.invariant.next;
      behind = λ left i w.
          let behind = c.loop-row.invariant.behind left i w in
          let link : get_or c.args.self.now.next.items c.loop-row.before None ≡ Some c.in-Some.row =
          link_read keys (Waits left keys i) c.args.key.now _ c.loop-row.before _ _ c.index.result.now (ap (λ v. v.items) c.loop-row.invariant.next) w.len behind c.index.ensures ∙ c.in-Some.is in
          behind_next keys (Waits left keys i) c.args.key.now c.loop-row.before c.in-Some.row c.args.self.now.heads.items c.args.self.now.next.items w behind link
          (other_key keys c.in-Some.row c.bytes.result.now c.args.key.now c.bytes.ensures (sym c.if-eq.false ∙ c.eq.ensures));
    }

pub loop-row-smaller : goal.loop-row-smaller
loop-row-smaller g c =
    let keys = g.R.ByteRows.strings c.args.keys.now in
    let left = c.requires.waiting.0 in
    let i = c.requires.waiting.1 in
    let w = c.requires.waiting.2 in
    let behind = c.loop-row.invariant.behind left i w in
    let link : get_or c.args.self.now.next.items c.loop-row.before None ≡ Some c.in-Some.row =
    link_read keys (Waits left keys i) c.args.key.now _ c.loop-row.before _ _ c.index.result.now (ap (λ v. v.items) c.loop-row.invariant.next) w.len behind c.index.ensures ∙ c.in-Some.is in
    let at : IsFirstAt (IsIn keys (length c.args.self.now.heads.items) (Waits left keys i) (class_of (length c.args.self.now.heads.items) c.args.key.now)) (suc c.loop-row.before) (length keys) c.in-Some.row =
    link_of keys (Waits left keys i) c.args.key.now c.loop-row.before c.args.self.now.heads.items c.args.self.now.next.items (Some c.in-Some.row) w behind link in
    omega (arith, at.from, at.within)

pub returns-then-eq-clause-taken : goal.returns-then-eq-clause-taken
returns-then-eq-clause-taken g c = λ left i low is_key w.
    let keys = g.R.ByteRows.strings c.args.keys.now in
    let heads = c.args.self.now.heads.items in
    let next = c.args.self.now.next.items in
    let behind = c.loop-row.invariant.behind left i w in
    let same : c.loop-row.self.next.items ≡ next = ap (λ v. v.items) c.loop-row.invariant.next in
    let link : get_or next c.loop-row.before None ≡ Some c.in-Some.row = link_read keys (Waits left keys i) c.args.key.now _ c.loop-row.before _ _ c.index.result.now same w.len behind c.index.ensures ∙ c.in-Some.is in
    let key : key_at keys c.in-Some.row ≡ c.args.key.now = sym c.bytes.ensures ∙ same_bytes c.bytes.result.now c.args.key.now (sym c.eq.ensures ∙ c.if-eq.true) in
    let at : IsFirstAt (IsIn keys (length heads) (Waits left keys i) (class_of (length heads) c.args.key.now)) (suc c.loop-row.before) (length keys) c.in-Some.row =
    link_of keys (Waits left keys i) c.args.key.now c.loop-row.before heads next (Some c.in-Some.row) w behind link in
    let later : c.index-then-eq.result.now ≡ get_or next c.in-Some.row None = rw same at (get_or_read c.loop-row.self.next.items c.in-Some.row c.index-then-eq.result.now (rw same (let len = w.len in omega (arith, at.within, len))) c.index-then-eq.ensures None) in
    let took : Took left keys i (Some c.in-Some.row) heads (set next c.loop-row.before (get_or next c.in-Some.row None)) =
    took_behind left keys i c.loop-row.before c.in-Some.row heads next low w (subst (λ q. IsBehind keys (Waits left keys i) q (length heads) c.loop-row.before) (sym is_key) behind) link (key ∙ sym is_key) in
    record { partner = took.partner; rest = rw (ap (λ v. v.items) c.loop-row.invariant.heads, same, later) took.rest }

pub returns-clause-taken : goal.returns-clause-taken
returns-clause-taken g c = λ left i low is_key w.
    let keys = g.R.ByteRows.strings c.args.keys.now in
    let heads = c.args.self.now.heads.items in
    let next = c.args.self.now.next.items in
    let behind = c.loop-row.invariant.behind left i w in
    let same : c.loop-row.self.next.items ≡ next = ap (λ v. v.items) c.loop-row.invariant.next in
    let link : get_or next c.loop-row.before None ≡ c.index.result.now = link_read keys (Waits left keys i) c.args.key.now _ c.loop-row.before _ _ c.index.result.now same w.len behind c.index.ensures in
    let none : c.index.result.now ≡ None = c.in_default.is in
    let took : Took left keys i None heads next =
    took_none left keys i heads next low w (none_behind keys (Waits left keys i) (key_at left i) c.loop-row.before heads next w (subst (λ q. IsBehind keys (Waits left keys i) q (length heads) c.loop-row.before) (sym is_key) behind) (link ∙ none)) in
    record { partner = took.partner; rest = rw (ap (λ v. v.items) c.loop-row.invariant.heads, same) took.rest }
