use Rattle.std.proofs.Common.{◌≡◌, ◌<◌, ◌∙◌, ℕ, List, Option, Some, None, true, arith, ap, get_or, length, mod-lt, rules, set, subst, sym}
use Rattle.std.proofs.lemmas.Bool.{eqb-true}
use Rattle.std.proofs.lemmas.List.{get_or_read}
use Rattle.std.specs.Option.{option_eq}
use Rattle.std.specs.Prelude.{IfSome}
use lib.Dec.{eqb}
use Rattle.diff_keys.specs.Chains.{AreChained, IsFirst, IsFirstAt, IsIn, Waits, class_of}
use Rattle.diff_keys.specs.Hashes.{key_hash}
use Rattle.diff_keys.specs.NthLaws.{same_bytes}
use Rattle.diff_keys.specs.Partners.{HasKey, Keys, key_at}
use Rattle.diff_keys.proofs.ChainLemmas.{none_at_head}
use Rattle.diff_keys.proofs.WaitsLemmas.{Took, took_head, took_none}
use Rattle.diff_keys.proofs.waiting.Waiting.take.Goals as goal
use Rattle.diff_keys.proofs.waiting.Waiting.take.Goals.{then-eq-via-then-eq, then-eq-via-else-eq+then-eq-2}

-- the guess is the head
guessed : (guess : Option ℕ) (h : ℕ) → option_eq eqb guess (Some h) ≡ true → guess ≡ Some h
guessed None h e = absurd (cc)
guessed (Some x) h e = ap Some (eqb-true x h e)

-- a guess has the key
guess_key : (keys : Keys) (q : List ℕ) (guess : Option ℕ) (h : ℕ) → IfSome guess (HasKey keys q) → guess ≡ Some h → key_at keys h ≡ q
guess_key keys q None h has e = absurd (cc)
guess_key keys q (Some x) h has e = let same : x ≡ h = cc in rw (← same) has.1

class_low : (count : ℕ) (q : List ℕ) → 0 < count → class_of count q < count
class_low count q some = mod-lt (key_hash q) some

-- what the head of a class reads as
head_read : (keys : Keys) (P : ℕ → Type 0) (heads next : List (Option ℕ)) (q : List ℕ) (class : ℕ) (r : Option ℕ) → AreChained keys P heads next → class ≡ class_of (length heads) q → r ≡ get_or heads class r
    → get_or heads (class_of (length heads) q) None ≡ r
head_read keys P heads next q class r chains is read = rw (← is) (sym (get_or_read heads class r (rw is (class_low (length heads) q chains.some)) read None))

-- the head is a row of the table
head_within : (keys : Keys) (P : ℕ → Type 0) (heads next : List (Option ℕ)) (q : List ℕ) (h : ℕ) → AreChained keys P heads next → get_or heads (class_of (length heads) q) None ≡ Some h → h < length keys
head_within keys P heads next q h chains head =
    let at : IsFirstAt (IsIn keys (length heads) P (class_of (length heads) q)) 0 (length keys) h = subst (IsFirst (IsIn keys (length heads) P (class_of (length heads) q)) 0 (length keys)) head (chains.first (class_of (length heads) q) (class_low (length heads) q chains.some)) in
    at.within

pub returns-in_err-head-clause-taken : goal.returns-in_err-head-clause-taken
returns-in_err-head-clause-taken g c = λ left i low is_key w.
    let keys = g.R.ByteRows.strings c.args.keys.now in
    let heads = c.args.self.now.heads.items in
    let next = c.args.self.now.next.items in
    let none : c.index.result.now ≡ None = search rules in
    let given : c.from_residual.result ≡ None = search rules in
    let head : get_or heads (class_of (length heads) c.args.key.now) None ≡ None = head_read keys (Waits left keys i) heads next c.args.key.now c.args.class c.index.result.now w c.requires.class c.index.ensures ∙ none in
    let here : get_or heads (class_of (length heads) (key_at left i)) None ≡ None = rw is_key head in
    let took : Took left keys i None heads next = took_none left keys i heads next low w (none_at_head keys (Waits left keys i) (key_at left i) heads next w (class_low (length heads) (key_at left i) w.some) here) in
    rw given (record { partner = took.partner; rest = took.rest })

pub bytes-requires : goal.bytes-requires
bytes-requires g c =
    let w = c.requires.waiting.2 in
    head_within (g.R.ByteRows.strings c.args.keys.now) (Waits c.requires.waiting.0 (g.R.ByteRows.strings c.args.keys.now) c.requires.waiting.1) c.args.self.now.heads.items c.args.self.now.next.items c.args.key.now c.in_ok-head.head w
    (head_read (g.R.ByteRows.strings c.args.keys.now) (Waits c.requires.waiting.0 (g.R.ByteRows.strings c.args.keys.now) c.requires.waiting.1) c.args.self.now.heads.items c.args.self.now.next.items c.args.key.now c.args.class c.index.result.now w c.requires.class c.index.ensures ∙ c.in_ok-head.was)

pub index-requires-then-eq : goal.index-requires-then-eq
index-requires-then-eq g c =
    let w = c.requires.waiting.2 in
    let within : c.in_ok-head.head < length (g.R.ByteRows.strings c.args.keys.now) =
    head_within (g.R.ByteRows.strings c.args.keys.now) (Waits c.requires.waiting.0 (g.R.ByteRows.strings c.args.keys.now) c.requires.waiting.1) c.args.self.now.heads.items c.args.self.now.next.items c.args.key.now c.in_ok-head.head w
    (head_read (g.R.ByteRows.strings c.args.keys.now) (Waits c.requires.waiting.0 (g.R.ByteRows.strings c.args.keys.now) c.requires.waiting.1) c.args.self.now.heads.items c.args.self.now.next.items c.args.key.now c.args.class c.index.result.now w c.requires.class c.index.ensures ∙ c.in_ok-head.was) in
    let len = w.len in
    omega (arith, within, len, c.args.self.now.next.ok.0)

pub returns-then-eq-clause-taken : goal.returns-then-eq-clause-taken
returns-then-eq-clause-taken g c = λ left i low is_key w.
    let keys = g.R.ByteRows.strings c.args.keys.now in
    let heads = c.args.self.now.heads.items in
    let next = c.args.self.now.next.items in
    let head : get_or heads (class_of (length heads) c.args.key.now) None ≡ Some c.in_ok-head.head = head_read keys (Waits left keys i) heads next c.args.key.now c.args.class c.index.result.now w c.requires.class c.index.ensures ∙ c.in_ok-head.was in
    let key : key_at keys c.in_ok-head.head ≡ c.args.key.now = elim c.then-eq.branch [
      | then-eq-via-then-eq b ↦ guess_key keys c.args.key.now c.args.guess c.in_ok-head.head c.requires.guess (guessed c.args.guess c.in_ok-head.head (sym c.eq.ensures ∙ b.if-eq.true))
      | then-eq-via-else-eq+then-eq-2 b ↦ sym b.bytes.ensures ∙ same_bytes b.bytes.result.now c.args.key.now (sym b.eq-else-eq.ensures ∙ b.if-eq-2.true)
    ] in
    let within : c.in_ok-head.head < length keys = head_within keys (Waits left keys i) heads next c.args.key.now c.in_ok-head.head w head in
    let later : c.index-then-eq.result.now ≡ get_or next c.in_ok-head.head None = get_or_read next c.in_ok-head.head c.index-then-eq.result.now (let len = w.len in omega (arith, within, len)) c.index-then-eq.ensures None in
    let took : Took left keys i (Some c.in_ok-head.head) (set heads (class_of (length heads) (key_at left i)) (get_or next c.in_ok-head.head None)) next =
    took_head left keys i c.in_ok-head.head heads next low w (class_low (length heads) (key_at left i) w.some) (rw is_key head) (key ∙ sym is_key) in
    record { partner = took.partner; rest = rw (later, c.requires.class, ← is_key) took.rest }
