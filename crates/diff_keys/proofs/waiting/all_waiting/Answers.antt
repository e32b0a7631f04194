use Rattle.std.proofs.Common.{◌≡◌, ◌<◌, ◌≤◌, ◌-◌, ℕ, None, ap, arith, get_or, length, mod-lt, replicate, rules, subst, suc, sym, ◌∙◌}
use Rattle.std.proofs.lemmas.List.{get_or-replicate, get_or_read, length-replicate}
use Rattle.diff_keys.specs.Chains.{AreChained, class_of}
use Rattle.diff_keys.specs.Hashes.{key_hash}
use Rattle.diff_keys.specs.Partners.{key_at}
use Rattle.diff_keys.proofs.ChainLemmas.{chained_none, chained_push}
use Rattle.diff_keys.proofs.waiting.all_waiting.Goals as goal

pub loop-j-init : goal.loop-j-init
loop-j-init g c =
    let keys = g.R.ByteRows.strings c.args.keys.now in
    let heads = c.in_ok-heads.heads.items in
    let next = c.in_ok-next.next.items in
    let some : 0 < length heads = search rules in
    let len : length next ≡ length keys = search rules in
    let unset : heads ≡ replicate c.saturating_add-classes.result None = c.in_ok-heads.ensures.items_if_clones_equal (search rules) in
    let count : length heads ≡ c.saturating_add-classes.result = ap length unset ∙ length-replicate c.saturating_add-classes.result None in
    let none : (k : ℕ) → k < length heads → get_or heads k None ≡ None = λ k low. ap (λ l. get_or l k None) unset ∙ get_or-replicate c.saturating_add-classes.result k None None (omega (arith, low, count)) in
    record { within = omega (arith, c.count-count.ensures); chains = rw c.count-count.ensures (chained_none keys heads next some len none) }

pub loop-j-preserved : goal.loop-j-preserved
loop-j-preserved g c =
    let keys = g.R.ByteRows.strings c.args.keys.now in
    let up : c.loop-j.j ≡ suc (c.loop-j.j - 1) = omega arith in
    let within : c.loop-j.j - 1 < length keys = omega (arith, c.loop-j.invariant.within) in
    let old : AreChained keys (λ x. suc (c.loop-j.j - 1) ≤ x) c.loop-j.heads.items c.loop-j.next.items = subst (λ j. AreChained keys (λ x. j ≤ x) c.loop-j.heads.items c.loop-j.next.items) up c.loop-j.invariant.chains in
    let count : c.len.result ≡ length c.loop-j.heads.items = search rules in
    let class : c.class_of-class.result ≡ class_of (length c.loop-j.heads.items) (key_at keys (c.loop-j.j - 1)) = rw (c.bytes.ensures, count) at c.class_of-class.ensures in
    let low : c.class_of-class.result < length c.loop-j.heads.items = rw class (mod-lt (key_hash (key_at keys (c.loop-j.j - 1))) old.some) in
    let head : c.index.result.now ≡ get_or c.loop-j.heads.items c.class_of-class.result None = get_or_read c.loop-j.heads.items c.class_of-class.result c.index.result.now low c.index.ensures None in
    record {
      within = omega (arith, c.loop-j.invariant.within);
      chains = rw head (chained_push keys (c.loop-j.j - 1) c.class_of-class.result c.loop-j.heads.items c.loop-j.next.items old within low (sym class));
    }
