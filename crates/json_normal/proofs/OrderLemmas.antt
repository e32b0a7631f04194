-- Lists of members with distinct keys: there is one way to put them in order.
use Rattle.std.proofs.Common.{◌≡◌, ◌≢◌, ℕ, List, [], ◌∷◌, ◌⊎◌, ⊎_elim, inl, inr, ap, sym, ◌∙◌, subst, refl}
use Rattle.std.specs.Bool.{⊤}
use Rattle.std.specs.Ordering.{nat_cmp, match_ordering, ordering_reverse}
use Rattle.std.specs.Cmp.Lexicographic.{slice_cmp}
use Rattle.std.specs.declared.cmp.Ordering.{Ordering}
use Rattle.std.specs.declared.cmp.Ordering.TheVariants.{Less, Equal, Greater}
use Rattle.std.proofs.lemmas.Cmp.{nat_list_cmp_total, tied_itself}
use Rattle.std.proofs.lemmas.Map.Lookups.{exact_bytes}
use Rattle.json_normal.specs.Normal.{Entry, put_in, in_order}

abbrev c : List ℕ → List ℕ → Ordering
c = slice_cmp nat_cmp

pub not_below : (k : List ℕ) → c k k ≡ Less → ⊥
not_below k h = let e : c k k ≡ Equal = tied_itself nat_list_cmp_total k in cc

pub one_way : (k l : List ℕ) → c k l ≡ Less → c l k ≡ Less → ⊥
one_way k l h g = not_below k (nat_list_cmp_total.trans k l k h g)

-- the key k is below each key of the list
abbrev pub Above : List ℕ → List Entry → Type 0
Above k [] = ⊤
Above k (m ∷ ms) = (c k m.0 ≡ Less) × Above k ms

abbrev pub Rising : List Entry → Type 0
Rising [] = ⊤
Rising (m ∷ ms) = Above m.0 ms × Rising ms

abbrev pub Has : List Entry → Entry → Type 0
Has [] z = ⊥
Has (m ∷ ms) z = (z ≡ m) ⊎ Has ms z

abbrev pub Lacks : List ℕ → List Entry → Type 0
Lacks k [] = ⊤
Lacks k (m ∷ ms) = (k ≢ m.0) × Lacks k ms

abbrev pub Distinct : List Entry → Type 0
Distinct [] = ⊤
Distinct (m ∷ ms) = Lacks m.0 ms × Distinct ms

pub above_has : (k : List ℕ) (ms : List Entry) (z : Entry) → Above k ms → Has ms z → c k z.0 ≡ Less
above_has k [] z a h = absurd h
above_has k (m ∷ ms) z a (inl e) = subst (λ (w : Entry). c k w.0 ≡ Less) (sym e) a.0
above_has k (m ∷ ms) z a (inr h) = above_has k ms z a.1 h

pub above_trans : (k l : List ℕ) (ms : List Entry) → c k l ≡ Less → Above l ms → Above k ms
above_trans k l [] h a = tt
above_trans k l (m ∷ ms) h a = (nat_list_cmp_total.trans k l m.0 h a.0, above_trans k l ms h a.1)

-- ---- two rising lists with the same members are one

same_heads : (x y : Entry) (xs ys : List Entry) → Above x.0 xs → Above y.0 ys → (x ≡ y) ⊎ Has ys x → (y ≡ x) ⊎ Has xs y → x ≡ y
same_heads x y xs ys a b (inl e) q = e
same_heads x y xs ys a b (inr h) (inl e) = sym e
same_heads x y xs ys a b (inr h) (inr g) = absurd (one_way x.0 y.0 (above_has x.0 xs y a g) (above_has y.0 ys x b h))

in_tail : (x y z : Entry) (xs ys : List Entry) → x ≡ y → Above x.0 xs → Has xs z → (z ≡ y) ⊎ Has ys z → Has ys z
in_tail x y z xs ys e a h (inl p) = absurd (not_below z.0 (subst (λ (w : Entry). c w.0 z.0 ≡ Less) (e ∙ sym p) (above_has x.0 xs z a h)))
in_tail x y z xs ys e a h (inr q) = q

pub one_order : (xs ys : List Entry) → Rising xs → Rising ys → ((z : Entry) → Has xs z → Has ys z) → ((z : Entry) → Has ys z → Has xs z) → xs ≡ ys
one_order [] [] r s f g = refl
one_order [] (y ∷ ys) r s f g = absurd (g y (inl refl))
one_order (x ∷ xs) [] r s f g = absurd (f x (inl refl))
one_order (x ∷ xs) (y ∷ ys) r s f g =
    let e : x ≡ y = same_heads x y xs ys r.0 s.0 (f x (inl refl)) (g y (inl refl)) in
    let rest : xs ≡ ys = one_order xs ys r.1 s.1 (λ z h. in_tail x y z xs ys e r.0 h (f z (inr h))) (λ z h. in_tail y x z ys xs (sym e) s.0 h (g z (inr h))) in
    ap (λ w. w ∷ xs) e ∙ ap (λ ws. y ∷ ws) rest

-- ---- putting members in order loses none, and makes them rise

placed_has : (o : Ordering) (m n z : Entry) (ns more : List Entry) → (Has more z → (z ≡ m) ⊎ Has ns z) → Has (match_ordering o (m ∷ n ∷ ns) (m ∷ n ∷ ns) (n ∷ more)) z → (z ≡ m) ⊎ Has (n ∷ ns) z
placed_has Less m n z ns more f h = h
placed_has Equal m n z ns more f h = h
placed_has Greater m n z ns more f (inl e) = inr (inl e)
placed_has Greater m n z ns more f (inr h) = ⊎_elim (λ (e : z ≡ m). inl e) (λ (g : Has ns z). inr (inr g)) (f h)

placed_keeps : (o : Ordering) (m n z : Entry) (ns more : List Entry) → ((z ≡ m) ⊎ Has ns z → Has more z) → (z ≡ m) ⊎ Has (n ∷ ns) z → Has (match_ordering o (m ∷ n ∷ ns) (m ∷ n ∷ ns) (n ∷ more)) z
placed_keeps Less m n z ns more f h = h
placed_keeps Equal m n z ns more f h = h
placed_keeps Greater m n z ns more f (inl e) = inr (f (inl e))
placed_keeps Greater m n z ns more f (inr (inl e)) = inl e
placed_keeps Greater m n z ns more f (inr (inr h)) = inr (f (inr h))

put_has : (m : Entry) (ns : List Entry) (z : Entry) → Has (put_in m ns) z → (z ≡ m) ⊎ Has ns z
put_has m [] z h = h
put_has m (n ∷ ns) z h = placed_has (c m.0 n.0) m n z ns (put_in m ns) (put_has m ns z) h

put_keeps : (m : Entry) (ns : List Entry) (z : Entry) → (z ≡ m) ⊎ Has ns z → Has (put_in m ns) z
put_keeps m [] z h = h
put_keeps m (n ∷ ns) z h = placed_keeps (c m.0 n.0) m n z ns (put_in m ns) (put_keeps m ns z) h

pub order_has : (ms : List Entry) (z : Entry) → Has (in_order ms) z → Has ms z
order_has [] z h = h
order_has (m ∷ ms) z h = ⊎_elim (λ (e : z ≡ m). inl e) (λ (g : Has (in_order ms) z). inr (order_has ms z g)) (put_has m (in_order ms) z h)

pub order_keeps : (ms : List Entry) (z : Entry) → Has ms z → Has (in_order ms) z
order_keeps [] z h = h
order_keeps (m ∷ ms) z (inl e) = put_keeps m (in_order ms) z (inl e)
order_keeps (m ∷ ms) z (inr h) = put_keeps m (in_order ms) z (inr (order_keeps ms z h))

placed_above : (o : Ordering) (k : List ℕ) (m n : Entry) (ns more : List Entry) → c k m.0 ≡ Less → c k n.0 ≡ Less → Above k ns → Above k more → Above k (match_ordering o (m ∷ n ∷ ns) (m ∷ n ∷ ns) (n ∷ more))
placed_above Less k m n ns more p q a b = (p, (q, a))
placed_above Equal k m n ns more p q a b = (p, (q, a))
placed_above Greater k m n ns more p q a b = (q, b)

put_above : (k : List ℕ) (m : Entry) (ns : List Entry) → c k m.0 ≡ Less → Above k ns → Above k (put_in m ns)
put_above k m [] p a = (p, tt)
put_above k m (n ∷ ns) p a = placed_above (c m.0 n.0) k m n ns (put_in m ns) p a.0 a.1 (put_above k m ns p a.1)

pub flipped : (k l : List ℕ) → c k l ≡ Greater → c l k ≡ Less
flipped k l h = nat_list_cmp_total.antisymm l k ∙ ap ordering_reverse h

placed_rising : (o : Ordering) (m n : Entry) (ns more : List Entry) → c m.0 n.0 ≡ o → m.0 ≢ n.0 → Above n.0 ns → Rising ns → (c n.0 m.0 ≡ Less → Above n.0 more) → Rising more → Rising (match_ordering o (m ∷ n ∷ ns) (m ∷ n ∷ ns) (n ∷ more))
placed_rising Less m n ns more e d a r f g = ((e, above_trans m.0 n.0 ns e a), (a, r))
placed_rising Equal m n ns more e d a r f g = absurd (d (exact_bytes m.0 n.0 e))
placed_rising Greater m n ns more e d a r f g = (f (flipped m.0 n.0 e), g)

put_rising : (m : Entry) (ns : List Entry) → Rising ns → Lacks m.0 ns → Rising (put_in m ns)
put_rising m [] r l = (tt, tt)
put_rising m (n ∷ ns) r l = placed_rising (c m.0 n.0) m n ns (put_in m ns) refl l.0 r.0 r.1 (λ h. put_above n.0 m ns h r.0) (put_rising m ns r.1 l.1)

pub lacks_has : (k : List ℕ) (ms : List Entry) (z : Entry) → Lacks k ms → Has ms z → k ≢ z.0
lacks_has k [] z l h = absurd h
lacks_has k (m ∷ ms) z l (inl e) = λ p. l.0 (p ∙ ap (λ (w : Entry). w.0) e)
lacks_has k (m ∷ ms) z l (inr h) = lacks_has k ms z l.1 h

lacks_from : (k : List ℕ) (ms : List Entry) → ((z : Entry) → Has ms z → k ≢ z.0) → Lacks k ms
lacks_from k [] f = tt
lacks_from k (m ∷ ms) f = (f m (inl refl), lacks_from k ms (λ z h. f z (inr h)))

pub order_rising : (ms : List Entry) → Distinct ms → Rising (in_order ms)
order_rising [] d = tt
order_rising (m ∷ ms) d = put_rising m (in_order ms) (order_rising ms d.1) (lacks_from m.0 (in_order ms) (λ z h. lacks_has m.0 ms z d.0 (order_has ms z h)))

-- a rising list with these members is the one that `in_order` gives
pub order_is : (xs ys : List Entry) → Distinct xs → Rising ys → ((z : Entry) → Has xs z → Has ys z) → ((z : Entry) → Has ys z → Has xs z) → ys ≡ in_order xs
order_is xs ys d r f g = one_order ys (in_order xs) r (order_rising xs d) (λ z h. order_keeps xs z (g z h)) (λ z h. f z (order_has xs z h))

-- two lists with the same members are one in order
pub any_order : (xs ys : List Entry) → Distinct xs → Distinct ys → ((z : Entry) → Has xs z → Has ys z) → ((z : Entry) → Has ys z → Has xs z) → in_order xs ≡ in_order ys
any_order xs ys d e f g =
    one_order (in_order xs) (in_order ys) (order_rising xs d) (order_rising ys e) (λ z h. order_keeps ys z (f z (order_has xs z h))) (λ z h. order_keeps xs z (g z (order_has ys z h)))
