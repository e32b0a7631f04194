-- `get_mut_values` lends the stored values where the array owns them. Assumes `Logic`.
use mathlib.Core.Path.{◌≡◌, refl, sym, ap, ◌∙◌}
use mathlib.Core.Bool.{Bool, true, false, not}
use Prim.Native.Nat.{ℕ}
use mathlib.Core.List.{List, [], ◌∷◌}
use lib.ListN.{length}
use lib.Dec.{lit<, T as Holds}
use mir.Syntax.{Fn, Args, named, a_type, dcons, dnil}
use mir.MapTy.{inst_fn}
use mir.Val.{Val, of_list}
use types.Match.{live}
use base.Fraction.{full_share}
use base.Share
use base.Logic.{SProp, emp, wand, apply∗, id⊢}
use base.Fml.{Lft, GName, ftrue, flft, fdead, fres}
use contract.Monad.{fact, fact_i}
use contract.BorrowLft.{◌⊑◌, ⊑_trans, meet_⊑_left, meet_⊑_right}
use denote.Lend.{lends_again, comes_back, LentAgain}
use types.Tokens.{lft_new, lft_end}
use contract.Running.{tables}
use types.Kit.{‵, raw, ◌⊛◌, some, later, at_ret, ◌$◌, ◌∵◌, !, qed, move, keep, drop, use0, use1, use2, use3, split, join, rewrite, fsplit, fsplit3, fjoin, await, pick, suffices, frame, done}
use types.Part.{agg}
use types.Run.{stop, of_opd, addr, lit, first, branches, exec, returns, enter, no_more, and_then}
use types.ByLocal.{alloc_all, pass_all, free_all, look_at, get, through, sets, sets_last, lands_as, env}
use denote.Exit.{no}
use denote.RattleType.{RattleType}
use denote.Builtin.{bool}
use denote.Array.{Array}
use denote.Follow.{follows, follows_by}
use denote.Laws.{Is, shows}
use denote.Param.{bounded}
use denote.Ref.{MutBor, MutRef, mut_vals, mut_Tells}
use denote.Slice.{MutSlice, slice_val, mut_slice_vals}
use denote.Signature.{plain, mut_ref_to}
use denote.Steps.{nothing, peeks, facts, heard, only}
use denote.Triple.Call.{calls_at}
use denote.Triple.Clauses.{lasts}
use denote.Triple.Spec.{triple_of}
use denote.Triple.Table.{framed}
use denote.Triple.Walked.{Stays, stay_dropped, Goes-spent_ref, walk_of, ends_at}
use Rattle.std.proofs.raw_atomic.Walks.{proved}
use Rattle.std.proofs.VecSteps.Shapes.{after}
use Rattle.std.proofs.mem.Facts.{says_two}
use Rattle.std.proofs.VecSteps.Element.{Some-of, none_of}
use Rattle.std.specs.Prelude.{Some, None}
use Rattle.std.specs.contracts.option.Option as OP
use Rattle.polars_arrays_flat.specs.NumbersLends.{with_values}
use Rattle.polars_arrays_flat.specs.contracts.primitive.PrimitiveArray as B
use Rattle.polars_arrays_flat.specs.contracts.primitive.PrimitiveArray.get_mut_values as f
use Rattle.polars_arrays_flat.proofs.primitive.PrimitiveArray.get_mut_values.Statement.{statement}
use Rattle.polars_arrays_flat.proofs.primitive.PrimitiveArray.get_mut_values.Code as code
use Rattle.polars_arrays_flat.specs.contracts.primitive.PrimitiveArray.owns as asks
use Rattle.polars_arrays_flat.proofs.primitive.PrimitiveArray.owns.Met as owns_met
use Rattle.polars_arrays_flat.specs.contracts.primitive.PrimitiveArray.as_mut_values as lends
use Rattle.polars_arrays_flat.proofs.primitive.PrimitiveArray.as_mut_values.Met as lends_met

holds_true : (o : Bool) → Holds o → o ≡ true
holds_true true t = refl
holds_true false t = absurd t

holds_false : (o : Bool) → Holds (not o) → o ≡ false
holds_false true t = absurd t
holds_false false t = refl

pub get_mut_values_spec : {M : Type 1} → statement M
unfolding follows_by
get_mut_values_spec 𝓤 𝓛 𝓜 𝓡 wired X L copies clones dict bound =
    let R : RattleType = f.T-row X in let Br : RattleType = B.the_row R in
    let args : Args = bounded (a_type ∷ []) (X, tt) (dcons dict dnil) in let here : Fn = inst_fn args code.function in
    let ended = f.ended X clones dict in
    let stayed : Stays ended.signature.params ended.kept = (stay_dropped (mut_ref_to (0 ∷ []) tt (plain (λ _. Br))) no, tt) in
    let c = f.clauses X clones dict 𝓛 𝓜.mem 𝓡.returns in let W = walk_of 𝓛 ended stayed c in let 𝓣 = tables 𝓤 𝓛.H 𝓜 𝓡 𝓡.env in
    proved 𝓛 ended stayed c 𝓜 𝓡 (Goes-spent_ref 𝓛 2 (0 ∷ []) tt (plain (λ _. Br)), tt)
    (f.Key.name args) here (code.unfolded 𝓤 𝓛.H 𝓜 𝓡 wired (X, tt) dict)
    (λ κs. (mut_vals, tt)) (λ κs. (mut_Tells (named 0) κs.0 Br, tt)) (λ κs qs bounds a n are.
    let κ : Lft = κs.0 in let q = qs.0 in let κX : Lft = κs.1.0 in let qX = qs.1.0 in let r : MutBor Br.Denot = a.0 in
    let o₁ = r.ref_ptr.0 in let o₂ = r.ref_ptr.1 in let γ : GName = r.ghost_name in let b : Br.Denot = r.now in let vs = mut_vals r in
    let y : W.Ghost = ((κs, qs, bounds, a, (vs, tt)), tt) in
    let A : RattleType = MutSlice (named 0) κ R in
    let Ref = λ (κ' : Lft) (x : MutBor Br.Denot). (MutRef (named 0) κ' Br).own_val x vs in
    let En = λ (l : ℕ → ℕ). env here.locals l in
    qed 𝓛 (((‵ (flft κ q) ⊛ ‵ (flft κX qX) ⊛ ‵ ftrue) ⊛ ‵ (Ref κ r) ⊛ ‵ ftrue) ∷ (raw (fact 𝓤 (κX ⊑ X.lives)) ⊛ ‵ ftrue) ∷ []) ∵
    move ! (1 ∷ []) $ split ! $ heard ! _ (λ within. drop ! $ split ! $ split ! $ move ! (1 ∷ []) $ split ! $ move ! (3 ∷ []) $ split ! $ keep ! (0 ∷ 4 ∷ 2 ∷ []) $
    enter ! _ _ _ _ _ $ alloc_all ! (λ l. pass_all ! refl ((tt, tt), tt) $
    -- [the reference; the tokens of its lifetime and of T's]
    sets ! (addr ! (through ! refl (stop !))) refl (tt, tt) $
    lft_new ! tt (λ α. let κα : Lft = α ∷ κ in let left = Share.left q in let right = Share.right q in
    move ! (2 ∷ []) $ use1 𝓛 (‵ (flft κ left) ⊛ ‵ (flft κ right)) (𝓛.lfts.lft_split κ q) $ split ! $ move ! (2 ∷ []) $
    let Whole : SProp 𝓤 = wand 𝓤 (𝓛.A.lft (α ∷ []) left) (𝓛.A.lft (α ∷ []) full_share) in
    use1 𝓛 (‵ (flft (α ∷ []) left) ⊛ raw Whole) (𝓛.lfts.lft_carve α left) $ split ! $ move ! (0 ∷ 2 ∷ []) $
    use2 𝓛 (‵ (flft κα left)) (𝓛.lfts.lft_meet (α ∷ []) κ left) $ move ! (3 ∷ 2 ∷ []) $
    use2 𝓛 (later (some (λ (δ : ℕ). ‵ (Ref κα (record r { ghost_name = δ })) ⊛ ‵ (LentAgain Br κ κα right γ o₁ o₂ δ b)))) (lends_again 𝓛 Br (named 0) κ κα right γ o₁ o₂ (named 0) b) $
    await ! tt $ pick ! (λ δ. split ! $
    -- [the loan; what the lender keeps; the loan's token; the way to α's; T's token]
    let G = triple_of 𝓛 (asks.signature X) (asks.spec X clones dict 𝓛 𝓜.mem 𝓡.returns) in
    let z : G.Ghost = (((κα, (κX, tt)), (left, (qX, tt)), (⊑_trans κα κ κX (meet_⊑_right (α ∷ []) κ) bounds.0, tt), (record r { ghost_name = δ }, tt), (vs, tt)), tt) in
    nothing ! $ move ! (1 ∷ 0 ∷ []) $ join ! $ nothing ! $ move ! (5 ∷ 0 ∷ []) $ join ! $ move ! (3 ∷ 0 ∷ []) $ join ! $ join ! $
    nothing ! $ use0 𝓛 (raw (fact 𝓤 (κX ⊑ X.lives))) (fact_i 𝓤 (κX ⊑ X.lives) (emp 𝓤) within) $ join ! $ move ! (1 ∷ 0 ∷ []) $ use2 𝓛 (raw (G.pre z)) (id⊢ 𝓤 _) $
    calls_at ! (framed 𝓤 𝓛.H 𝓜 𝓣) G (owns_met.met 𝓤 𝓛 𝓜 𝓡 (code.calls-polars_arrays_flat::primitive::PrimitiveArray::owns 𝓡.env wired) X L copies clones dict bound) z (and_then ! (get ! refl) (no_more !)) (λ v.
    use1 𝓛 (later (some (λ (u : Bool). ((‵ (flft κα left) ⊛ ‵ (flft κX qX) ⊛ ‵ ftrue) ⊛ ‵ (bool.own_val u (v ∷ []))) ⊛
    some (λ (ws : Br.Denot × Unit {0}). ‵ (lasts (asks.ended X clones dict) z.0.0 z.0.3 ws) ⊛ raw (fact 𝓤 (ws.0 ≡ b)) ⊛ raw (fact 𝓤 (u ≡ b.owned)))))) (id⊢ 𝓤 _) $
    await ! tt $ pick ! (λ u. split ! $ split ! $ split ! $ move ! (3 ∷ []) $ pick ! (λ ws. split ! $ move ! (1 ∷ []) $ split ! $ heard ! _ (λ same. heard ! _ (λ said.
    fsplit ! $ fsplit ! $ rewrite ! 0 (λ (d : Br.Denot). ‵ (fres δ (Br.coded.code d))) same refl $
    -- [the loan's last value; its borrow; nothing; the loan's token; T's; the answer; what the lender keeps; the way to α's]
    move ! (3 ∷ []) $ use1 𝓛 (‵ (flft (α ∷ []) left) ⊛ ‵ (flft κ left)) (𝓛.lfts.lft_unmeet (α ∷ []) κ left) $ split ! $ move ! (0 ∷ 8 ∷ []) $
    use2 𝓛 (‵ (flft (α ∷ []) full_share)) (apply∗ 𝓤 (𝓛.A.lft (α ∷ []) left) (𝓛.A.lft (α ∷ []) full_share)) $ lft_end ! tt $
    use1 𝓛 (‵ (fdead κα)) (𝓛.lfts.dead-incl κα (α ∷ []) (meet_⊑_left (α ∷ []) κ)) $ move ! (0 ∷ 7 ∷ 2 ∷ []) $
    use3 𝓛 (later (‵ (Ref κ r) ⊛ ‵ (flft κ right))) (comes_back 𝓛 Br (named 0) κ κα right γ o₁ o₂ δ b b) $ await ! tt $ split ! $
    move ! (2 ∷ 1 ∷ []) $ use2 𝓛 (‵ (flft κ q)) (𝓛.lfts.lft_join κ q) $
    -- [the token; the reference; the loan's borrow; nothing; T's token; the answer]
    move ! (5 ∷ []) $ facts ! bool (Is bool) (shows 𝓛 bool) u (v ∷ []) (λ flag.
    lands_as ! (ap only flag) refl (tt, tt) $
    first ! $ branches ! (get ! refl)
    (λ t. let owns : b.owned ≡ true = sym said ∙ holds_true u t in
    let G₂ = triple_of 𝓛 (lends.signature X) (lends.spec X clones dict 𝓛 𝓜.mem 𝓡.returns) in let z₂ : G₂.Ghost = ((κs, qs, bounds, a, (vs, tt)), tt) in
    sets ! (addr ! (through ! refl (stop !))) refl (tt, tt) $
    move ! (0 ∷ 4 ∷ []) $ join ! $ nothing ! $ move ! (2 ∷ 0 ∷ []) $ join ! $ move ! (1 ∷ 0 ∷ []) $ join ! $
    use0 𝓛 (raw (fact 𝓤 (b.owned ≡ true))) (fact_i 𝓤 (b.owned ≡ true) (emp 𝓤) owns) $ use0 𝓛 (raw (fact 𝓤 (κX ⊑ X.lives))) (fact_i 𝓤 (κX ⊑ X.lives) (emp 𝓤) within) $ join ! $
    move ! (1 ∷ 0 ∷ []) $ use2 𝓛 (raw (G₂.pre z₂)) (id⊢ 𝓤 _) $
    calls_at ! (framed 𝓤 𝓛.H 𝓜 𝓣) G₂ (lends_met.met 𝓤 𝓛 𝓜 𝓡 (code.calls-polars_arrays_flat::primitive::PrimitiveArray::as_mut_values 𝓡.env wired) X L copies clones dict bound) z₂ (and_then ! (get ! refl) (no_more !)) (λ w.
    use1 𝓛 (later (some (λ (x : A.Denot). ((‵ (flft κ q) ⊛ ‵ (flft κX qX) ⊛ ‵ ftrue) ⊛ ‵ (A.own_val x (w ∷ []))) ⊛
    some (λ (ws₂ : Unit {0} × Unit {0}). ‵ (lasts (lends.ended X clones dict) κs a ws₂) ⊛ ‵ (follows Br (Array R 0) γ x.ghost_name (with_values b)) ⊛ raw (fact 𝓤 (x.now ≡ b.values)))))) (id⊢ 𝓤 _) $
    await ! tt $ pick ! (λ x. split ! $ split ! $ move ! (2 ∷ []) $ pick ! (λ ws₂. split ! $ drop ! $ split ! $ move ! (1 ∷ []) $ heard ! _ (λ holds.
    move ! (2 ∷ []) $ peeks ! A (Is A) (shows 𝓛 A) x (w ∷ []) (λ at. rewrite ! 0 (λ (us : List Val). ‵ (A.own_val x us)) at.0.0 refl $
    -- [the elements; what follows; the tokens]
    lands_as ! (ap only at.0.0) refl (tt, (tt, (record { fits = at.0.1.0 }, tt))) $
    sets_last ! (agg ! (and_then ! (lit ! tt) (and_then ! (get ! refl) (no_more !)))) refl (tt, (record { fits = lit< tt }, ((tt, (record { fits = at.0.1.0 }, tt)), tt))) $
    exec ! 𝓣.C 𝓣.Λ (En l) (after 3 here.body) (at_ret (En l) (W.post y)) $
    sets ! (of_opd ! (get ! refl)) refl (tt, (record { fits = lit< tt }, ((tt, (record { fits = at.0.1.0 }, tt)), tt))) $
    returns ! (look_at ! 0 refl) $ free_all ! refl $ keep ! (0 ∷ 1 ∷ 2 ∷ []) $
    use1 𝓛 (‵ ((OP.the_row A).own_val (Some x) (live 1 (of_list (mut_slice_vals x)) ∷ []))) (Some-of 𝓛 A x (slice_val x.ref_ptr (length x.now))) $
    suffices ! _ (ends_at 𝓛 ended stayed c y (live 1 (of_list (mut_slice_vals x))) (Some x) (tt, tt) (tt, tt)) $
    nothing ! $ nothing ! $ fjoin ! $ join ! $ move ! (2 ∷ 0 ∷ []) $ join ! $ frame ! $ says_two ! (((λ _. owns), λ _. refl), holds) $ done !))))))
    (λ t. let shared : b.owned ≡ false = sym said ∙ holds_false u t in
    sets_last ! (agg ! (and_then ! (lit ! tt) (no_more !))) refl (tt, (record { fits = lit< tt }, tt)) $
    exec ! 𝓣.C 𝓣.Λ (En l) (after 3 here.body) (at_ret (En l) (W.post y)) $
    sets ! (of_opd ! (get ! refl)) refl (tt, (record { fits = lit< tt }, tt)) $
    returns ! (look_at ! 0 refl) $ free_all ! refl $
    move ! (1 ∷ []) $ fsplit3 ! $ move ! (1 ∷ []) $ use1 𝓛 (‵ (fres γ (Br.coded.code b))) (𝓛.names.obs-res γ (Br.coded.code b)) $
    keep ! (3 ∷ 6 ∷ 0 ∷ []) $ join ! $ move ! (1 ∷ 0 ∷ []) $
    use0 𝓛 (‵ ((OP.the_row A).own_val None (live 0 (of_list []) ∷ []))) (none_of 𝓛 A) $
    suffices ! _ (ends_at 𝓛 ended stayed c y (live 0 (of_list [])) None (tt, tt) (tt, tt)) $
    nothing ! $ nothing ! $ fjoin ! $ join ! $ move ! (2 ∷ 0 ∷ []) $ join ! $ frame ! $ says_two ! (((λ some. cc), λ owns. cc), tt) $ done !))))))))))))
