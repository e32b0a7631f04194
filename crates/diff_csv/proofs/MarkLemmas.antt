-- A text with a mark after it.
use Rattle.std.proofs.Common.{◌≡◌, ◌≢◌, ◌∙◌, ◌⊎◌, ℕ, Bool, true, false, List, [], ◌∷◌, ◌++◌, Option, Some, None, sym, refl, ap, subst, inl, inr, arith}
use Rattle.std.specs.Prelude.{◌==◌, ◌&&◌, if◌then◌else◌, ⊤}
use Rattle.csv.specs.Machine.{Read, ends_with, field_after, fields_after, in_field, is_end, next_record, start_field, start_record, step}
use Rattle.csv.specs.Reading.{Reached, default_config, is_bom, strip_bom}
use Rattle.csv.specs.declared.parser.Config.{Config}
use Rattle.csv.specs.declared.parser.Action.{Action}
use Rattle.csv.specs.declared.parser.Action.TheVariants as act
use Rattle.csv.specs.declared.parser.State.{State}
use Rattle.csv.specs.declared.parser.State.TheVariants as st
use Rattle.csv.specs.declared.parser.Terminator.TheVariants as term
use Rattle.diff_csv.specs.Options.{is_delimiter}
use Rattle.diff_csv.specs.Quotes.{is_quoted, mark, state_after}

-- how records are read with a byte between fields
abbrev pub settings : ℕ → Config
settings d = record default_config { delimiter = d }

-- between records there is no field at hand; comments and escapes are off
abbrev pub Clean : State → List (List ℕ) → List ℕ → Type 0
Clean st.StartRecord f q = (f ≡ []) × (q ≡ [])
Clean st.StartField f q = ⊤
Clean st.InField f q = ⊤
Clean st.InQuoted f q = ⊤
Clean st.AfterQuote f q = ⊤
Clean st.InEscape f q = ⊥
Clean st.InComment f q = ⊥
Clean st.AfterCr f q = (f ≡ []) × (q ≡ [])

-- what a step leaves is clean
abbrev Steps : State × Action → ℕ → List (List ℕ) → List ℕ → Type 0
Steps r c f q = (is_end r.1 ≡ false → Clean r.0 (fields_after r.1 f q) (field_after r.1 c q)) × (is_end r.1 ≡ true → Clean r.0 [] [])

in_field_steps : (d c : ℕ) (f : List (List ℕ)) (q : List ℕ) → Steps (in_field (settings d) c) c f q
in_field_steps d c f q = by (c == d) (ends_with term.CRLF c) (c == 13)
  where
    by : (x y z : Bool) → Steps (if x then (st.StartField, act.EndField) else if y then (if z then st.AfterCr else st.StartRecord, act.EndRecord) else (st.InField, act.Copy)) c f q
    by true y z = ((λ e. tt), (λ e. tt))
    by false true true = ((λ e. cc e), (λ e. (refl, refl)))
    by false true false = ((λ e. cc e), (λ e. (refl, refl)))
    by false false z = ((λ e. tt), (λ e. tt))

-- one of two steps
either : (b : Bool) (x y : State × Action) (c : ℕ) (f : List (List ℕ)) (q : List ℕ) → Steps x c f q → Steps y c f q → Steps (if b then x else y) c f q
either true x y c f q h k = h
either false x y c f q h k = k

skips : (s : State) (c : ℕ) (f : List (List ℕ)) (q : List ℕ) → Clean s f q → Steps (s, act.Skip) c f q
skips s c f q h = ((λ e. h), (λ e. cc e))

start_field_steps : (d c : ℕ) (f : List (List ℕ)) (q : List ℕ) → Steps (start_field (settings d) c) c f q
start_field_steps d c f q = either (c == 34) (st.InQuoted, act.Skip) (in_field (settings d) c) c f q (skips st.InQuoted c f q tt) (in_field_steps d c f q)

start_record_steps : (d c : ℕ) (f : List (List ℕ)) (q : List ℕ) → Clean st.StartRecord f q → Steps (start_record (settings d) c) c f q
start_record_steps d c f q h =
    either (ends_with term.CRLF c) (st.StartRecord, act.Skip) (start_field (settings d) c) c f q (skips st.StartRecord c f q h) (start_field_steps d c f q)

steps_clean : (d : ℕ) (s : State) (c : ℕ) (f : List (List ℕ)) (q : List ℕ) → Clean s f q → Steps (step (settings d) s c) c f q
steps_clean d st.StartRecord c f q h = start_record_steps d c f q h
steps_clean d st.StartField c f q h = start_field_steps d c f q
steps_clean d st.InField c f q h = in_field_steps d c f q
steps_clean d st.InQuoted c f q h = either (c == 34) (st.AfterQuote, act.Skip) (st.InQuoted, act.Copy) c f q (skips st.AfterQuote c f q tt) ((λ e. tt), (λ e. tt))
steps_clean d st.AfterQuote c f q h = either (c == 34) (st.InQuoted, act.Copy) (in_field (settings d) c) c f q ((λ e. tt), (λ e. tt)) (in_field_steps d c f q)
steps_clean d st.InEscape c f q h = absurd h
steps_clean d st.InComment c f q h = absurd h
steps_clean d st.AfterCr c f q h = either (c == 10) (st.StartRecord, act.Skip) (start_record (settings d) c) c f q (skips st.StartRecord c f q h) (start_record_steps d c f q h)

-- what stands after a record: the rest of the text and the mark, or the mark's quote alone
abbrev Behind : Read → List ℕ → Type 0
Behind p zs = (p.2 ≡ zs ++ mark) ⊎ ((p.1 ≡ st.StartRecord) × (zs ≡ []) × (p.2 ≡ 34 ∷ []))

-- the record is the next one of the text
abbrev Goes : ℕ → State → List (List ℕ) → List ℕ → List ℕ → Read → Type 0
Goes d s f q xs p = (zs : List ℕ) × (next_record (settings d) s f q xs ≡ Some (p.0, p.1, zs)) × Behind p zs × Clean p.1 [] []
    × (is_quoted (state_after (settings d) s xs) ≡ is_quoted (state_after (settings d) p.1 zs))

-- the record is the last one: the mark alone, or what an open quote took
abbrev Stops : ℕ → State → List (List ℕ) → List ℕ → List ℕ → Read → Type 0
Stops d s f q xs p = (p.1 ≡ st.StartRecord) × (p.2 ≡ [])
    × (((p.0 ≡ [] ∷ []) × (next_record (settings d) s f q xs ≡ None) × (is_quoted (state_after (settings d) s xs) ≡ false))
    ⊎ ((p.0 ≢ [] ∷ []) × (is_quoted (state_after (settings d) s xs) ≡ true)))

abbrev Marked : ℕ → State → List (List ℕ) → List ℕ → List ℕ → Type 0
Marked d s f q xs = (p : Read) × (next_record (settings d) s f q (xs ++ mark) ≡ Some p) × (Goes d s f q xs p ⊎ Stops d s f q xs p)

-- a field that ends in a line feed is no empty one
no_mark : (f : List (List ℕ)) (q : List ℕ) → (f ++ (q ++ 10 ∷ []) ∷ []) ≢ [] ∷ []
no_mark [] [] e = cc e
no_mark [] (b ∷ q) e = cc e
no_mark (x ∷ []) q e = cc e
no_mark (x ∷ y ∷ f) q e = cc e

at_end : (d : ℕ) → (10 == d) ≡ false → (s : State) (f : List (List ℕ)) (q : List ℕ) → Clean s f q → Marked d s f q []
unfolding next_record state_after
at_end d ne st.StartRecord f q h = rw (h.0, h.1) (([] ∷ [], st.StartRecord, []), refl, inr (refl, refl, inl (refl, refl, refl)))
at_end d ne st.StartField f q h = ((f ++ q ∷ [], st.StartRecord, 34 ∷ []), rw ne refl, inl ([], refl, inr (refl, refl, refl), (refl, refl), refl))
at_end d ne st.InField f q h = ((f ++ q ∷ [], st.StartRecord, 34 ∷ []), rw ne refl, inl ([], refl, inr (refl, refl, refl), (refl, refl), refl))
at_end d ne st.InQuoted f q h = ((f ++ (q ++ 10 ∷ []) ∷ [], st.StartRecord, []), refl, inr (refl, refl, inr (no_mark f q, refl)))
at_end d ne st.AfterQuote f q h = ((f ++ q ∷ [], st.StartRecord, 34 ∷ []), rw ne refl, inl ([], refl, inr (refl, refl, refl), (refl, refl), refl))
at_end d ne st.InEscape f q h = absurd h
at_end d ne st.InComment f q h = absurd h
at_end d ne st.AfterCr f q h = rw (h.0, h.1) (([] ∷ [], st.StartRecord, []), refl, inr (refl, refl, inl (refl, refl, refl)))

-- the next record of a text with the mark after it
pub next_marked : (d : ℕ) → (10 == d) ≡ false → (xs : List ℕ) (s : State) (f : List (List ℕ)) (q : List ℕ) → Clean s f q → Marked d s f q xs
unfolding next_record state_after
next_marked d ne [] s f q h = at_end d ne s f q h
next_marked d ne (c ∷ xs) s f q h =
    by (is_end (step (settings d) s c).1) refl
    (next_marked d ne xs (step (settings d) s c).0 (fields_after (step (settings d) s c).1 f q) (field_after (step (settings d) s c).1 c q))
    (steps_clean d s c f q h)
  where
    by : (b : Bool) → is_end (step (settings d) s c).1 ≡ b
        → (Clean (step (settings d) s c).0 (fields_after (step (settings d) s c).1 f q) (field_after (step (settings d) s c).1 c q)
        → Marked d (step (settings d) s c).0 (fields_after (step (settings d) s c).1 f q) (field_after (step (settings d) s c).1 c q) xs)
        → Steps (step (settings d) s c) c f q → Marked d s f q (c ∷ xs)
    by true e more clean =
        ((fields_after (step (settings d) s c).1 f q, (step (settings d) s c).0, xs ++ mark), rw e refl, inl (xs, rw e refl, inl refl, clean.1 e, refl))
    by false e more clean = rw e (more (clean.0 e))

-- no record ends before the mark
never_none : (o : Option Read) (p : Read) {T : Type 0} → o ≡ Some p → o ≡ None → T
never_none o p some none = absurd (cc)

-- the first records of a text, and what its last record with the mark shows
abbrev pub Walked : ℕ → State → List ℕ → List (List (List ℕ)) → List (List ℕ) → State → List ℕ → Type 0
Walked d s xs rows last s2 ys = (s3 : State) × (zs : List ℕ) × Reached (settings d) s xs rows s3 zs
    × (next_record (settings d) s2 [] [] ys ≡ None → last ≡ [] ∷ [] → (next_record (settings d) s3 [] [] zs ≡ None) × (is_quoted (state_after (settings d) s xs) ≡ false))
    × (next_record (settings d) s2 [] [] ys ≡ None → last ≢ [] ∷ [] → is_quoted (state_after (settings d) s xs) ≡ true)

-- no record stands after the last one
past_end : (d : ℕ) (rows : List (List (List ℕ))) (last : List (List ℕ)) (s2 : State) (ys : List ℕ) {T : Type 0} → Reached (settings d) st.StartRecord [] (rows ++ last ∷ []) s2 ys → T
unfolding Reached next_record
past_end d [] last s2 ys h = cc h.1
past_end d (r ∷ rs) last s2 ys h = cc h.1

-- after the line feed of the mark its quote reads as the whole mark does
whole_mark : (d : ℕ) (rows : List (List (List ℕ))) (last : List (List ℕ)) (s2 : State) (ys : List ℕ)
    → Reached (settings d) st.StartRecord (34 ∷ []) (rows ++ last ∷ []) s2 ys → Reached (settings d) st.StartRecord ([] ++ mark) (rows ++ last ∷ []) s2 ys
unfolding Reached next_record
whole_mark d [] last s2 ys h = h
whole_mark d (r ∷ rs) last s2 ys h = h

-- the last record of a text with the mark after it
last_walk : (d : ℕ) (s : State) (xs : List ℕ) (last : List (List ℕ)) (s2 : State) (ys : List ℕ) (p : Read) → (10 == d) ≡ false
    → last ≡ p.0 → p.1 ≡ s2 → p.2 ≡ ys → Goes d s [] [] xs p ⊎ Stops d s [] [] xs p → Walked d s xs [] last s2 ys
unfolding Reached next_record
last_walk d s xs last s2 ys p ne row state rest (inl (zs, next, inl tail, clean, quoted)) =
    let m = next_marked d ne zs p.1 [] [] clean in
    let some : next_record (settings d) s2 [] [] ys ≡ Some m.0 = rw (← state, ← rest, tail) m.1 in
    (s, xs, (refl, refl), (λ none. never_none _ m.0 some none), (λ none. never_none _ m.0 some none))
last_walk d s xs last s2 ys p ne row state rest (inl (zs, next, inr (start, nil, tail), clean, quoted)) =
    let some : next_record (settings d) s2 [] [] ys ≡ Some ([] ∷ [], st.StartRecord, []) = rw (← state, ← rest, start, tail) refl in
    (s, xs, (refl, refl), (λ none. never_none _ _ some none), (λ none. never_none _ _ some none))
last_walk d s xs last s2 ys p ne row state rest (inr (start, nil, inl (is, next, closed))) =
    (s, xs, (refl, refl), (λ none e. (next, closed)), (λ none differ. absurd (differ (row ∙ is))))
last_walk d s xs last s2 ys p ne row state rest (inr (start, nil, inr (differ, open_))) =
    (s, xs, (refl, refl), (λ none e. absurd (differ (sym row ∙ e))), (λ none e. open_))

-- a record more in front
more_walk : (d : ℕ) (s : State) (xs : List ℕ) (r : List (List ℕ)) (rows : List (List (List ℕ))) (last : List (List ℕ)) (s1 s2 : State) (zs ys : List ℕ)
    → next_record (settings d) s [] [] xs ≡ Some (r, s1, zs) → is_quoted (state_after (settings d) s xs) ≡ is_quoted (state_after (settings d) s1 zs)
    → Walked d s1 zs rows last s2 ys → Walked d s xs (r ∷ rows) last s2 ys
unfolding Reached
more_walk d s xs r rows last s1 s2 zs ys next quoted h =
    (h.0, h.1, ((r, s1, zs), next, refl, h.2), (λ none e. ((h.3 none e).0, quoted ∙ (h.3 none e).1)), (λ none e. quoted ∙ h.4 none e))

-- a first record, and what those after it show
step_walk : (d : ℕ) (r : List (List ℕ)) (rows : List (List (List ℕ))) (last : List (List ℕ)) (s : State) (xs : List ℕ) (s2 : State) (ys : List ℕ) (p : Read)
    → r ≡ p.0 → Reached (settings d) p.1 p.2 (rows ++ last ∷ []) s2 ys
    → ((s1 : State) (zs : List ℕ) → Clean s1 [] [] → Reached (settings d) s1 (zs ++ mark) (rows ++ last ∷ []) s2 ys → Walked d s1 zs rows last s2 ys)
    → Goes d s [] [] xs p ⊎ Stops d s [] [] xs p → Walked d s xs (r ∷ rows) last s2 ys
step_walk d r rows last s xs s2 ys p row more others (inl (zs, next, inl tail, clean, quoted)) =
    rw row (more_walk d s xs p.0 rows last p.1 s2 zs ys next quoted (others p.1 zs clean (rw tail at more)))
step_walk d r rows last s xs s2 ys p row more others (inl (zs, next, inr (start, nil, tail), clean, quoted)) =
    rw row (more_walk d s xs p.0 rows last p.1 s2 zs ys next quoted
    (others p.1 zs clean (rw (start, nil) (whole_mark d rows last s2 ys (rw (start, tail) at more)))))
step_walk d r rows last s xs s2 ys p row more others (inr (start, nil, what)) = past_end d rows last s2 ys (rw (start, nil) at more)

-- the records of a text, from those of the text with the mark after it
pub walk : (d : ℕ) → (10 == d) ≡ false → (rows : List (List (List ℕ))) (last : List (List ℕ)) (s : State) (xs : List ℕ) (s2 : State) (ys : List ℕ) → Clean s [] []
    → Reached (settings d) s (xs ++ mark) (rows ++ last ∷ []) s2 ys → Walked d s xs rows last s2 ys
unfolding Reached
walk d ne [] last s xs s2 ys clean h =
    let m = next_marked d ne xs s [] [] clean in
    let one : next_record (settings d) s [] [] (xs ++ mark) ≡ Some h.0 = h.1 in
    let two : next_record (settings d) s [] [] (xs ++ mark) ≡ Some m.0 = m.1 in
    let same : h.0 ≡ m.0 = cc in
    last_walk d s xs last s2 ys m.0 ne (h.2 ∙ ap (λ (x : Read). x.0) same) (sym (ap (λ (x : Read). x.1) same) ∙ h.3.0) (sym (ap (λ (x : Read). x.2) same) ∙ h.3.1) m.2
walk d ne (r ∷ rows) last s xs s2 ys clean h =
    let m = next_marked d ne xs s [] [] clean in
    let one : next_record (settings d) s [] [] (xs ++ mark) ≡ Some h.0 = h.1 in
    let two : next_record (settings d) s [] [] (xs ++ mark) ≡ Some m.0 = m.1 in
    let same : h.0 ≡ m.0 = cc in
    step_walk d r rows last s xs s2 ys m.0 (h.2 ∙ ap (λ (x : Read). x.0) same)
    (subst (λ (x : Read). Reached (settings d) x.1 x.2 (rows ++ last ∷ []) s2 ys) same h.3)
    (λ s1 zs. walk d ne rows last s1 zs s2 ys) m.2

-- a mark at the start of a text is no matter of what stands after the text
pub strip_marked : (xs : List ℕ) → strip_bom (xs ++ mark) ≡ strip_bom xs ++ mark
unfolding strip_bom
strip_marked [] = refl
strip_marked (a ∷ []) = by (a == 0xEF)
  where
    by : (x : Bool) → (if x && false && false then [] else a ∷ mark) ≡ a ∷ mark
    by true = refl
    by false = refl
strip_marked (a ∷ b ∷ []) = by (a == 0xEF) (b == 0xBB)
  where
    by : (x y : Bool) → (if x && y && false then 34 ∷ [] else a ∷ b ∷ mark) ≡ a ∷ b ∷ mark
    by true true = refl
    by true false = refl
    by false y = refl
strip_marked (a ∷ b ∷ c ∷ rest) = by (is_bom a b c)
  where
    by : (x : Bool) → (if x then rest ++ mark else a ∷ b ∷ c ∷ (rest ++ mark)) ≡ (if x then rest else a ∷ b ∷ c ∷ rest) ++ mark
    by true = refl
    by false = refl

-- a byte between fields is no line feed
pub no_line_feed : (d : ℕ) → is_delimiter d ≡ true → (10 == d) ≡ false
no_line_feed d able = grind (arith, able)
