-- Rows of documents, as they are kept and as a table cuts them.
use Rattle.std.proofs.Common.{◌≡◌, ◌<◌, ◌≤◌, ◌+◌, ◌*◌, ◌∙◌, Option, Some, None, ℕ, suc, List, [], ◌∷◌, ◌++◌, length, get_or, map, take, drop, refl, ap, sym, arith, length-append, subst, inl, inr}
use Rattle.std.proofs.Math.Seq.{take-append_seam, drop-append_seam}
use Rattle.std.proofs.lemmas.List.{append_assoc, append-nil, flat_map_more, get_or-map, length-map, take_all, take_more}
use Rattle.std.proofs.lemmas.List.Elements.{All-push}
use Rattle.std.specs.List.{flat_map}
use Rattle.std.specs.Option.{option_map}
use Rattle.std.specs.Prelude.{All, Bool, IsSome, codes, false, true, unwrap_or}
use Rattle.std.specs.Str.{IsUtf8}
use Rattle.diff_tables.specs.Strings.{AreStrings}
use Rattle.diff_tables.specs.Tables.{cut_rows}
use Rattle.json.specs.Json.{Json, null, object, document}
use Rattle.json.specs.Strict.{HasUniqueKeys}
use Rattle.json.specs.Print.{print_from}
use Rattle.json_normal.specs.Narrow.{HasNarrowNumbers}
use Rattle.json_normal.specs.Normal.{normal_text}
use Rattle.json_paths.specs.Paths as paths
use Rattle.json_paths.specs.Paths.{part_at}
use Rattle.json_paths.specs.Views.{path_view, paths_view}
use Rattle.json_paths.specs.declared.path.Path.{Path}
use Rattle.document_rows.specs.Documents.{HasKeys, HasParts, IsDocument, cell_of, document_row, key_cells, tree_of}
use Rattle.document_rows.specs.Errors.{IsLineFault, IsObject, IsReadFault, IsStop}
use Rattle.document_rows.specs.Lines.{lines_of}
use Rattle.document_rows.specs.Numbers.{AreNumbered, numbered_lines}
use Rattle.document_rows.specs.Parts.{IsWanted, is_in}
use Rattle.document_rows.specs.Reading.{IsFaultAt, IsKeyFault, LacksPart}
use Rattle.document_rows.specs.Rows.{HoldsRows}
use Rattle.document_rows.specs.declared.cells.Rows.{Rows}
use Rattle.document_faults.specs.declared.fault.LineFault.{LineFault}
use Rattle.document_faults.specs.declared.fault.LineFault.TheVariants as fault
use Rattle.document_rows.specs.declared.error.ReadError.{ReadError}
use Rattle.document_rows.specs.declared.error.ReadError.TheVariants as error
use Rattle.document_rows.specs.declared.reading.Reading.{Reading}
use Rattle.document_rows.proofs.NumberLemmas.{document_numbered, lines_more, other_numbered, passed_numbered, same_lines}

-- the cells of one key more
cells_more : (ks : List Path) (p : Path) (j : Json) → key_cells (paths_view (ks ++ p ∷ [])) j ≡ key_cells (paths_view ks) j ++ cell_of (part_at (path_view p) j) ∷ []
cells_more [] p j = refl
cells_more (k ∷ ks) p j = ap (λ l. cell_of (part_at (path_view k) j) ∷ l) (cells_more ks p j)

-- the views of one key more
views_more : (ks : List Path) (p : Path) → paths_view (ks ++ p ∷ []) ≡ paths_view ks ++ path_view p ∷ []
views_more [] p = refl
views_more (k ∷ ks) p = ap (λ l. path_view k ∷ l) (views_more ks p)

-- the keys up to one more
key_more : (ks : List Path) (k : ℕ) (p : Path) → k < length ks → p ≡ get_or ks k p → take (k + 1) ks ≡ take k ks ++ p ∷ []
key_more ks k p within is = take_more ks k p within ∙ ap (λ q. take k ks ++ q ∷ []) (sym is)

-- the cells up to one key more
pub one_cell : (ks : List Path) (j : Json) (k : ℕ) (p : Path) (cell : List ℕ) → k < length ks → p ≡ get_or ks k p → cell_of (part_at (path_view p) j) ≡ cell
    → (all : List (List ℕ)) → (all ++ key_cells (paths_view (take k ks)) j) ++ cell ∷ [] ≡ all ++ key_cells (paths_view (take (k + 1) ks)) j
one_cell ks j k p cell within is there all =
    append_assoc all (key_cells (paths_view (take k ks)) j) (cell ∷ [])
    ∙ ap (λ l. all ++ l) (ap (λ c. key_cells (paths_view (take k ks)) j ++ c ∷ []) (sym there) ∙ (sym (cells_more (take k ks) p j) ∙ ap (λ l. key_cells (paths_view l) j) (sym (key_more ks k p within is))))

-- the parts up to one key more
pub one_part : (ks : List Path) (j : Json) (k : ℕ) (p : Path) → k < length ks → p ≡ get_or ks k p → IsSome (part_at (path_view p) j)
    → HasParts (paths_view (take k ks)) j → HasParts (paths_view (take (k + 1) ks)) j
one_part ks j k p within is there before =
    subst (λ (l : List paths.Path). HasParts l j) (sym (ap paths_view (key_more ks k p within is) ∙ views_more (take k ks) p))
    (All-push (λ (q : paths.Path). IsSome (part_at q j)) (paths_view (take k ks)) (path_view p) before there)

-- the keys up to one more, where this one has a part unless it may be null
pub one_key : (reading : Reading) (ks : List Path) (j : Json) (k : ℕ) (p : Path) → k < length ks → p ≡ get_or ks k p → (reading.null_keys ≡ false → IsSome (part_at (path_view p) j))
    → HasKeys reading (paths_view (take k ks)) j → HasKeys reading (paths_view (take (k + 1) ks)) j
one_key reading ks j k p within is there before = λ strict. one_part ks j k p within is (there strict) (before strict)

-- the normal text of null
pub null_text : normal_text null ≡ codes "null"
unfolding print_from
null_text = refl

-- what is not there is none
pub not_some : (o : Option Json) → ¬ IsSome o → o ≡ None
not_some None h = refl
not_some (Some x) h = absurd (h refl)

-- what is made of something is something
pub mapped_some : {X Y : Type 0} (f : X → Y) (o : Option X) → IsSome o → IsSome (option_map f o)
mapped_some f None h = cc h
mapped_some f (Some x) h = refl

-- the cells of all keys
pub all_cells_kept : (ks : List Path) (k : ℕ) → length ks ≤ k → take k ks ≡ ks
all_cells_kept ks k end = take_all k ks end

-- a key that leads nowhere
pub no_part : (ks : List Path) (j : Json) (k : ℕ) (p : Path) → k < length ks → p ≡ get_or ks k p → part_at (path_view p) j ≡ None → LacksPart (paths_view ks) j k
no_part ks j k p within is none = record {
  within = let count : length (paths_view ks) ≡ length ks = length-map ks path_view in omega (arith, within, count);
  none = ap (λ (q : paths.Path). part_at q j) (get_or-map path_view ks k p [] within ∙ ap path_view (sym is)) ∙ none;
}

-- a key that leads nowhere in the value of a line
pub key_trouble : (reading : Reading) (keys : List paths.Path) (line : List ℕ) (j : Json) (what : LineFault) → document line ≡ Some j → IsKeyFault reading keys j what → IsLineFault reading keys line what
key_trouble reading keys line j fault.Invalid is h = absurd h
key_trouble reading keys line j fault.RepeatedName is h = absurd h
key_trouble reading keys line j fault.WideExponent is h = absurd h
key_trouble reading keys line j fault.NoObject is h = absurd h
key_trouble reading keys line j (fault.NoPart k) is h = (h.0, h.1.within, rw is h.1.none)

-- what is wrong with a line is wrong with no document
pub no_document : (reading : Reading) (keys : List paths.Path) (line : List ℕ) (what : LineFault) → IsLineFault reading keys line what → ¬ IsDocument reading keys line
no_document reading keys line fault.Invalid (inl text) d = text d.utf8
no_document reading keys line fault.Invalid (inr none) d = let some : Some (object d.members) ≡ None = sym d.json ∙ none in cc some
no_document reading keys line fault.RepeatedName h d = (rw d.json at h) d.unique
no_document reading keys line fault.WideExponent h d = (rw d.json at h) d.narrow
no_document reading keys line fault.NoObject h d = (rw d.json at h) (d.members, refl)
no_document reading keys line (fault.NoPart k) (strict, within, h) d =
    let none : part_at (get_or keys k []) (object d.members) ≡ None = rw d.json at h in
    let there : IsSome (part_at (get_or keys k []) (object d.members)) = d.keys_there strict k [] within in
    let never = rw none at there in
    cc never

-- a line whose value was checked is a document
pub document_from : (reading : Reading) (keys : List paths.Path) (line : List ℕ) (j : Json) → IsUtf8 line → document line ≡ Some j → IsObject j → HasUniqueKeys j → HasNarrowNumbers j → HasKeys reading keys j
    → IsDocument reading keys line
document_from reading keys line j utf8 json (members, is) unique narrow there = record {
  utf8 = utf8;
  members = members;
  json = json ∙ ap Some is;
  unique = subst HasUniqueKeys is unique;
  narrow = subst HasNarrowNumbers is narrow;
  keys_there = subst (HasKeys reading keys) is there;
}

-- the cells of one document more
row_more : (keys : List paths.Path) (all : List (List ℕ)) (line : List ℕ) (j : Json) → document line ≡ Some j
    → (flat_map (document_row keys) all ++ key_cells keys j) ++ line ∷ [] ≡ flat_map (document_row keys) (all ++ line ∷ [])
row_more keys all line j is =
    let tree : j ≡ tree_of line = sym (ap (λ o. unwrap_or o null) is) in
    append_assoc (flat_map (document_row keys) all) (key_cells keys j) (line ∷ [])
    ∙ (ap (λ (t : Json). flat_map (document_row keys) all ++ (key_cells keys t ++ line ∷ [])) tree ∙ flat_map_more (document_row keys) [] all line)

-- one row more
pub row_kept : (reading : Reading) (keys : List paths.Path) (all : List (List ℕ)) (line : List ℕ) (j : Json) (number : ℕ) (old new : Rows) → document line ≡ Some j → IsWanted reading keys line
    → number ≡ suc (length all) → HoldsRows reading keys all old
    → ((strings : List (List ℕ)) → AreStrings old.cells strings → AreStrings new.cells ((strings ++ key_cells keys j) ++ line ∷ []))
    → new.lines.items ≡ old.lines.items ++ number ∷ [] → new.skipped.items ≡ old.skipped.items → HoldsRows reading keys (all ++ line ∷ []) new
row_kept reading keys all line j number old new is wanted number_is h cells numbers others =
    let before = numbered_lines all old.lines.items in
    let grown : new.lines.items ≡ old.lines.items ++ suc (length all) ∷ [] = numbers ∙ ap (λ n. old.lines.items ++ n ∷ []) number_is in
    let kept : numbered_lines (all ++ line ∷ []) new.lines.items ≡ before ++ line ∷ [] =
    ap (numbered_lines (all ++ line ∷ [])) grown ∙ lines_more (IsWanted reading keys) all line old.lines.items h.numbered.documents in
    record {
      numbered = subst (λ l. AreNumbered reading keys (all ++ line ∷ []) l new.skipped.items) (sym grown)
          (subst (AreNumbered reading keys (all ++ line ∷ []) (old.lines.items ++ suc (length all) ∷ [])) (sym others) (document_numbered reading keys all line old.lines.items old.skipped.items h.numbered wanted));
      documents = subst (All (IsWanted reading keys)) (sym kept) (All-push (IsWanted reading keys) before line h.documents wanted);
      cells = subst (λ l. AreStrings new.cells (flat_map (document_row keys) l)) (sym kept) (subst (AreStrings new.cells) (row_more keys before line j is) (cells (flat_map (document_row keys) before) h.cells));
    }

-- a document whose value is in the part is wanted
pub wanted_from : (reading : Reading) (keys : List paths.Path) (line : List ℕ) (j : Json) (kept : Bool) → IsDocument reading keys line → document line ≡ Some j → kept ≡ is_in reading.part keys j → kept ≡ true
    → IsWanted reading keys line
wanted_from reading keys line j kept doc json is there = record {
  document = doc;
  in_part = ap (λ o. is_in reading.part keys (unwrap_or o null)) json ∙ (sym is ∙ there);
}

-- and no other is
pub unwanted_from : (reading : Reading) (keys : List paths.Path) (line : List ℕ) (j : Json) (kept : Bool) → document line ≡ Some j → kept ≡ is_in reading.part keys j → kept ≡ false
    → ¬ IsWanted reading keys line
unwanted_from reading keys line j kept json is absent wanted =
    let both : true ≡ false = sym wanted.in_part ∙ (ap (λ o. is_in reading.part keys (unwrap_or o null)) json ∙ (sym is ∙ absent)) in
    cc both

-- a document that is in another part
pub row_passed : (reading : Reading) (keys : List paths.Path) (all : List (List ℕ)) (line : List ℕ) (r : Rows) → IsDocument reading keys line → ¬ IsWanted reading keys line
    → HoldsRows reading keys all r → HoldsRows reading keys (all ++ line ∷ []) r
row_passed reading keys all line r doc unwanted h =
    let kept : numbered_lines (all ++ line ∷ []) r.lines.items ≡ numbered_lines all r.lines.items = same_lines (IsWanted reading keys) all line r.lines.items h.numbered.documents in
    record {
      numbered = passed_numbered reading keys all line r.lines.items r.skipped.items h.numbered doc unwanted;
      documents = subst (All (IsWanted reading keys)) (sym kept) h.documents;
      cells = subst (λ l. AreStrings r.cells (flat_map (document_row keys) l)) (sym kept) h.cells;
    }

-- a line that is passed over
pub row_skipped : (reading : Reading) (keys : List paths.Path) (all : List (List ℕ)) (line : List ℕ) (number : ℕ) (old new : Rows) → reading.skip_bad ≡ true → ¬ IsDocument reading keys line
    → number ≡ suc (length all) → HoldsRows reading keys all old
    → new.cells ≡ old.cells → new.lines ≡ old.lines → new.skipped.items ≡ old.skipped.items ++ number ∷ [] → HoldsRows reading keys (all ++ line ∷ []) new
row_skipped reading keys all line number old new passes other number_is h cells numbers skipped =
    let grown : new.skipped.items ≡ old.skipped.items ++ suc (length all) ∷ [] = skipped ∙ ap (λ n. old.skipped.items ++ n ∷ []) number_is in
    let kept : numbered_lines (all ++ line ∷ []) new.lines.items ≡ numbered_lines all old.lines.items =
    ap (λ l. numbered_lines (all ++ line ∷ []) l.items) numbers ∙ same_lines (IsWanted reading keys) all line old.lines.items h.numbered.documents in
    record {
      numbered = subst (λ l. AreNumbered reading keys (all ++ line ∷ []) l.items new.skipped.items) (sym numbers)
          (subst (AreNumbered reading keys (all ++ line ∷ []) old.lines.items) (sym grown) (other_numbered reading keys all line old.lines.items old.skipped.items h.numbered passes other));
      documents = subst (All (IsWanted reading keys)) (sym kept) h.documents;
      cells = subst (λ c. AreStrings c (flat_map (document_row keys) (numbered_lines (all ++ line ∷ []) new.lines.items))) (sym cells) (subst (λ l. AreStrings old.cells (flat_map (document_row keys) l)) (sym kept) h.cells);
    }

-- how many cells rows of one width have
pub all_cells : (f : List ℕ → List (List ℕ)) (w : ℕ) → ((r : List ℕ) → length (f r) ≡ w) → (rows : List (List ℕ)) → length (flat_map f rows) ≡ w * length rows
all_cells f w size [] = omega arith
all_cells f w size (r ∷ rs) =
    let rest : length (flat_map f rs) ≡ w * length rs = all_cells f w size rs in
    let here : length (f r) ≡ w = size r in
    let place : w + w * length rs ≡ w * suc (length rs) = omega arith in
    length-append (f r) (flat_map f rs) ∙ (ap (λ n. n + length (flat_map f rs)) here ∙ (ap (λ n. w + n) rest ∙ place))

-- rows of one width are cut off their cells
pub cut_kept : (f : List ℕ → List (List ℕ)) (w : ℕ) → ((r : List ℕ) → length (f r) ≡ w) → (rows : List (List ℕ)) → cut_rows w (length rows) (flat_map f rows) ≡ map f rows
unfolding cut_rows
cut_kept f w size [] = refl
cut_kept f w size (r ∷ rs) =
    let row : take w (f r ++ flat_map f rs) ≡ f r = subst (λ n. take n (f r ++ flat_map f rs) ≡ f r) (size r) (take-append_seam (f r) (flat_map f rs)) in
    let others : drop w (f r ++ flat_map f rs) ≡ flat_map f rs = subst (λ n. drop n (f r ++ flat_map f rs) ≡ flat_map f rs) (size r) (drop-append_seam (f r) (flat_map f rs)) in
    ap (λ x. x ∷ cut_rows w (length rs) (drop w (f r ++ flat_map f rs))) row
    ∙ (ap (λ l. f r ∷ cut_rows w (length rs) l) others ∙ ap (λ l. f r ∷ l) (cut_kept f w size rs))

-- lines up to one that is not kept
pub line_fault : (reading : Reading) (keys : List paths.Path) (text : List ℕ) (all : List (List ℕ)) (line after : List ℕ) (number : ℕ) (e : ReadError) → lines_of text ≡ all ++ line ∷ lines_of after
    → (reading.skip_bad ≡ false → All (IsDocument reading keys) all) → number ≡ suc (length all) → IsFaultAt reading keys line number e → IsReadFault text reading keys e
line_fault reading keys text all line after number error.Memory lines docs count h = tt
line_fault reading keys text all line after number (error.Read cause) lines docs count h = tt
line_fault reading keys text all line after number (error.Line n column what) lines docs count h = record {
  before = all;
  line = line;
  after = lines_of after;
  lines = lines;
  documents = docs h.1;
  number_is = h.0 ∙ count;
  not_skipped = h.1;
  faulty = h.2;
}

-- a failure of the reader
pub stop_fault : (reading : Reading) (keys : List paths.Path) (text : List ℕ) (e : ReadError) → IsStop e → IsReadFault text reading keys e
stop_fault reading keys text error.Memory h = tt
stop_fault reading keys text (error.Read cause) h = tt
stop_fault reading keys text (error.Line n column what) h = absurd h

-- nothing has no line
pub no_lines : (all : List (List ℕ)) (rest : List ℕ) → rest ≡ [] → all ++ lines_of rest ≡ all
unfolding lines_of
no_lines all rest is = ap (λ r. all ++ lines_of r) is ∙ append-nil all

-- some lines of a text are read, and are kept
pub record IsProgress {R : Type 0} (remaining : R → Option (List ℕ)) (reading : Reading) (keys : List paths.Path) (start reader : R) (n : ℕ) (r : Rows) : Type 0 where
  pub all : List (List ℕ)
  pub held : HoldsRows reading keys all r
  pub count : n ≡ length all
  pub so_far : (text : List ℕ) → remaining start ≡ Some text → (rest : List ℕ) × (remaining reader ≡ Some rest) × (lines_of text ≡ all ++ lines_of rest)
