-- What bits of sameness say of any arrays.
use Rattle.std.proofs.Common.{◌≡◌, ◌<◌, ◌↔◌, ◌∙◌, ℕ, Bool, true, false, not, IsTrue, List, length, map, refl, sym, ap, arith, slice_index_or}
use Rattle.std.specs.List.{range_with_len}
use Rattle.std.proofs.lemmas.List.{ext_get_or, get_or-map, length-map}
use Rattle.std.proofs.lemmas.List.FromFn.{length-map-range_with_len, get_or-map-range_with_len}
use Rattle.polars_arrays_flat.specs.Row.{Row, Null}
use Rattle.polars_arrays_nested.specs.AnyRows.{row, rows}
use Rattle.polars_arrays_nested.specs.Lengths.{len_of}
use Rattle.polars_arrays_nested.specs.declared.any_array.AnyArray.{AnyArray}
use Rattle.polars_compare_nested.specs.Headline.{SameTrees}
use Rattle.polars_compare.specs.ArrayLaws.{ArraysAreReflexive, ArraysAreSymmetric, ArraysAreTransitive, ArraysByRows, ArraysUnequalIsNotEqual}
use Rattle.polars_compare.proofs.Bits.{told-same, told-not, true-within}

pub arrays-reflexive : ArraysAreReflexive
arrays-reflexive a bits q i h = (q.at_each i h).1 refl

pub arrays-symmetric : ArraysAreSymmetric
arrays-symmetric a b bits turned e q r =
    ext_get_or false turned bits (r.size ∙ e ∙ sym q.size)
    (λ i h.
    let there = q.at_each i (omega (arith, e, r.size)) in
    let back = r.at_each i (omega (arith, r.size)) in
    told-same true _ _ back ((λ t. sym (there.0 t)), (λ s. there.1 (sym s))))

pub arrays-transitive : ArraysAreTransitive
arrays-transitive a b c first second both e k q r s i t u =
    let h : i < len_of a = omega (arith, true-within first i t, q.size) in
    (s.at_each i h).1 ((q.at_each i h).0 t ∙ (r.at_each i (omega (arith, e))).0 u)

pub arrays-complement : ArraysUnequalIsNotEqual
arrays-complement a b equal unequal q r =
    ext_get_or false unequal (map not equal) (r.size ∙ sym q.size ∙ sym (length-map equal not))
    (λ i h.
    let within : i < len_of a = omega (arith, r.size) in
    told-not _ _ (q.at_each i within) (r.at_each i within)
    ∙ sym (get_or-map not equal i false false (omega (arith, q.size))))

-- arrays of the same rows are equally long
rows-len : (a b : AnyArray) → rows a ≡ rows b → len_of a ≡ len_of b
rows-len a b e =
    sym (length-map-range_with_len (row a) 0 (len_of a)) ∙ ap (λ xs. length xs) e ∙ length-map-range_with_len (row b) 0 (len_of b)

-- and have the same row at each place
rows-at : (a b : AnyArray) → rows a ≡ rows b → (i : ℕ) → i < len_of a → row a i ≡ row b i
rows-at a b e i h =
    let long : len_of a ≡ len_of b = rows-len a b e in
    let here : slice_index_or (rows a) i Null ≡ row a i = get_or-map-range_with_len (row a) 0 (len_of a) i i Null h (omega arith) in
    let there : slice_index_or (rows b) i Null ≡ row b i = get_or-map-range_with_len (row b) 0 (len_of b) i i Null (omega (arith, long)) (omega arith) in
    sym here ∙ ap (λ xs. slice_index_or xs i Null) e ∙ there

pub arrays-by_rows : ArraysByRows
arrays-by_rows told a b a' b' bits bits' e p s q r =
    let long : len_of a ≡ len_of a' = rows-len a a' p in
    ext_get_or false bits bits' (q.size ∙ long ∙ sym r.size)
    (λ i h.
    let within : i < len_of a = omega (arith, q.size) in
    let left : row a i ≡ row a' i = rows-at a a' p i within in
    let right : row b i ≡ row b' i = rows-at b b' s i (omega (arith, e)) in
    let there = r.at_each i (omega (arith, long)) in
    told-same told _ _ (q.at_each i within) ((λ t. left ∙ there.0 t ∙ sym right), (λ x. there.1 (sym left ∙ x ∙ right))))
