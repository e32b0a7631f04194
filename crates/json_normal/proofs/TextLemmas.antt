-- A normal text tells normal forms apart.
use Rattle.std.proofs.Common.{◌≡◌, ℕ, ◌+◌, ◌↔◌, List, [], ◌++◌, Some, sym, ap, ◌∙◌, arith}
use Rattle.json.proofs.Printed.Trees.{value-json_tokens}
use Rattle.json.specs.Json.{Json, value}
use Rattle.json.specs.Lex.{tokens}
use Rattle.json.specs.Print.{print}
use Rattle.json.specs.Strict.{HasUniqueKeys}
use Rattle.json.specs.Token.{Token}
use Rattle.json.specs.Tree.{json_tokens, depth}
use Rattle.json_normal.specs.Normal.{normal, normal_text}
use Rattle.json_normal.specs.Same.{AreSame}
use Rattle.json_normal.proofs.SameLemmas.{forms_tell}
use Rattle.json_normal.proofs.WrittenLemmas.{text_reads_back}

-- values with the same tokens are one
same_trees : (j k : Json) → json_tokens j ≡ json_tokens k → j ≡ k
same_trees j k e =
    let d : ℕ = depth j + depth k in
    let p : Json × List Token = (j, []) in
    let q : Json × List Token = (k, []) in
    let a : value d (json_tokens j ++ []) ≡ Some p = value-json_tokens j d [] (omega arith) in
    let b : value d (json_tokens k ++ []) ≡ Some q = value-json_tokens k d [] (omega arith) in
    let both : value d (json_tokens j ++ []) ≡ value d (json_tokens k ++ []) = ap (λ ts. value d (ts ++ [])) e in
    let same : p ≡ q = cc in
    ap (λ (r : Json × List Token). r.0) same

same_forms : (j k : Json) → normal_text j ≡ normal_text k → normal j ≡ normal k
same_forms j k e = same_trees (normal j) (normal k) (sym (text_reads_back j) ∙ ap tokens e ∙ text_reads_back k)

pub texts_tell : (j k : Json) → HasUniqueKeys j → HasUniqueKeys k → AreSame j k ↔ (normal_text j ≡ normal_text k)
texts_tell j k u v = let told = forms_tell j k u v in (λ h. ap (λ n. print (json_tokens n)) (told.0 h), λ e. told.1 (same_forms j k e))
