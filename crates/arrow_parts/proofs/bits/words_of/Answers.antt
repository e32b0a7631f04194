use Rattle.std.proofs.Common.{◌≡◌, ◌+◌, ◌*◌, ◌/◌, ◌%◌, [], ◌∷◌, ◌++◌, length, subst, arith}
use Rattle.arrow_parts.specs.ByteWords.{HaveBytes}
use Rattle.arrow_parts.proofs.ByteWordLemmas.{words-push}
use Rattle.arrow_parts.proofs.bits.words_of.Goals as goal

pub returns-clause-bits : goal.returns-clause-bits
returns-clause-bits c =
    let all : 8 * c.loop-k.k + length c.args.bytes.now % 8 ≡ length c.args.bytes.now = omega arith in
    rw (c.in_ok-push-2.ensures.items)
    (subst (λ n. HaveBytes c.args.bytes.now n (c.loop-k.words.items ++ c.few_bytes-2.result ∷ [])) all
    (words-push c.args.bytes.now c.loop-k.words.items c.loop-k.k (8 * (length c.args.bytes.now / 8)) (length c.args.bytes.now % 8) c.few_bytes-2.result c.loop-k.invariant.0 (omega arith) (omega arith) c.loop-k.invariant.1 c.few_bytes-2.ensures))
