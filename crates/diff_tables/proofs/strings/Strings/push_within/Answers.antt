use Rattle.std.proofs.Common.{◌≡◌, ◌∙◌, ◌++◌, ◌∷◌, [], ap, sym, refl, length, arith, rules}
use Rattle.std.proofs.lemmas.Grind.{common_steps}
use Rattle.std.proofs.lemmas.List.{append-nil, append_assoc, nil_from_length}
use Rattle.std.specs.Prelude.{pos}
use Rattle.diff_tables.proofs.GroupLemmas.{string_pushed}
use Rattle.diff_tables.proofs.strings.Strings.push_within.Goals as goal

pub returns-clause-pushed : goal.returns-clause-pushed
returns-clause-pushed c = λ all old.
    let grown : c.extend_from_slice.new.self.items ≡ c.args.self.now.bytes.items ++ c.args.string.now = c.in_ok-extend_from_slice.ensures.items in
    let size : c.len-len.result ≡ length (c.args.self.now.bytes.items ++ c.args.string.now) = grind (arith, common_steps, grown) in
    let end : c.push.new.self.items ≡ c.args.self.now.far_ends.items ++ pos (length (c.args.self.now.bytes.items ++ c.args.string.now)) ∷ [] = rw (← size) (search rules) in
    string_pushed _ _ c.args.string.now all old grown
    (ap (λ l. c.args.self.now.ends.items ++ l) end ∙ sym (append_assoc c.args.self.now.ends.items c.args.self.now.far_ends.items (pos (length (c.args.self.now.bytes.items ++ c.args.string.now)) ∷ [])))

pub returns-in-Ok-clause-pushed : goal.returns-in-Ok-clause-pushed
returns-in-Ok-clause-pushed c = λ all old.
    let grown : c.extend_from_slice.new.self.items ≡ c.args.self.now.bytes.items ++ c.args.string.now = c.in_ok-extend_from_slice.ensures.items in
    let size : c.len-len.result ≡ length (c.args.self.now.bytes.items ++ c.args.string.now) = grind (arith, common_steps, grown) in
    let end : c.push_reserved.new.self.items ≡ c.args.self.now.ends.items ++ pos (length (c.args.self.now.bytes.items ++ c.args.string.now)) ∷ [] = rw (← size) (search rules) in
    let empty : length c.args.self.now.far_ends.items ≡ 0 = grind (arith, common_steps, c.args.self.now.far_ends.ok, c.is_empty.ensures, c.if-is_empty.true) in
    let none : c.args.self.now.far_ends.items ≡ [] = nil_from_length c.args.self.now.far_ends.items empty in
    string_pushed _ _ c.args.string.now all old grown (rw (end, none, append-nil, append-nil) refl)
