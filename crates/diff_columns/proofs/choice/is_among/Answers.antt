use Rattle.std.proofs.Common.{bytes_eq, sym, ◌∙◌}
use Rattle.std.proofs.lemmas.List.Folds.{Any-from_list_any, list_any-from_Any}
use Rattle.std.proofs.lemmas.Slice.Eq.{bytes_eq-Decides}
use Rattle.diff_columns.proofs.NameLemmas.{among_from_lent, lent_from_among}
use Rattle.diff_columns.proofs.choice.is_among.Goals as goal

pub returns : goal.returns
returns c =
    let name = c.args.name.now in
    let lent = c.args.names.now in (
      λ yes.
          let h = Any-from_list_any (λ x. bytes_eq x.now name) lent (sym c.contains.ensures.value ∙ yes) in
          among_from_lent lent name (h.0, h.1, h.2, h.3, (bytes_eq-Decides h.1.now name).0 h.4),
      λ there.
          let h = lent_from_among lent name there in
          c.contains.ensures.value ∙ list_any-from_Any (λ x. bytes_eq x.now name) lent (h.0, h.1, h.2, h.3, (bytes_eq-Decides h.1.now name).1 h.4),
    )
