use Rattle.polars_compare_equality.specs.SlotsLaws.{number_slots-as_long}
use Rattle.polars_tables_operations.proofs.calculating.calculate_in_order.Goals as goal

pub wrapping_sub-requires : goal.wrapping_sub-requires
wrapping_sub-requires g c = (c.type_bounds.static-T, number_slots-as_long g.T.Number.value _ _ c.requires)

pub wrapping_floor_div-requires : goal.wrapping_floor_div-requires
wrapping_floor_div-requires g c = (c.type_bounds.static-T, number_slots-as_long g.T.Number.value _ _ c.requires)

pub wrapping_trunc_div-requires : goal.wrapping_trunc_div-requires
wrapping_trunc_div-requires g c = (c.type_bounds.static-T, number_slots-as_long g.T.Number.value _ _ c.requires)

pub wrapping_mod-requires : goal.wrapping_mod-requires
wrapping_mod-requires g c = (c.type_bounds.static-T, number_slots-as_long g.T.Number.value _ _ c.requires)

pub legacy_div-requires : goal.legacy_div-requires
legacy_div-requires g c = number_slots-as_long g.T.Number.value _ _ c.requires

pub returns-in-Subtract : goal.returns-in-Subtract
returns-in-Subtract g c =
    let law = g.met.T.RowNumber in
    rw (c.in-Subtract.is, law.least_law, law.width_law) c.wrapping_sub.ensures.answers

pub returns-in-FloorDivide : goal.returns-in-FloorDivide
returns-in-FloorDivide g c =
    let law = g.met.T.RowNumber in
    rw (c.in-FloorDivide.is, law.least_law, law.width_law) c.wrapping_floor_div.ensures.answers

pub returns-in-TruncatedDivide : goal.returns-in-TruncatedDivide
returns-in-TruncatedDivide g c =
    let law = g.met.T.RowNumber in
    rw (c.in-TruncatedDivide.is, law.least_law, law.width_law) c.wrapping_trunc_div.ensures.answers

pub returns-in-Modulo : goal.returns-in-Modulo
returns-in-Modulo g c =
    let law = g.met.T.RowNumber in
    rw (c.in-Modulo.is, law.least_law, law.width_law) c.wrapping_mod.ensures.answers

pub returns-in-LegacyDivide : goal.returns-in-LegacyDivide
returns-in-LegacyDivide g c =
    let law = g.met.T.RowNumber in
    rw (c.in-LegacyDivide.is, law.least_law, law.width_law) c.legacy_div.ensures.answers
