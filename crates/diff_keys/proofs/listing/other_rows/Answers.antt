use Rattle.diff_keys.specs.Listing.{IsOther, IsUnset}
use Rattle.diff_keys.specs.RisingLaws.{listed_as}
use Rattle.diff_keys.proofs.ListingLemmas.{unset_others}
use Rattle.diff_keys.proofs.listing.other_rows.Goals as goal

pub returns : goal.returns
returns c =
    let flags = c.in_ok-is_listed.ensures in
    listed_as (IsUnset c.in_ok-is_listed.is_listed.items) (IsOther c.args.rows.now) c.args.count c.in_ok-others.others.items
    (unset_others c.args.rows.now c.args.count c.in_ok-is_listed.is_listed.items flags)
    (rw (c.deref.ensures.value, flags.count) at c.in_ok-others.ensures)
