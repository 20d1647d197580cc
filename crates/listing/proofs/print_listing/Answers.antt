use Rattle.std.proofs.Common.{arith, sym, length-take-le}
use Rattle.listings.specs.ListingLength.{listing_within}
use Rattle.listing.proofs.print_listing.Goals as goal

pub slice_bounds-out-end : goal.slice_bounds-out-end
slice_bounds-out-end g c =
    let listed = c.list_site-n.ensures in listing_within _ _ (omega arith) (listed.value, listed.out_after)

pub slice_bounds-write_all-end : goal.slice_bounds-write_all-end
slice_bounds-write_all-end g c =
    let listed = c.list_site-n.ensures in
    sym (length-take-le _ _ (listing_within _ _ (omega arith) (listed.value, listed.out_after)))
