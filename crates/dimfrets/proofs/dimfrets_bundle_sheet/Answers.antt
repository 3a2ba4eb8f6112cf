-- The word is that of the part, which has room in it.
use Rattle.dimfrets.proofs.dimfrets_bundle_sheet.Goals as goal

pub encode-requires : goal.encode-requires
encode-requires c = c.bundle_part-part.ensures.1
