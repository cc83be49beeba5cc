-- A table of keys vouches for what a site's own key has signed.
use Rattle.std.proofs.Common.{length}
use Rattle.std.proofs.lemmas.Bool.{le-leb, lt-ltb}
use Rattle.lms.proofs.Signing.{signed_is_valid}
use Rattle.checks.specs.Keys.{SignedIsVouched}

pub signed_is_vouched : SignedIsVouched
signed_is_vouched keys site k q C m at hq lc hm =
    rw (le-leb (length m) 64 hm, lt-ltb site 16 at.0, at.1) (signed_is_valid k.I k.x q C m k.identifier k.strings hq lc)
