-- A check whose tags are one byte, the site's number: the site's tag vouches for any statement of at most 64 bytes.
use Rattle.std.specs.Prelude.{◌&&◌, length, ◌==◌, nat_le, slice_index}
use Rattle.std.proofs.Common.{leb-true}
use Rattle.checks.specs.Vouching.{Vouched, Short, both}

abbrev pub signed_by : Vouched
signed_by site m tag = nat_le (length m) 64 && (length tag == 1 && slice_index tag 0 == site)

pub Short-signed_by : Short signed_by
Short-signed_by site m tag e = leb-true (length m) 64 (both (nat_le (length m) 64) _ e)
