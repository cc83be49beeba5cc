use Rattle.std.proofs.Common.{rules}
use Rattle.packets.proofs.Sealed.{sealed_reads_back, drafts_are_sealed}
use Rattle.packets.proofs.seal.Goals as goal

pub returns : goal.returns
returns c = record { value = search rules; after = search rules; back = sealed_reads_back; sealed = drafts_are_sealed }
