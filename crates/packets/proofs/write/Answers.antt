use Rattle.std.proofs.Common.{rules}
use Rattle.packets.proofs.Sealed.{written_reads_back, statements_told_apart}
use Rattle.packets.proofs.write.Goals as goal

pub returns : goal.returns
returns c = record { value = search rules; after = search rules; back = written_reads_back; apart = statements_told_apart }
