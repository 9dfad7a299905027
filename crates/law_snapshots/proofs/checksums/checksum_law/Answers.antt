use Rattle.law_snapshots.proofs.checksums.Changes.{changed, in_parts, small}
use Rattle.law_snapshots.proofs.checksums.checksum_law.Goals as goal

pub returns : goal.returns
returns c = record { parts = in_parts; changed = changed; small = small }
