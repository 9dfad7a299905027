use Rattle.std.proofs.Common.{not, ap}
use Rattle.spec_exchange.specs.Opens.{reads, writes, deletes}
use Rattle.store_opens.specs.share_modes.Sharing.{sharing_lacks}
use Rattle.store_opens.proofs.share_modes.Counting.{removed}
use Rattle.store_opens.proofs.share_modes.counts.ShareCounts.remove.Goals as goal

pub returns : goal.returns
returns c os s =
    record {
      readers = removed (λ o. reads o.access) c.args.one os c.reads.result _ _ c.reads.ensures s.readers c.down-self.ensures;
      writers = removed (λ o. writes o.access) c.args.one os c.writes.result _ _ c.writes.ensures s.writers c.down-self-2.ensures;
      deleters = removed (λ o. deletes o.access) c.args.one os c.deletes.result _ _ c.deletes.ensures s.deleters c.down-self-3.ensures;
      deny_read = removed (sharing_lacks 0x1) c.args.one os (not c.has_bit.result) _ _ (ap (λ b. not b) c.has_bit.ensures)
          s.deny_read c.down-self-4.ensures;
      deny_write = removed (sharing_lacks 0x2) c.args.one os (not c.has_bit-2.result) _ _ (ap (λ b. not b) c.has_bit-2.ensures)
          s.deny_write c.down-self-5.ensures;
      deny_delete = removed (sharing_lacks 0x4) c.args.one os (not c.has_bit-3.result) _ _ (ap (λ b. not b) c.has_bit-3.ensures)
          s.deny_delete c.down-self-6.ensures;
    }
