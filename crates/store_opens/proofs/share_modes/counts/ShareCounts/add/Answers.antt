use Rattle.std.proofs.Common.{not, ap}
use Rattle.spec_exchange.specs.Opens.{reads, writes, deletes}
use Rattle.store_opens.specs.share_modes.Sharing.{sharing_lacks}
use Rattle.store_opens.proofs.share_modes.Counting.{added}
use Rattle.store_opens.proofs.share_modes.counts.ShareCounts.add.Goals as goal

pub returns : goal.returns
returns c os l s =
    record {
      readers = added (λ o. reads o.access) c.args.one os c.reads.result _ _ c.reads.ensures s.readers c.up-self.ensures l;
      writers = added (λ o. writes o.access) c.args.one os c.writes.result _ _ c.writes.ensures s.writers c.up-self-2.ensures l;
      deleters = added (λ o. deletes o.access) c.args.one os c.deletes.result _ _ c.deletes.ensures s.deleters c.up-self-3.ensures l;
      deny_read = added (sharing_lacks 0x1) c.args.one os (not c.has_bit.result) _ _ (ap (λ b. not b) c.has_bit.ensures)
          s.deny_read c.up-self-4.ensures l;
      deny_write = added (sharing_lacks 0x2) c.args.one os (not c.has_bit-2.result) _ _ (ap (λ b. not b) c.has_bit-2.ensures)
          s.deny_write c.up-self-5.ensures l;
      deny_delete = added (sharing_lacks 0x4) c.args.one os (not c.has_bit-3.result) _ _ (ap (λ b. not b) c.has_bit-3.ensures)
          s.deny_delete c.up-self-6.ensures l;
    }
