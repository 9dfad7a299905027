use Rattle.std.proofs.Common.{sym, refl, ◌∙◌}
use Rattle.store_opens.proofs.share_modes.Counting.{admits_by}
use Rattle.store_opens.proofs.share_modes.counts.ShareCounts.admits.Goals as goal

pub returns : goal.returns
returns c os s =
    admits_by os c.args.access c.args.share _ _ _ _ _ _
    (c.is_open_to.ensures ∙ rw (c.reads.ensures, sym s.deny_read) refl)
    (c.is_open_to-2.ensures ∙ rw (c.writes.ensures, sym s.deny_write) refl)
    (c.is_open_to-3.ensures ∙ rw (c.deletes.ensures, sym s.deny_delete) refl)
    (c.has_room_for.ensures ∙ rw (c.has_bit.ensures, sym s.readers) refl)
    (c.has_room_for-2.ensures ∙ rw (c.has_bit-2.ensures, sym s.writers) refl)
    (c.has_room_for-3.ensures ∙ rw (c.has_bit-3.ensures, sym s.deleters) refl)
