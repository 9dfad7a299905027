-- The header of a reply, by its number of bytes and its flags.
use Rattle.std.proofs.Common.{◌≡◌, ℕ, ◌+◌, Bool, true, false, if◌then◌else◌, List, length, sym, ap, ◌∙◌}
use Rattle.spec_wire.specs.messages.Places.{gap_to_8}
use Rattle.spec_wire.specs.declared.messages.header.Header.{Header}
use Rattle.spec_world.specs.Answering as answering
use Rattle.conn_core.specs.declared.reply_sealing.said.Said.{Said}
use Rattle.conn_core.specs.reply_sealing.Saying.{IsReplySaid}

abbrev due : Bool → Bool → answering.SaidReply → Header
due more signs r = let h = answering.said_header more r in if signs then record h { flags = h.flags + 8 } else h

by_signs : (signs : Bool) (h : Header) (flags : ℕ) → flags ≡ (if signs then h.flags + 8 else h.flags)
    → record h { flags = flags } ≡ (if signs then record h { flags = h.flags + 8 } else h)
by_signs true h flags e = ap (λ (n : ℕ). record h { flags = n }) e
by_signs false h flags e = ap (λ (n : ℕ). record h { flags = n }) e

pub header_due : (more signs : Bool) (s : Said) (r : answering.SaidReply) (next flags : ℕ) → IsReplySaid s r
    → next ≡ (if more then 64 + length s.body.now + gap_to_8 (64 + length s.body.now) else 0)
    → flags ≡ (if signs then s.header.flags + 8 else s.header.flags)
    → record s.header { next = next; flags = flags } ≡ due more signs r
header_due more signs s r next flags said n f =
    let size : 64 + length r.body ≡ 64 + length s.body.now = ap (λ (b : List ℕ). 64 + length b) said.body in
    let next_is : next ≡ (if more then answering.whole_size r else 0) =
    n ∙ ap (λ (k : ℕ). if more then k + gap_to_8 k else 0) (sym size) in
    let flags_are : flags ≡ (if signs then r.header.flags + 8 else r.header.flags) =
    f ∙ ap (λ (h : Header). if signs then h.flags + 8 else h.flags) (sym said.header) in
    ap (λ (h : Header). record h { next = next; flags = flags }) (sym said.header)
    ∙ (ap (λ (k : ℕ). record r.header { next = k; flags = flags }) next_is
    ∙ by_signs signs (answering.said_header more r) flags flags_are)
