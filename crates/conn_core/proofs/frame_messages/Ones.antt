-- One message, admitted in its turn or not.
use Rattle.std.proofs.Common.{◌≡◌, ℕ, Bool, not, ◌&&◌, List, Option, Some, None, Ok, Err, sym, subst}
use Rattle.spec_exchange.specs.Commands.{has_bit}
use Rattle.spec_wire.specs.messages.Header.{SpellsHeader}
use Rattle.spec_wire.specs.declared.messages.header.Header.{Header}
use Rattle.spec_wire.specs.declared.messages.header.Span.{Span}
use Rattle.spec_world.specs.Ends as ends
use Rattle.spec_world.specs.Messages.{header_in, heard_in}
use Rattle.spec_world.specs.Hearing as hearing
use Rattle.conn_core.specs.declared.conn.Conn.{Conn}
use Rattle.conn_core.specs.declared.frame_messages.checked.Checked.{Checked}
use Rattle.conn_core.specs.declared.end.ConnEnd.{ConnEnd}
use Rattle.conn_core.specs.frame_messages.Checking.{CheckAdmits, IsChecked, ChecksOne}
use Rattle.conn_core.proofs.frame_messages.Headers.{header_is}

by_admit : (k : ℕ) (guid : List ℕ) (o : Option ends.ConnEnd) (behind : ends.ServerEnd) (new : Conn) (c : hearing.Checked) (s : Span)
    (m : Checked) (done : Unit) → CheckAdmits k guid o behind new (Ok done) → IsChecked m c → m.span ≡ s
    → ChecksOne k guid o behind new c s (Ok m)
by_admit k guid None behind new c s m done a is place = (a, is, place)
by_admit k guid (Some why) behind new c s m done a is place = absurd a

by_refusal : (k : ℕ) (guid : List ℕ) (o : Option ends.ConnEnd) (behind : ends.ServerEnd) (new : Conn) (c : hearing.Checked) (s : Span)
    (e : ConnEnd) → CheckAdmits k guid o behind new (Err e) → ChecksOne k guid o behind new c s (Err e)
by_refusal k guid None behind new c s e a = absurd a
by_refusal k guid (Some why) behind new c s e a = a

pub one_goes : (k : ℕ) (guid : List ℕ) (h : Header) (x : List ℕ) (f : ends.ServerEnd) (sealed setup first : Bool) (new : Conn) (s : Span)
    (m : Checked) (done : Unit) → SpellsHeader x h → CheckAdmits k guid (hearing.turn_end f h) (hearing.behind_turn f h) new (Ok done)
    → m.header ≡ h → m.related ≡ (not first && has_bit h.flags 4)
    → m.fault ≡ hearing.fault_of f sealed setup (record { header = h; bytes = x }) → m.fails ≡ None → m.span ≡ s
    → ChecksOne k guid (hearing.turn_end f (header_in x)) (hearing.behind_turn f (header_in x)) new
    (hearing.checked_as f sealed setup first (heard_in x)) s (Ok m)
one_goes k guid h x f sealed setup first new s m done spells a header related fault fails place =
    subst (λ (g : Header). ChecksOne k guid (hearing.turn_end f g) (hearing.behind_turn f g) new
    (hearing.checked_as f sealed setup first (record { header = g; bytes = x })) s (Ok m)) (sym (header_is x h spells))
    (by_admit k guid (hearing.turn_end f h) (hearing.behind_turn f h) new
    (hearing.checked_as f sealed setup first (record { header = h; bytes = x })) s m done a
    (record { header = sym header; related = sym related; fault = sym fault; fails = fails }) place)

pub one_ends : (k : ℕ) (guid : List ℕ) (h : Header) (x : List ℕ) (f : ends.ServerEnd) (sealed setup first : Bool) (new : Conn) (s : Span)
    (e : ConnEnd) → SpellsHeader x h → CheckAdmits k guid (hearing.turn_end f h) (hearing.behind_turn f h) new (Err e)
    → ChecksOne k guid (hearing.turn_end f (header_in x)) (hearing.behind_turn f (header_in x)) new
    (hearing.checked_as f sealed setup first (heard_in x)) s (Err e)
one_ends k guid h x f sealed setup first new s e spells a =
    subst (λ (g : Header). ChecksOne k guid (hearing.turn_end f g) (hearing.behind_turn f g) new
    (hearing.checked_as f sealed setup first (record { header = g; bytes = x })) s (Err e)) (sym (header_is x h spells))
    (by_refusal k guid (hearing.turn_end f h) (hearing.behind_turn f h) new
    (hearing.checked_as f sealed setup first (record { header = h; bytes = x })) s e a)
