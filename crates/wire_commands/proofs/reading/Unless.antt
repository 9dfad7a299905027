-- A command of a body that reads, and of one that doesn't.
use Rattle.std.proofs.Common.{◌≡◌, false, Option, Some, None, sym, ap, ◌∙◌}
use Rattle.spec_wire.specs.declared.messages.error.MessageError.{MessageError}
use Rattle.spec_exchange.specs.Commands.{Command, Unreadable}
use Rattle.spec_wire.specs.declared.messages.header.Header.{Header}
use Rattle.spec_wire.specs.messages.SessionSetup.{SessionSetupRequestValue}
use Rattle.spec_commands.specs.CommandOf.{Told, unless, status_of, setup_of, setup_if, no_setup}

pub where_it_reads : (fault : Option MessageError) (c d : Command) → fault ≡ None → d ≡ c → d ≡ unless fault c
where_it_reads fault c d none is = is ∙ sym (ap (λ (e : Option MessageError). unless e c) none)

pub where_it_breaks : (fault : Option MessageError) (c d : Command) (e : MessageError) → fault ≡ Some e → d ≡ Unreadable
    (status_of e) → d ≡ unless fault c
where_it_breaks fault c d e some is = is ∙ sym (ap (λ (e : Option MessageError). unless e c) some)

pub ruleset reads_or_breaks = (where_it_reads, where_it_breaks)

pub setup_where_it_breaks : (t : Told) (h : Header) (fault : Option MessageError) (v : SessionSetupRequestValue)
    (c : Command) (e : MessageError)
    → fault ≡ Some e → c ≡ setup_of t h false no_setup → c ≡ setup_if t h fault v
setup_where_it_breaks t h fault v c e some is = is ∙ sym (ap (λ (f : Option MessageError). setup_if t h f v) some)
