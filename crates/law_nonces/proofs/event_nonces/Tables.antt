-- What one event leaves of the numbers that sessions drew.
use Rattle.std.proofs.Common.{ℕ, inr, refl, sym, ◌∙◌, subst, Option, Some, None}
use Rattle.spec_exchange.specs.Commands.{Command, Aside}
use Rattle.spec_exchange.specs.Network.{answer_to}
use Rattle.spec_exchange.specs.State.{Server, Message, Accept, End, Heard}
use Rattle.spec_exchange.specs.Step.{step, with_deadlines, expire}
use Rattle.law_server.specs.tables.Fits.{Fits}
use Rattle.law_server.proofs.tables.Applied.{expired_keeps, journal_keeps}
use Rattle.law_server.proofs.tables.SessionEffects.{deadlines_keeps}
use Rattle.law_server.proofs.tables.Stepped.{stepped}
use Rattle.spec_world.specs.Ends.{Logons}
use Rattle.spec_world.specs.Lacking.{expired_alone}
use Rattle.law_nonces.proofs.negotiation.Making.{FaultFine, IsOther}
use Rattle.law_nonces.specs.server_nonces.Numbering.{key_sessions}
use Rattle.law_nonces.proofs.server_nonces.Drawing.{SameNumbers, accept_numbers, before_numbers, drew, end_numbers, same_draws, same_named}
use Rattle.law_nonces.proofs.server_nonces.Drawing.{written_numbers}
use Rattle.law_nonces.specs.event_nonces.Events.{AloneDraws, HeardDraws, IsFaultDenied, NonceTables, OtherDraws}

-- ---- a message

denied_fine : (fault : Option ℕ) → IsFaultDenied fault → FaultFine fault
denied_fine None denied = tt
denied_fine (Some status) denied = subst IsOther (sym denied) (record { fails = refl; ends = refl })

answer_fits : (s : Server) (now : ℕ) (m : Message) (c : Command) → Fits s → Fits (answer_to s now m c).server
answer_fits s now m (Aside status) i = i
answer_fits s now m c i = (stepped s now (Heard m) i).0

pub heard_draws : HeardDraws
heard_draws s L M now m drawn i denied keys =
    let d = drew s now m m.command drawn (key_sessions L) refl (denied_fine m.fault denied) i.fits i.draws i.named in
    record {
      on = d.on;
      keyed = d.keyed;
      behind = record {
        fits = answer_fits s now m m.command i.fits;
        draws = d.draws;
        named = λ y there. keys y ∙ d.named y there;
      };
    }

-- ---- what draws no number

same_tables : (s t : Server) (L : Logons) (drawn : ℕ → ℕ) → SameNumbers s t → Fits t → NonceTables s L drawn → NonceTables t L drawn
same_tables s t L drawn same fits i = record {
  fits = fits;
  draws = same_draws s t drawn same i.draws;
  named = same_named s t (key_sessions L) same i.named;
}

pub other_draws : OtherDraws
other_draws s L now k drawn i = (
  same_tables s (step s now (Accept k)).server L drawn (accept_numbers s now k) (stepped s now (Accept k) i.fits).0 i,
  same_tables s (step s now (End k)).server L drawn (end_numbers s now k) (stepped s now (End k) i.fits).0 i,
)

pub alone_draws : AloneDraws
alone_draws s t L now e o drawn i x =
    let u = expire (with_deadlines s now) o in
    let j = (expired_alone s now e o).journal in
    let numbers : SameNumbers s (expired_alone s now e o) = written_numbers s u j (before_numbers s now u (inr (o, x.is_due, refl))) in
    let fits : Fits (expired_alone s now e o) = journal_keeps u j
    (expired_keeps (with_deadlines s now) now o x.is_due (deadlines_keeps s now i.fits)) in
    subst (λ (v : Server). NonceTables v L drawn) (sym x.behind) (same_tables s (expired_alone s now e o) L drawn numbers fits i)
