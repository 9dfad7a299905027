-- What was prepared of an event stands on tables that show the state, and can be carried out with first deadlines.
use Rattle.std.proofs.Common.{ℕ}
use Rattle.spec_exchange.specs.State.{Accept, End, Heard, Message, Server, ServerEvent, Stop}
use Rattle.spec_exchange.specs.Step.{Ruling, Says, TakesAllOut, TakesIn, TakesOut, TurnsAway, with_deadlines}
use Rattle.spec_exchange.specs.Verdict.{Verdict}
use Rattle.store_opens.specs.open_table.Shown.{ShowsOpens}
use Rattle.server_checks.specs.Shown.{TablesShown}
use Rattle.server_checks.specs.declared.tables.Tables.{Tables}
use Rattle.server_effects.specs.Able.{Able}
use Rattle.server_effects.specs.prepared_event.Prepared.{AbleToCarry, IsPrepared, prepared_ruling}
use Rattle.server_effects.specs.declared.prepared_event.prepared.Prepared.{Prepared}
use Rattle.server_effects.specs.declared.prepared_event.prepared.Prepared.TheVariants as prepared
use Rattle.server_effects.specs.reserved.Room.{IsReadied}
use Rattle.server_effects.specs.declared.reserved.ready.Ready.TheVariants as readies
use Rattle.server_effects.specs.declared.reserved.ready.SetupReady.{SetupReady}
use Rattle.server_plan.specs.rulings.Rulings.{AbleToRule}

pub prepared_opens : (t : Tables) (s : Server) (now : ℕ) (e : ServerEvent) (p : Prepared) → IsPrepared t s now e p → ShowsOpens t.opens s
prepared_opens t s now (Heard m) (prepared.Says ready) h = h.others.opens
prepared_opens t s now (Accept c) (prepared.Says ready) h = h.opens
prepared_opens t s now (End c) (prepared.Says ready) h = h.opens
prepared_opens t s now Stop (prepared.Says ready) h = h.opens
prepared_opens t s now e (prepared.TakesIn connection) h = h.opens
prepared_opens t s now e prepared.TurnsAway h = h.opens
prepared_opens t s now e (prepared.TakesOut connection quiet) h = h.opens
prepared_opens t s now e (prepared.TakesAllOut quiet) h = h.opens

-- what `dated_effects_law` says of what can be carried out
abbrev pub AbleStill : Type 0
AbleStill = (s : Server) (now : ℕ) (m : Message) (v : Verdict) → Able s m v → Able (with_deadlines s now) m v

pub rule_still : AbleStill → (s : Server) (now : ℕ) (r : Ruling) → AbleToRule s r → AbleToRule (with_deadlines s now) r
rule_still law s now (Says m v) h = law s now m v h
rule_still law s now (TakesIn k) h = tt
rule_still law s now TurnsAway h = tt
rule_still law s now (TakesOut k q) h = tt
rule_still law s now (TakesAllOut q) h = tt

pub able_carried : (s : Server) (e : ServerEvent) (p : Prepared) → AbleToRule s (prepared_ruling e p) → AbleToCarry s e p
able_carried s (Heard m) (prepared.Says ready) h = h
able_carried s (Accept c) (prepared.Says ready) h = tt
able_carried s (End c) (prepared.Says ready) h = tt
able_carried s Stop (prepared.Says ready) h = tt
able_carried s e (prepared.TakesIn connection) h = tt
able_carried s e prepared.TurnsAway h = tt
able_carried s e (prepared.TakesOut connection quiet) h = tt
able_carried s e (prepared.TakesAllOut quiet) h = tt

-- a step of a logon is made ready on tables that show the state
pub step_shown : (t : Tables) (s : Server) (m : Message) (now : ℕ) (step : SetupReady) → IsReadied t s m now (readies.Setup step)
    → TablesShown t s
step_shown t s m now step h = record {
  opens = h.others.opens;
  files = h.files;
  sessions = h.others.sessions;
  share_is = h.others.share_is;
  room_is = h.others.room_is;
  encrypts_is = h.others.encrypts_is;
  address_is = h.others.address_is;
  version_is = h.others.version_is;
  journal_is = h.others.journal_is;
}
