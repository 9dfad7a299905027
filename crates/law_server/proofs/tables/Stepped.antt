-- One event of the server keeps what fits together, and owes sound records.
use Rattle.std.proofs.Common.{◌≡◌, inl, inr, ℕ, ◌+◌, Bool, true, nat_le, List, [], ◌∷◌, ◌++◌, length, sym, subst}
use Rattle.spec_exchange.specs.State.{Server, ServerEvent, Accept, Heard, End, Stop, Record, Answer}
use Rattle.spec_exchange.specs.Records.{entry_bytes, origin_at}
use Rattle.spec_exchange.specs.Step.{step, with_deadlines, max_connections, Ruling, Says, TakesIn, TurnsAway, TakesOut}
use Rattle.spec_exchange.specs.Step.{TakesAllOut, ruling, ruling_without_room, carried_out, connection_of, ends_with}
use Rattle.spec_exchange.specs.Step.{take_out, take_all_out}
use Rattle.law_server.specs.tables.Fits.{Fits, all_sound}
use Rattle.law_server.proofs.tables.Logic.{either}
use Rattle.law_server.proofs.tables.Doors.{Front, Rules, by_ruling}
use Rattle.law_server.proofs.tables.Found.{Facts}
use Rattle.law_server.proofs.tables.Checked.{checked, lesser}
use Rattle.law_server.proofs.tables.SessionEffects.{deadlines_keeps, forget_keeps}
use Rattle.law_server.proofs.tables.Applied.{connections_keeps, journal_keeps, end_if_named_keeps, applied_keeps, expired_keeps}
use Rattle.law_server.proofs.tables.Folded.{sound_more, sound_none}
use Rattle.law_server.proofs.tables.Sound.{sound_named, sound_expiry, sound_take_all, applied_sound}

-- ---- each ruling

abbrev pub RulingFacts : Server → Ruling → Type 0
RulingFacts s (Says m v) = Facts s m v
RulingFacts s (TakesIn k) = Unit {0}
RulingFacts s TurnsAway = Unit {0}
RulingFacts s (TakesOut k is_quiet) = Unit {0}
RulingFacts s (TakesAllOut is_quiet) = Unit {0}

ruled : (s : Server) (e : ServerEvent) → RulingFacts s (ruling s e)
ruled s (Heard m) = checked s m
ruled s (Accept k) = either (λ r. RulingFacts s r) (nat_le max_connections (length s.connections)) _ _ (λ _. tt) (λ _. tt)
ruled s (End k) = tt
ruled s Stop = tt

lesser_ruled : (s : Server) (r : Ruling) → RulingFacts s r → RulingFacts s (ruling_without_room r)
lesser_ruled s (Says m v) f = lesser s m v f
lesser_ruled s (TakesIn k) f = tt
lesser_ruled s TurnsAway f = tt
lesser_ruled s (TakesOut k is_quiet) f = tt
lesser_ruled s (TakesAllOut is_quiet) f = tt

pub ruling_facts : (s : Server) (e : ServerEvent) (r : Ruling) → Rules s e r → RulingFacts s r
ruling_facts s e r (inl q) = subst (λ x. RulingFacts s x) (sym q) (ruled s e)
ruling_facts s e r (inr q) = subst (λ x. RulingFacts s x) (sym q) (lesser_ruled s (ruling s e) (ruled s e))

pub take_out_keeps : (s : Server) (k now : ℕ) (is_quiet : Bool) → Fits s → Fits (take_out s k now is_quiet)
take_out_keeps s k now is_quiet i = forget_keeps _ k (end_if_named_keeps s now (ends_with s k) is_quiet i)

take_all_out_keeps : (s : Server) (ks : List ℕ) (now : ℕ) (is_quiet : Bool) → Fits s → Fits (take_all_out s ks now is_quiet)
unfolding take_all_out
take_all_out_keeps s [] now is_quiet i = i
take_all_out_keeps s (k ∷ ks) now is_quiet i = take_all_out_keeps (take_out s k now is_quiet) ks now is_quiet
    (take_out_keeps s k now is_quiet i)

carried_keeps : (s : Server) (now : ℕ) (r : Ruling) → Fits s → RulingFacts s r → Fits (carried_out s now r).server
carried_keeps s now (Says m v) i f = applied_keeps s m now v i f
carried_keeps s now (TakesIn k) i f = connections_keeps s (s.connections ++ k ∷ []) i
carried_keeps s now TurnsAway i f = i
carried_keeps s now (TakesOut k is_quiet) i f = take_out_keeps s k now is_quiet i
carried_keeps s now (TakesAllOut is_quiet) i f = take_all_out_keeps s s.connections now is_quiet i

carried_sound : (s : Server) (now : ℕ) (r : Ruling) → Fits s → RulingFacts s r → all_sound (carried_out s now r).records ≡ true
carried_sound s now (Says m v) i f = applied_sound s m now v i f
carried_sound s now (TakesIn k) i f = sound_none
carried_sound s now TurnsAway i f = sound_none
carried_sound s now (TakesOut k is_quiet) i f = sound_named s (origin_at k) (ends_with s k) is_quiet
carried_sound s now (TakesAllOut is_quiet) i f = sound_take_all s s.connections now is_quiet

-- ---- the step

pub front_fits : (s : Server) (now : ℕ) (e : ServerEvent) (t : Server) (front : List Record) → Front s now e t front
    → Fits s → Fits t × all_sound front ≡ true
front_fits s now e t front (inl q) i = (
  subst (λ u. Fits u) (sym q.0) (deadlines_keeps s now i),
  subst (λ rs. all_sound rs ≡ true) (sym q.1) sound_none,
)
front_fits s now e t front (inr q) i = (
  subst (λ u. Fits u) (sym q.2) (expired_keeps (with_deadlines s now) now q.0 q.1 (deadlines_keeps s now i)),
  subst (λ rs. all_sound rs ≡ true) (sym q.3) (sound_expiry (with_deadlines s now) (origin_at (connection_of e)) q.0),
)

abbrev pub Good : Answer → Type 0
Good A = Fits A.server × all_sound A.records ≡ true

pub stepped : (s : Server) (now : ℕ) (e : ServerEvent) → Fits s → Good (step s now e)
stepped s now e i =
    by_ruling Good s now e
    (λ t front r at rules. let a = front_fits s now e t front at i in let f = ruling_facts t e r rules in let A = carried_out t now r in (
      journal_keeps A.server (A.server.journal + entry_bytes (front ++ A.records)) (carried_keeps t now r a.0 f),
      sound_more front A.records a.1 (carried_sound t now r a.0 f),
    ))
