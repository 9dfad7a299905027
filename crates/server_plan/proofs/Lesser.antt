-- Rulings that owe no record, and what stands in the place of one whose records don't fit, which owes none.
use Rattle.std.proofs.Common.{◌≡◌, ℕ, ◌&&◌, Bool, true, false, not, List, [], ◌∷◌, ◌++◌, Option, Some, None, is_some, refl, ap, ◌∙◌}
use Rattle.spec_exchange.specs.CheckCreate.{refused_by}
use Rattle.spec_exchange.specs.Commands.{Durable}
use Rattle.spec_exchange.specs.Effects.{apply, end_records, records_if_named}
use Rattle.spec_exchange.specs.Records.{origin_at, origin_of}
use Rattle.spec_exchange.specs.State.{Message, Origin, Record, Server}
use Rattle.spec_exchange.specs.Status.{disk_full}
use Rattle.spec_exchange.specs.Step.{Ruling, Says, TakesAllOut, TakesIn, TakesOut, TurnsAway, carried_out, ends_with}
use Rattle.spec_exchange.specs.Step.{ruling_without_room, take_all_records, take_out, without_room}
use Rattle.spec_exchange.specs.Verdict.{Alter, Begin, CloseOpen, DropTree, EndSession, KeepSlot, Make, PutRanges, Verdict}
use Rattle.server_plan.specs.owed_records.Owing.{may_owe}
use Rattle.server_plan.specs.Plans.{may_owe_by}

true_not : true ≡ false → ⊥
true_not h = cc

pub is_quiet : (q : Bool) → not q ≡ false → q ≡ true
is_quiet true h = refl
is_quiet false h = absurd (true_not h)

-- ---- sessions that end quietly

end_owes : (s : Server) (g : Origin) (x : ℕ) (q : Bool) → not q ≡ false → end_records s g x q ≡ []
unfolding end_records
end_owes s g x true h = refl
end_owes s g x false h = absurd (true_not h)

named_owes : (s : Server) (g : Origin) (o : Option ℕ) (q : Bool) → not q ≡ false → records_if_named s g o q ≡ []
named_owes s g None q h = refl
named_owes s g (Some x) q h = end_owes s g x q h

-- none is named, or it ends quietly
begin_owes : (s : Server) (g : Origin) (o : Option ℕ) (q : Bool) → (is_some o && not q) ≡ false → records_if_named s g o q ≡ []
begin_owes s g None q h = refl
begin_owes s g (Some x) q h = end_owes s g x q h

stop_owes : (ks : List ℕ) (s : Server) (now : ℕ) (q : Bool) → not q ≡ false → take_all_records s ks now q ≡ []
unfolding take_all_records
stop_owes [] s now q h = refl
stop_owes (k ∷ ks) s now q h =
    ap (λ (rs : List Record). rs ++ take_all_records (take_out s k now q) ks now q) (named_owes s (origin_at 0) (ends_with s k) q h)
    ∙ stop_owes ks (take_out s k now q) now q h

-- ---- rulings

verdict_owes : (s : Server) (m : Message) (now : ℕ) (v : Verdict) → may_owe v ≡ false → (apply s m now v).records ≡ []
verdict_owes s m now (Make r found action) h = absurd (true_not h)
verdict_owes s m now (KeepSlot o index number status elements) h = absurd (true_not h)
verdict_owes s m now (PutRanges o index number ranges elements) h = absurd (true_not h)
verdict_owes s m now (Alter o change body) h = absurd (true_not h)
verdict_owes s m now (CloseOpen o body) h = absurd (true_not h)
verdict_owes s m now (Begin session user previous r q) h = begin_owes s (origin_of m) previous q h
verdict_owes s m now (EndSession session q) h = end_owes s (origin_of m) session q h
verdict_owes s m now DropTree h = absurd (true_not h)
verdict_owes s m now _ h = refl

pub none_owed : (s : Server) (now : ℕ) (r : Ruling) → may_owe_by r ≡ false → (carried_out s now r).records ≡ []
none_owed s now (Says m v) h = verdict_owes s m now v h
none_owed s now (TakesIn k) h = refl
none_owed s now TurnsAway h = refl
none_owed s now (TakesOut k q) h = named_owes s (origin_at k) (ends_with s k) q h
none_owed s now (TakesAllOut q) h = stop_owes s.connections s now q h

-- ---- those without room

never : (b : Bool) → (b && false) ≡ false
never true = refl
never false = refl

refusal : (d : Option Durable) → may_owe (refused_by d disk_full) ≡ false
refusal None = refl
refusal (Some d) = refl

lesser_verdict : (v : Verdict) → may_owe (without_room v) ≡ false
lesser_verdict (Make r found action) = refusal r.durable
lesser_verdict (Begin session user previous r q) = never (is_some previous)
lesser_verdict _ = refl

lesser_ruling : (r : Ruling) → may_owe_by (ruling_without_room r) ≡ false
lesser_ruling (Says m v) = lesser_verdict v
lesser_ruling (TakesIn k) = refl
lesser_ruling TurnsAway = refl
lesser_ruling (TakesOut k q) = refl
lesser_ruling (TakesAllOut q) = refl

pub lesser_owes : (s : Server) (now : ℕ) (r : Ruling) → (carried_out s now (ruling_without_room r)).records ≡ []
lesser_owes s now r = none_owed s now (ruling_without_room r) (lesser_ruling r)
