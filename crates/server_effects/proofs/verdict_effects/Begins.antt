-- A session that begins behind the end of a previous one.
use Rattle.std.proofs.Common.{◌≡◌, ℕ, ◌==◌, Bool, true, false, if◌then◌else◌, Option, Some, None, refl, sym, ap, ◌∙◌}
use Rattle.spec_exchange.specs.Effects.{end_if_named}
use Rattle.spec_exchange.specs.State.{Message, Reply, Server, SetUp}
use Rattle.spec_exchange.specs.Status.{success}
use Rattle.law_server.proofs.tables.EndSession.{end_session_keeps}
use Rattle.law_server.specs.tables.Fits.{Fits}
use Rattle.server_checks.specs.declared.tables.Config.{Config}

pub named_keeps : (s : Server) (now : ℕ) (o : Option ℕ) (q : Bool) → Fits s → Fits (end_if_named s now o q)
named_keeps s now None q f = f
named_keeps s now (Some x) q f = end_session_keeps s x now q f

off : (b : Bool) (p : Bool) → p ≡ false → (if b then false else p) ≡ false
off true p e = refl
off false p e = e

pub still_absent : (s : Server) (now : ℕ) (o : Option ℕ) (q : Bool) (x : ℕ) → s.present x ≡ false
    → (end_if_named s now o q).present x ≡ false
still_absent s now None q x p = p
still_absent s now (Some y) q x p = off (x == y) (s.present x) p

-- the reply to a logon that succeeded
abbrev pub set_up_reply : Message → Bool → Reply
set_up_reply m sealed = record { status = success; session_id = m.session_id; tree_id = m.tree_id; body = SetUp sealed 1 }

pub sealed_as : (m : Message) (old new : Config) (sealed : Bool) → new ≡ old → sealed ≡ old.encrypts
    → set_up_reply m new.encrypts ≡ set_up_reply m sealed
sealed_as m old new sealed e h = ap (set_up_reply m) (ap (λ (c : Config). c.encrypts) e ∙ sym h)
