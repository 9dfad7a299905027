-- A dialog that begins.
use Rattle.std.proofs.Common.{◌≡◌, ℕ, true, Option, Some, None, sym, ap, ◌∙◌}
use Rattle.std.specs.Prelude.{is_some}
use Rattle.spec_wire.specs.credits.Purse.{after_spend, first_purse}
use Rattle.spec_exchange.specs.Network.{Token, ForDialog}
use Rattle.spec_exchange.specs.Table.{put}
use Rattle.spec_crypto.specs.declared.sessions.material.Keys.{Keys}
use Rattle.spec_world.specs.Ends.{ClientEnd, no_client_end}
use Rattle.spec_world.specs.Sending.{spent}
use Rattle.client_ends.specs.declared.ends.config.Bound.{Bound}
use Rattle.client_ends.specs.declared.ends.line.Line.{Line}
use Rattle.client_ends.specs.ends.Shown.{EndShowsTalk}
use Rattle.client_ends.specs.dialog_calls.Opening.{AreKeysOf}

pub same_keys : (o : Option Bound) (a b : Keys) → AreKeysOf o a → AreKeysOf o b → is_some o ≡ true → a ≡ b
same_keys None a b f g e = absurd cc
same_keys (Some bound) a b f g e = f ∙ sym g

-- whatever else an end has
pub spent_talk : (l : Line) (n : ClientEnd) → EndShowsTalk l (spent no_client_end 1 ForDialog) → n.purse ≡ after_spend 1 first_purse
    → n.awaited ≡ put (λ id. None) 0 (Some ForDialog) → EndShowsTalk l n
spent_talk l n s purse awaited = record {
  purse = purse ∙ s.purse;
  awaited = λ id. ap (λ (f : ℕ → Option Token). f id) awaited ∙ s.awaited id;
}
