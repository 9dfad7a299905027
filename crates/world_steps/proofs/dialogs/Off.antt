-- A dialog is refused.
use Rattle.std.proofs.Common.{◌≡◌, ℕ, ◌==◌, Bool, true, false, if◌then◌else◌, refl, sym, ap, subst, ◌∙◌, arith}
use Rattle.std.proofs.Common.{List, slice_get, Option, Some, None, is_some}
use Rattle.std.proofs.lemmas.Bool.Decides.{nat_tests}
use Rattle.client_events.specs.declared.event_calls.steps.Event.TheVariants as happens
use Rattle.law_client.proofs.table.Events.{keeps}
use Rattle.client_values.specs.outcomes.Meaning.{refusal_of}
use Rattle.client_events.specs.played_client.Holding.{PlayedSteps as Happens}
use Rattle.client_events.proofs.world_law.Events.{asks_on}
use Rattle.spec_exchange.specs.Client.{Apart, unmade}
use Rattle.spec_exchange.specs.ClientStep.{IsRefused}
use Rattle.spec_exchange.specs.Network.{client_off}
use Rattle.spec_exchange.specs.Table.{put}
use Rattle.client_ends.specs.declared.ends.dialog.Dialog.{Dialog}
use Rattle.wire_bytes.specs.declared.session_messages.refusal.Refusal.{Refusal as DialogRefusal}
use Rattle.spec_world.specs.Settings.{WorldSettings}
use Rattle.spec_world.specs.World as bytes
use Rattle.spec_world.specs.World.{client_end_off, dialog_off}
use Rattle.world_ends.specs.Channels.{ChannelSeen, ShowsChannel, seen_of}
use Rattle.world_ends.specs.Shown.{ShowsWorld}
use Rattle.world_ends.specs.declared.sides.Channel.{Channel}
use Rattle.world_ends.specs.declared.world.World.{World}
use Rattle.world_steps.specs.opening.Putting.{Becomes}
use Rattle.world_steps.specs.Lists.{ChangedAt, ClosesClient}
use Rattle.world_steps.proofs.Alike.{Alike, seen_alike}
use Rattle.world_steps.proofs.Closing.{client_closed, one_changed}
use Rattle.world_steps.specs.dialogs.Turned.{IsTalkClosed}
use Rattle.world_steps.proofs.dialogs.Faces.{Faces}
use Rattle.world_steps.proofs.dialogs.Near.{put_there}
use Rattle.world_steps.proofs.dialogs.Popped.{facing}

-- ---- what others see of a client that leaves a dialog

abbrev pub behind_leave : ChannelSeen → ℕ → ChannelSeen
behind_leave c k = record c { stage = put c.stage k Apart; making = unmade k c.making }

other_number : (n k : ℕ) → (n ≡ k → ⊥) → (n == k) ≡ false
other_number n k h = grind (arith, nat_tests)

still_made : (k j : ℕ) (m : Option ℕ) → (j ≡ k → ⊥) → m ≡ Some j → unmade k m ≡ Some j
still_made k j m other e = ap (unmade k) e ∙ ap (λ (b : Bool). if b then None else Some j) (other_number j k other)

pub leave_alike : (c : ChannelSeen) (k j : ℕ) → (j ≡ k → ⊥) → Alike j c (behind_leave c k)
leave_alike c k j other = record {
  ready = refl;
  stage = put_there c.stage k Apart j other;
  making = still_made k j c.making other;
  live = refl;
  session = refl;
  tree = refl;
  accepted = refl;
  pending = refl;
}

pub some_made : (k : ℕ) (m : Option ℕ) → is_some (unmade k m) ≡ true → is_some m ≡ true
some_made k None e = e
some_made k (Some j) e = refl

-- ---- the connection closes

pub closes : (d : Dialog) (rest x : Channel) → IsTalkClosed rest x → ClosesClient (facing d rest) x
closes d rest x c = record { client = c.client; server = c.server; up = c.up; down = c.down }

module _ (z : WorldSettings) (x : World) (w : bytes.World) (k : ℕ) (d : Dialog) (rest : Channel) (xs : List Channel) (f : Faces z x xs w)
    (there : slice_get xs k ≡ Some (facing d rest)) (unready : w.values.client.ready k ≡ false) where
  pub off_built : (y : World) (why : DialogRefusal) (closed : Channel) → IsTalkClosed rest closed
      → ChangedAt (Becomes closed) k xs y.channels.items → Happens x.client y.client (happens.Refused k why)
      → ShowsWorld z (record x { client = y.client; making = unmade k x.making; channels = y.channels }) (dialog_off w k (refusal_of why))
  off_built y why closed c placed happened =
      let v = w.values.client in
      let s = seen_of v in
      let e = IsRefused k (refusal_of why) in
      record {
        settings = f.settings;
        own = record {
          client = happened v e f.own.client f.own.kept refl;
          kept = keeps v e f.own.kept tt;
          asks = asks_on v e f.own.asks;
          who = f.own.who;
          accepted_is = f.own.accepted_is;
          making_is = ap (unmade k) f.own.making_is;
          apart = λ q. f.own.apart (some_made k x.making q);
        };
        session = f.session;
        server = f.server;
        moment = f.moment;
        draws = f.draws;
        places = f.places;
        channels = one_changed x.settings x.guid x.keys v.taken s (behind_leave s k) (Becomes closed) k xs y.channels.items w.values.conns
            w.wires (client_off (w.values.conns k)) (client_end_off (w.wires k)) (facing d rest) placed there
            (λ q becomes shown. subst (λ (i : Channel). ShowsChannel k x.settings x.guid x.keys v.taken (behind_leave s k)
            (client_off (w.values.conns k)) (client_end_off (w.wires k)) i) (sym becomes)
            (client_closed k x.settings x.guid x.keys v.taken s (behind_leave s k) (w.values.conns k) (w.wires k) (facing d rest) closed
            (closes d rest closed c) unready shown))
            (λ j q other shown. seen_alike j x.settings x.guid x.keys v.taken s (behind_leave s k) (w.values.conns j) (w.wires j) q
            (leave_alike s k j other) shown) (λ j other ready. ready) f.channels;
      }
