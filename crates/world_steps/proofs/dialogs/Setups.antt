-- The two SESSION_SETUPs of a dialog.
use Rattle.std.proofs.Common.{◌≡◌, ℕ, Bool, false, if◌then◌else◌, refl, sym, ap, subst, ◌∙◌}
use Rattle.std.proofs.Common.{List, slice_get, Option, Some, None, is_some}
use Rattle.client_ends.specs.dialog_calls.Turning.{SetupSaid, previous_in, session_in}
use Rattle.spec_commands.specs.ReplyOf.{reply_of}
use Rattle.spec_exchange.specs.Client.{Stage, SaidFirst, SaidNegotiate, SaidSecond}
use Rattle.spec_exchange.specs.Commands.{Command}
use Rattle.spec_exchange.specs.Dialogs.{dialog_message, told_session, went_on}
use Rattle.spec_exchange.specs.State.{Message, Reply}
use Rattle.client_ends.specs.ends.Shown.{IsStage}
use Rattle.client_ends.specs.declared.ends.config.Bound.{Bound}
use Rattle.client_ends.specs.declared.ends.dialog.Dialog.{Dialog}
use Rattle.client_ends.specs.declared.ends.dialog.Stage.{Stage as DialogStage}
use Rattle.client_ends.specs.declared.ends.dialog.Stage.TheVariants as stages
use Rattle.spec_wire.specs.declared.messages.header.Header.{Header}
use Rattle.spec_world.specs.Ends.{ClientEnd}
use Rattle.spec_world.specs.Sending.{setup_frame}
use Rattle.spec_world.specs.Settings.{WorldSettings}
use Rattle.spec_world.specs.World as bytes
use Rattle.spec_world.specs.World.{previous_of}
use Rattle.world_ends.specs.Channels.{IsChannelBinding, IsChannelFor, IsMaking, IsPrevious, seen_of, session_at}
use Rattle.world_ends.specs.declared.sides.Channel.{Channel}
use Rattle.world_ends.specs.declared.world.World.{World}
use Rattle.world_steps.proofs.dialogs.Faces.{Faces}
use Rattle.world_steps.proofs.dialogs.Popped.{facing}
use Rattle.world_steps.proofs.dialogs.Said.{Went, talk}
use Rattle.world_steps.proofs.dialogs.Stages.{bound_first, bound_greeting, first_as, greets_as, second_as}

-- the ids of a response are its header's
pub reply_session : (c : Command) (h : Header) (m : List ℕ) → (reply_of c h m).session_id ≡ h.session
unfolding reply_of
reply_session c h m = refl

pub reply_tree : (c : Command) (h : Header) (m : List ℕ) → (reply_of c h m).tree_id ≡ h.tree
unfolding reply_of
reply_tree c h m = refl

module _ (z : WorldSettings) (x : World) (w : bytes.World) (k : ℕ) (d : Dialog) (rest : Channel) (xs : List Channel) (f : Faces z x xs w)
    (there : slice_get xs k ≡ Some (facing d rest)) (c : Bool) where
  own_at : (o : Option Bound) → d.bound ≡ o → IsChannelFor k x.keys (seen_of w.values.client) d o
  own_at o e = subst (λ (v : Option Bound). IsChannelFor k x.keys (seen_of w.values.client) d v) e (talk z x w k d rest xs f there).own

  bound_at : (o : Option Bound) → d.bound ≡ o → c ≡ is_some d.bound → c ≡ is_some o
  bound_at o e same = same ∙ ap (λ (v : Option Bound). is_some v) e

  -- ---- the first one

  first_own : (r : Reply) (e : Dialog) (o : Option Bound) → d.bound ≡ o → d.stage ≡ stages.SaidNegotiate → e.stage ≡ stages.SaidFirst
      → e.previous ≡ d.previous → e.session ≡ d.session
      → IsChannelFor k x.keys (seen_of (went_on w.values.client k (SaidFirst c) r)) e o
  first_own r e None bound at now previous session =
      let m : IsMaking k (seen_of w.values.client) d = own_at None bound in
      let v = w.values.client in
      let before : d.previous ≡ v.accepted = subst (λ (s : DialogStage). IsPrevious s d.previous v.accepted) at m.previous in
      let none : d.session ≡ 0 = subst (λ (s : DialogStage). d.session ≡ session_at s v.pending) at m.session in
      record {
        making = m.making;
        apart = m.apart;
        previous = subst (λ (s : DialogStage). IsPrevious s e.previous v.accepted) (sym now) (previous ∙ before);
        session = subst (λ (s : DialogStage). e.session ≡ session_at s v.pending) (sym now) (session ∙ none);
      }
  first_own r e (Some b) bound at now previous session =
      let m : IsChannelBinding x.keys (seen_of w.values.client) b = own_at (Some b) bound in
      record { live = m.live; session = m.session; tree = m.tree; keys_are = m.keys_are; known = m.known }

  first_session : (o : Option Bound) → d.bound ≡ o → c ≡ is_some o → d.stage ≡ stages.SaidNegotiate
      → (if c then w.values.client.session else 0) ≡ session_in o d.session
  first_session None bound same at =
      let m : IsMaking k (seen_of w.values.client) d = own_at None bound in
      (λ t. if same t then w.values.client.session else 0)
      ∙ sym (subst (λ (s : DialogStage). d.session ≡ session_at s w.values.client.pending) at m.session)
  first_session (Some b) bound same at =
      let m : IsChannelBinding x.keys (seen_of w.values.client) b = own_at (Some b) bound in
      (λ t. if same t then w.values.client.session else 0) ∙ sym m.session

  previous_by : (o : Option Bound) → d.bound ≡ o → c ≡ is_some o → (o ≡ None → d.previous ≡ w.values.client.accepted)
      → previous_in o d.previous ≡ (if c then 0 else w.values.client.accepted)
  previous_by None bound same before = before refl ∙ (λ t. if sym same t then 0 else w.values.client.accepted)
  previous_by (Some b) bound same before = λ t. if sym same t then 0 else w.values.client.accepted

  before_at : (s : DialogStage) → d.stage ≡ s → ((p a : ℕ) → IsPrevious s p a → p ≡ a) → d.bound ≡ None
      → d.previous ≡ w.values.client.accepted
  before_at s at plain bound =
      let m : IsMaking k (seen_of w.values.client) d = own_at None bound in
      plain d.previous w.values.client.accepted
      (subst (λ (v : DialogStage). IsPrevious v d.previous w.values.client.accepted) at m.previous)

  pub first_went : (n : ClientEnd) (r : Reply) (token other : List ℕ) (e : Dialog) (frame : List ℕ)
      → (w.wires k).client_end.stage ≡ SaidNegotiate c → token ≡ other → SetupSaid d n (SaidFirst c) d.session token e frame
      → Went z x w k d rest xs f there n (SaidFirst c) r c other e frame
  first_went n r token other e frame stage same_token s =
      let v = w.values.client in
      let i = subst (λ (q : Stage). IsStage d.stage (is_some d.bound) q) stage (talk z x w k d rest xs f there).shown.stage in
      let at = greets_as d.stage (is_some d.bound) c i in
      let same = bound_greeting d.stage (is_some d.bound) c at i in
      let now = first_as e.stage (is_some e.bound) c s.1.stage in
      let m : Message = dialog_message (went_on v k (SaidFirst c) r) k n.purse.next (SaidFirst c) in
      let previous : previous_in d.bound d.previous ≡ previous_of (went_on v k (SaidFirst c) r) c =
      previous_by d.bound refl same (λ none. before_at stages.SaidNegotiate at (λ p a q. q) none) in
      record {
        asked = tt;
        shown = s.1;
        config = s.2.config;
        own = subst (λ (o : Option Bound). IsChannelFor k x.keys (seen_of (went_on v k (SaidFirst c) r)) e o) (sym s.2.bound)
            (first_own r e d.bound refl at now s.2.previous s.2.session);
        frame_is = s.0 m (record {
          number = refl;
          logon = first_session d.bound refl same at;
          tree = refl;
          sequence = refl;
          replay = refl;
        }) ∙ (λ t. setup_frame n (sym same t) (previous t) (same_token t) m);
      }

  -- ---- the second one, behind the response that tells the session

  told_is : (r : Reply) (told : ℕ) → told ≡ r.session_id → c ≡ false → told ≡ told_session w.values.client (SaidSecond c) r
  told_is r told e none = e ∙ (λ t. told_session w.values.client (SaidSecond (sym none t)) r)

  second_own : (r : Reply) (told : ℕ) (e : Dialog) (o : Option Bound) → d.bound ≡ o → c ≡ is_some o → told ≡ r.session_id
      → d.stage ≡ stages.SaidFirst → e.stage ≡ stages.SaidSecond → e.previous ≡ d.previous → e.session ≡ told
      → IsChannelFor k x.keys (seen_of (went_on w.values.client k (SaidSecond c) r)) e o
  second_own r told e None bound same tells at now previous session =
      let m : IsMaking k (seen_of w.values.client) d = own_at None bound in
      let v = w.values.client in
      let before : d.previous ≡ v.accepted = subst (λ (s : DialogStage). IsPrevious s d.previous v.accepted) at m.previous in
      record {
        making = m.making;
        apart = m.apart;
        previous = subst (λ (s : DialogStage). IsPrevious s e.previous v.accepted) (sym now) (previous ∙ before);
        session = subst (λ (s : DialogStage). e.session ≡ session_at s (told_session v (SaidSecond c) r)) (sym now)
            (session ∙ told_is r told tells same);
      }
  second_own r told e (Some b) bound same tells at now previous session =
      let m : IsChannelBinding x.keys (seen_of w.values.client) b = own_at (Some b) bound in
      record { live = m.live; session = m.session; tree = m.tree; keys_are = m.keys_are; known = m.known }

  second_session : (r : Reply) (told : ℕ) (o : Option Bound) → d.bound ≡ o → c ≡ is_some o → told ≡ r.session_id
      → (if c then w.values.client.session else told_session w.values.client (SaidSecond c) r) ≡ session_in o told
  second_session r told None bound same tells =
      (λ t. if same t then w.values.client.session else told_session w.values.client (SaidSecond c) r) ∙ sym (told_is r told tells same)
  second_session r told (Some b) bound same tells =
      let m : IsChannelBinding x.keys (seen_of w.values.client) b = own_at (Some b) bound in
      (λ t. if same t then w.values.client.session else told_session w.values.client (SaidSecond c) r) ∙ sym m.session

  pub second_went : (n : ClientEnd) (r : Reply) (told : ℕ) (token other : List ℕ) (e : Dialog) (frame : List ℕ)
      → (w.wires k).client_end.stage ≡ SaidFirst c → told ≡ r.session_id → token ≡ other
      → SetupSaid d n (SaidSecond c) told token e frame → Went z x w k d rest xs f there n (SaidSecond c) r c other e frame
  second_went n r told token other e frame stage tells same_token s =
      let v = w.values.client in
      let i = subst (λ (q : Stage). IsStage d.stage (is_some d.bound) q) stage (talk z x w k d rest xs f there).shown.stage in
      let at = first_as d.stage (is_some d.bound) c i in
      let same = bound_first d.stage (is_some d.bound) c at i in
      let now = second_as e.stage (is_some e.bound) c s.1.stage in
      let m : Message = dialog_message (went_on v k (SaidSecond c) r) k n.purse.next (SaidSecond c) in
      let previous : previous_in d.bound d.previous ≡ previous_of (went_on v k (SaidSecond c) r) c =
      previous_by d.bound refl same (λ none. before_at stages.SaidFirst at (λ p a q. q) none) in
      record {
        asked = tt;
        shown = s.1;
        config = s.2.config;
        own = subst (λ (o : Option Bound). IsChannelFor k x.keys (seen_of (went_on v k (SaidSecond c) r)) e o) (sym s.2.bound)
            (second_own r told e d.bound refl same tells at now s.2.previous s.2.session);
        frame_is = s.0 m (record {
          number = refl;
          logon = second_session r told d.bound refl same tells;
          tree = refl;
          sequence = refl;
          replay = refl;
        }) ∙ (λ t. setup_frame n (sym same t) (previous t) (same_token t) m);
      }
