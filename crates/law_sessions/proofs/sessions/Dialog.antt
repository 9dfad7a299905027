-- What a dialog's response does.
use Rattle.std.proofs.Common.{eqb-true, ◌≡◌, ◌≢◌, ℕ, ◌≤◌, ◌<◌, ◌==◌, Bool, true, false, refl, arith, sym, ◌∙◌, ap, Some}
use Rattle.std.proofs.Common.{is_some, Option, None}
use Rattle.spec_exchange.specs.Table.{put}
use Rattle.spec_exchange.specs.Status.{success, more_processing_required}
use Rattle.spec_exchange.specs.State.{Server, Reply}
use Rattle.spec_exchange.specs.CheckSetup.{is_new, tree_in}
use Rattle.spec_exchange.specs.Opens.{id_of}
use Rattle.spec_exchange.specs.Client.{Client, Stage, Apart, SaidNegotiate, SaidFirst, SaidSecond, AskedTree, note_refusal, leave_dialog}
use Rattle.spec_exchange.specs.Dialogs.{GoesOn, Accepts, Binds, Readies, Refuses, dialog_step, dialog_message, stage_command, accepted}
use Rattle.spec_exchange.specs.Network.{Conn, World, ForDialog, dialog_took, send_up, one_cut, with_client}
use Rattle.law_sessions.specs.messages.Connections.{copies}
use Rattle.law_server.proofs.tables.Logic.{either}
use Rattle.law_sessions.specs.sessions.Sessions.{Sessions, makes_session, is_dialog, is_new_setup, is_tree_connect, logs_on}
use Rattle.law_sessions.specs.sessions.Sessions.{user_in, previous_in, logon_user}
use Rattle.law_sessions.proofs.sessions.WentOn.{went_on_keeps}
use Rattle.law_sessions.proofs.sessions.Told.{told_keeps}
use Rattle.law_sessions.proofs.sessions.Accepted.{accepted_keeps}
use Rattle.law_sessions.proofs.sessions.Bound.{bound_keeps}
use Rattle.law_sessions.proofs.sessions.Readied.{readied_keeps}
use Rattle.law_sessions.proofs.sessions.DialogOff.{dialog_off_keeps}
use Rattle.law_sessions.proofs.sessions.DialogSent.{dialog_sent_keeps}
use Rattle.spec_exchange.specs.Operations.{HadStatus}
use Rattle.law_sessions.proofs.messages.Run.{ended_well}

-- ---- the next message

dialog_command : (c : Client) (stage : Stage) → is_dialog (stage_command c stage) ≡ true
unfolding is_dialog
dialog_command c Apart = refl
dialog_command c (SaidNegotiate bound) = refl
dialog_command c (SaidFirst bound) = refl
dialog_command c (SaidSecond bound) = refl
dialog_command c AskedTree = refl

logon_command : (c : Client) (stage : Stage) → logs_on (stage_command c stage) ≡ true → user_in (stage_command c stage)
    ≡ logon_user c.who.logon
unfolding logs_on user_in
logon_command c Apart e = absurd (cc)
logon_command c (SaidNegotiate bound) e = absurd (cc)
logon_command c (SaidFirst bound) e = absurd (cc)
logon_command c (SaidSecond bound) e = refl
logon_command c AskedTree e = absurd (cc)

first_command : (c : Client) (stage : Stage) → stage ≡ SaidFirst false → is_new_setup (stage_command c stage) ≡ true
unfolding is_new_setup
first_command c stage e = ap (λ t. is_new_setup (stage_command c t)) e

second_command : (c : Client) (k id : ℕ) (stage : Stage) → stage ≡ SaidSecond false
    → is_new_setup (stage_command c stage) ≡ true × previous_in (stage_command c stage) ≡ c.accepted
    × (dialog_message c k id stage).session_id ≡ c.pending
unfolding is_new_setup previous_in
second_command c k id stage e = (
  ap (λ t. is_new_setup (stage_command c t)) e,
  ap (λ t. previous_in (stage_command c t))
      e,
  ap (λ t. (dialog_message c k id t).session_id) e,
)

tree_command : (c : Client) (k id : ℕ) (stage : Stage) → stage ≡ AskedTree → is_tree_connect (stage_command c stage)
    ≡ true × (dialog_message c k id stage).session_id ≡ c.pending
unfolding is_tree_connect
tree_command c k id stage e = (ap (λ t. is_tree_connect (stage_command c t)) e, ap (λ t. (dialog_message c k id t).session_id) e)

sends : (c : Client) (conns : ℕ → Conn) (s : Server) (k id : ℕ) (stage : Stage) → c.stage k ≡ stage → copies 0 (conns k)
    ≡ 0 → Sessions c conns s → Sessions c (put conns k (send_up (conns k) ForDialog (dialog_message c k id stage) 1)) s
sends c conns s k id stage at none i =
    dialog_sent_keeps c conns s k 1 (dialog_message c k id stage) none refl refl refl refl (dialog_command c stage) (logon_command c stage)
    (λ e. first_command c stage (sym at ∙ e)) (λ e. second_command c k id stage (sym at ∙ e))
    (λ e. tree_command c k id stage (sym at ∙ e)) i

put_stage : (f : ℕ → Stage) (k : ℕ) (stage : Stage) → put f k stage k ≡ stage
put_stage f k stage = grind arith

-- ---- its response

abbrev SessionsFit : World → Type 0
SessionsFit w = Sessions w.client w.conns w.server

turned_down : (w : World) (k : ℕ) (r : Reply) (status : ℕ) → SessionsFit w → SessionsFit (dialog_took w k r (Refuses status))
turned_down w k r status i = dialog_off_keeps w.client w.conns w.server k (note_refusal w.client k (HadStatus status)).refusals i

-- a dialog that ended well for nothing
failed : (w : World) (k : ℕ) → SessionsFit w → SessionsFit (one_cut (with_client w (leave_dialog w.client k)) k)
failed w k i = dialog_off_keeps w.client w.conns w.server k w.client.refusals i

not_making : (o : Option ℕ) (k : ℕ) → o ≡ None → o ≡ Some k → ⊥
not_making o k e f = absurd (grind arith)

not_second : (a : Stage) (b : Bool) → b ≡ true → a ≡ SaidSecond b → a ≢ SaidSecond false
not_second a b t e = λ q. absurd (grind arith)

-- a stage that tells no id and asks for no tree
went : (w : World) (k : ℕ) (stage : Stage) → copies 0 (w.conns k) ≡ 0 → (makes_session stage ≡ true → w.client.making
    ≡ Some k) → stage ≢ SaidSecond false → stage ≢ AskedTree → SessionsFit w
    → Sessions (record w.client { stage = put w.client.stage k stage })
    (put w.conns k (send_up (w.conns k) ForDialog (dialog_message (record w.client {
      stage = put w.client.stage k stage;
    }) k (w.conns k).next_id stage) 1)) w.server
went w k stage none from untold unasked i =
    sends (record w.client { stage = put w.client.stage k stage }) w.conns w.server k (w.conns k).next_id stage
    (put_stage w.client.stage k stage) none
    (went_on_keeps w.client w.conns w.server k stage none from untold unasked i)

no_first : (b : Bool) → SaidFirst b ≢ SaidSecond false
no_first b = λ e. absurd (cc)

no_tree : (b : Bool) → SaidFirst b ≢ AskedTree
no_tree b = λ e. absurd (cc)

bound_second : SaidSecond true ≢ SaidSecond false
bound_second = λ e. absurd (cc)

bound_tree : SaidSecond true ≢ AskedTree
bound_tree = λ e. absurd (cc)

-- what is known of the reply
pub record Tells (w : World) (k : ℕ) (r : Reply) : Type 0 where
  pub first : w.client.stage k ≡ SaidFirst false → r.status ≡ more_processing_required → w.client.rank r.session_id ≡ 0
      × 0 < r.session_id × r.session_id ≤ id_of w.server.epoch w.server.session_ids_given
  pub second : w.client.stage k ≡ SaidSecond false → r.status ≡ success
      → (0 < w.client.rank w.client.accepted → w.server.present w.client.accepted ≡ false)
      × ((j : ℕ) → is_new w.client.pending (w.server.making j) ≡ false)
  pub tree : w.client.stage k ≡ AskedTree → r.status ≡ success → w.server.present w.client.accepted ≡ true
      → is_some (tree_in (w.server.trees w.client.accepted) r.tree_id) ≡ true

pub took_dialog : (w : World) (k : ℕ) (r : Reply) → copies 0 (w.conns k) ≡ 0 → Tells w k r
    → ((o x : ℕ) → w.server.session_of_open o ≡ Some x → w.server.present x ≡ true) → SessionsFit w → (t : Stage)
    → w.client.stage k ≡ t → SessionsFit (dialog_took w k r (dialog_step t r.status))
took_dialog w k r none tells there i Apart at = turned_down w k r r.status i
took_dialog w k r none tells there i (SaidNegotiate bound) at =
    either (λ d. SessionsFit (dialog_took w k r d)) (r.status == success) (GoesOn (SaidFirst bound)) (Refuses r.status)
    (λ _. went w k (SaidFirst bound) none (λ m. i.making k (ap makes_session at ∙ m)) (no_first bound) (no_tree bound)
    i) (λ _. turned_down w k r r.status i)
took_dialog w k r none tells there i (SaidFirst true) at =
    either (λ d. SessionsFit (dialog_took w k r d)) (r.status == more_processing_required) (GoesOn (SaidSecond true)) (Refuses r.status)
    (λ _. went w k (SaidSecond true) none (λ m. absurd (cc)) bound_second bound_tree i) (λ _. turned_down w k r r.status i)
took_dialog w k r none tells there i (SaidFirst false) at =
    let c = record w.client { stage = put w.client.stage k (SaidSecond false); pending = r.session_id } in
    either (λ d. SessionsFit (dialog_took w k r d)) (r.status == more_processing_required) (GoesOn (SaidSecond false)) (Refuses r.status)
    (λ e. let u = tells.first at (eqb-true r.status more_processing_required e) in
    sends c w.conns w.server k (w.conns k).next_id (SaidSecond false) (put_stage w.client.stage k (SaidSecond false)) none
    (told_keeps w.client w.conns w.server k r.session_id none (i.making k (ap makes_session at)) u.0 u.1 u.2 i))
    (λ _. turned_down w k r r.status i)
took_dialog w k r none tells there i (SaidSecond true) at =
    either (λ d. SessionsFit (dialog_took w k r d)) (r.status == success) Binds (Refuses r.status)
    (λ _. ended_well SessionsFit w k w.client.session w.client.tree (λ live. bound_keeps w.client w.conns w.server k i)
    (λ dead newer. absurd (omega (arith, newer))) (failed w k i)) (λ _. turned_down w k r r.status i)
took_dialog w k r none tells there i (SaidSecond false) at =
    either (λ d. SessionsFit (dialog_took w k r d)) (r.status == success) Accepts (Refuses r.status)
    (λ e. let u = tells.second at (eqb-true r.status success e) in
    sends (accepted w.client k) w.conns w.server k (w.conns k).next_id AskedTree (put_stage w.client.stage k AskedTree) none
    (accepted_keeps w.client w.conns w.server k none at u.0 u.1 i))
    (λ _. turned_down w k r r.status i)
took_dialog w k r none tells there i AskedTree at =
    either (λ d. SessionsFit (dialog_took w k r d)) (r.status == success) Readies (Refuses r.status)
    (λ e. ended_well SessionsFit w k w.client.pending r.tree_id
    (λ live. absurd (not_making w.client.making k (i.live_accepted live).2 (i.making k (ap makes_session at))))
    (λ dead newer. readied_keeps w.client w.conns w.server k r none at (tells.tree at (eqb-true r.status success e)) there i) (failed w k i))
    (λ _. turned_down w k r r.status i)
