-- What is known of dialogs holds of every run.
use Rattle.std.proofs.Common.{◌≡◌, ℕ, ◌+◌, ◌<◌, Bool, true, false, not, ◌&&◌, List, [], ◌∷◌, refl, arith, sym, subst}
use Rattle.std.proofs.Common.{◌∙◌, Option, Some, None}
use Rattle.spec_exchange.specs.Table.{put, is_filled}
use Rattle.spec_exchange.specs.Commands.{Command}
use Rattle.spec_exchange.specs.State.{Reply}
use Rattle.spec_exchange.specs.Client.{Client, Stage, Apart, SaidNegotiate, SaidFirst, SaidSecond, AskedTree, may_take}
use Rattle.spec_exchange.specs.Client.{may_push, goes_itself, has_its_slot, settle_no_slots, begun, outstanding, asked}
use Rattle.spec_exchange.specs.Client.{ends_at_cut, end_session, cut_channel}
use Rattle.spec_exchange.specs.Settling.{Heard as Hearing, Settles, GoesAgain, Attaches, EndsSession, heard, hear, is_awaited}
use Rattle.spec_exchange.specs.Dialogs.{DialogStep, GoesOn, Accepts, Binds, Readies, Refuses, dialog_step}
use Rattle.spec_exchange.specs.Dialogs.{dialog_message, stage_command, went_on}
use Rattle.spec_exchange.specs.ClientStep.{Pick, Act, pick_after, pick_act, some_unsettled, IsReady}
use Rattle.spec_exchange.specs.Network.{World, Event, Submit, Open, Push, Serve, Take, Cut, Drop, Restart, Crash, Wait}
use Rattle.spec_exchange.specs.Network.{Finish, Sent, Received, Token, ForDialog, ForOp, ForAttach, happens, changed}
use Rattle.spec_exchange.specs.Network.{later, may_open, may_serve, pushed_by, serve_front, absorb_front, take_reply}
use Rattle.spec_exchange.specs.Network.{took_by, dialog_took, op_took, behind_reply, run, start, Settings, dialog_ended}
use Rattle.law_sessions.specs.messages.Connections.{Connections, is_bound}
use Rattle.law_sessions.proofs.messages.Run.{both_ways, connections, goes_on_bound, ended_well}
use Rattle.law_sessions.proofs.messages.Reached.{on_every_run}
use Rattle.law_server.proofs.tables.Logic.{either}
use Rattle.law_sessions.specs.sessions.Sessions.{Sessions, is_work}
use Rattle.law_sessions.specs.sessions.Dialogs.{Dialogs, is_signed, IsClosed}
use Rattle.law_sessions.proofs.sessions.Table.{Keeps, keeps_so, keeps_no_slots, keeps_begun, keeps_asked}
use Rattle.law_sessions.proofs.sessions.Table.{keeps_answered, keeps_joined, keeps_settle}
use Rattle.law_sessions.proofs.sessions.Always.{sessions}
use Rattle.law_sessions.proofs.sessions.Channels.{Here, keeps}
use Rattle.law_sessions.proofs.sessions.Waiting.{AllUp, News, still_all_up}

-- ---- who the client is stays, and what it accepted it accepted

pub record Grows (c d : Client) : Type 0 where
  pub who : d.who ≡ c.who
  pub ranked : (x : ℕ) → 0 < c.rank x → 0 < d.rank x

by_keeps : (c d : Client) → Keeps c d → Grows c d
by_keeps c d k = record { who = k.same.who; ranked = λ x r. subst (λ f. 0 < f x) (sym k.same.rank) r }

grown : (c : Client) → Grows c c
grown c = record { who = refl; ranked = λ x r. r }

ranked_on : (f : ℕ → ℕ) (p n x : ℕ) → 0 < f x → 0 < put f p (n + 1) x
ranked_on f p n x r = grind arith

grows_op : (w : World) (k g s : ℕ) (c : Client) → Keeps w.client c
    → Grows w.client (pushed_by w k (pick_after c k (Some (record { op = g; slot = s })))
    (pick_act c k (Some (record { op = g; slot = s })))).client
grows_op w k g s c q =
    let P : Client → Act → Type 0 = λ d x. Grows w.client (pushed_by w k d x).client in
    both_ways P (may_push c k g) _ _ _ _
    (λ _. both_ways P (goes_itself c g) _ _ _ _
    (λ _. both_ways P (has_its_slot c g s) _ _ _ _ (λ _. by_keeps w.client (outstanding (begun c g s) k g)
    (keeps_so w.client c (outstanding (begun c g s) k g) q (keeps_begun c k g s))) (λ _. by_keeps w.client c q))
    (λ _. by_keeps w.client (asked c k g) (keeps_so w.client c (asked c k g) q (keeps_asked c k g))))
    (λ _. by_keeps w.client c q)

grows_pick : (w : World) (k : ℕ) (c : Client) (pick : Option Pick) → Keeps w.client c
    → Grows w.client (pushed_by w k (pick_after c k pick) (pick_act c k pick)).client
grows_pick w k c None q = either (λ x. Grows w.client (pushed_by w k c x).client) (some_unsettled c c.taken) _ _
    (λ _. by_keeps w.client c q) (λ _. by_keeps w.client c q)
grows_pick w k c (Some p) q = grows_op w k p.op p.slot c q

grows_push : (w : World) (k : ℕ) (slotless : List ℕ) (pick : Option Pick) → Grows w.client (changed w (Push k slotless pick)).client
grows_push w k slotless pick =
    both_ways (λ d x. Grows w.client (pushed_by w k d x).client) (w.client.ready k) _ _ _ _
    (λ _. grows_pick w k (settle_no_slots w.client k slotless) pick (keeps_no_slots w.client k slotless))
    (λ off. either (λ x. Grows w.client (pushed_by w k w.client x).client) (some_unsettled w.client w.client.taken) _ _
    (λ _. grown w.client) (λ _. grown w.client))

grows_hear : (c : Client) (g : ℕ) (asking : Bool) (r : Reply) (place : ℕ) (h : Hearing) → Grows c (hear c g asking r place h)
grows_hear c g asking r place (Settles o) = by_keeps c _ (keeps_settle c g asking r place o)
grows_hear c g asking r place GoesAgain = by_keeps c _ (keeps_answered c g)
grows_hear c g asking r place Attaches = by_keeps c _ (keeps_joined c g)
grows_hear c g asking r place EndsSession = record { who = refl; ranked = λ x r. r }

grows_ended : (w : World) (k session tree : ℕ) → Grows w.client (dialog_ended w k (IsReady k session tree)).client
grows_ended w k session tree =
    ended_well (λ v. Grows w.client v.client) w k session tree (λ _. record { who = refl; ranked = λ x r. r })
    (λ _ _. record { who = refl; ranked = λ x r. r }) (record { who = refl; ranked = λ x r. r })

grows_dialog : (w : World) (k : ℕ) (r : Reply) (d : DialogStep) → Grows w.client (dialog_took w k r d).client
grows_dialog w k r (GoesOn s) = record { who = refl; ranked = λ x r. r }
grows_dialog w k r Accepts = record { who = refl; ranked = ranked_on w.client.rank w.client.pending w.client.accepted_count }
grows_dialog w k r Binds = grows_ended w k w.client.session w.client.tree
grows_dialog w k r Readies = grows_ended w k w.client.pending r.tree_id
grows_dialog w k r (Refuses status) = record { who = refl; ranked = λ x r. r }

grows_take : (w : World) (k : ℕ) (ys : List Received) → Grows w.client (take_reply w k ys).client
grows_take w k [] = grown w.client
grows_take w k (y ∷ rest) = by y.token
  where
    op : (g : ℕ) (asking : Bool) → Grows w.client (op_took (behind_reply w k rest) k g asking y.reply y.place).client
    op g asking = either (λ d. Grows w.client d) (is_awaited w.client k g asking) _ _
        (λ _. grows_hear w.client g asking y.reply y.place (heard w.client g asking y.reply)) (λ _. grown w.client)

    by : (t : Token) → Grows w.client (took_by (behind_reply w k rest) k y.reply y.place t).client
    by ForDialog = grows_dialog (behind_reply w k rest) k y.reply (dialog_step (w.client.stage k) y.reply.status)
    by (ForOp g) = op g false
    by (ForAttach g) = op g true

grows_cut : (w : World) (k : ℕ) → Grows w.client (changed w (Cut k)).client
grows_cut w k =
    either (λ (v : World). Grows w.client v.client) (w.client.ready k) _ _
    (λ _. either (λ d. Grows w.client d) (w.client.ready k) _ _
    (λ _. either (λ d. Grows w.client d) (ends_at_cut w.client) (end_session w.client) (cut_channel w.client k)
    (λ _. record { who = refl; ranked = λ x r. r }) (λ _. record { who = refl; ranked = λ x r. r }))
    (λ _. grown w.client))
    (λ _. record { who = refl; ranked = λ x r. r })

pub same_served : (w : World) (k : ℕ) (xs : List Sent) → (serve_front w k xs).client ≡ w.client
same_served w k [] = refl
same_served w k (x ∷ rest) = refl

same_absorbed : (w : World) (k : ℕ) (xs : List Sent) → (absorb_front w k xs).client ≡ w.client
same_absorbed w k [] = refl
same_absorbed w k (x ∷ rest) = refl

pub crash_client : (w : World) (k : ℕ) (kept : Bool) → (changed w (Crash k kept)).client ≡ w.client
crash_client w k true = same_absorbed w k (w.conns k).up
crash_client w k false = refl

pub grows : (w : World) (e : Event) → Grows w.client (happens w e).client
grows w (Submit g op) = either (λ d. Grows w.client d) (may_take w.client g op) _ _ (λ _. record {
  who = refl;
  ranked = λ x r. r;
}) (λ _. grown w.client)
grows w (Open k) = either (λ (v : World). Grows w.client v.client) (may_open w k) _ _ (λ _. record {
  who = refl;
  ranked = λ x r. r;
}) (λ _. grown w.client)
grows w (Push k slotless pick) = either (λ (v : World). Grows w.client v.client) (w.client.ready k) _ _
    (λ _. grows_push w k slotless pick) (λ _. grown w.client)
grows w (Serve k) = either (λ (v : World). Grows w.client v.client) (may_serve w k)
    (later (serve_front w k (w.conns k).up) 1) w
    (λ _. subst (λ d. Grows w.client d) (sym (same_served w k (w.conns k).up)) (grown w.client)) (λ _. grown w.client)
grows w (Take k) = either (λ (v : World). Grows w.client v.client) ((w.conns k).client_open
    && is_filled (w.conns k).down) _ _ (λ _. grows_take w k (w.conns k).down) (λ _. grown w.client)
grows w (Cut k) = either (λ (v : World). Grows w.client v.client) (w.conns k).client_open _ _ (λ _. grows_cut w k) (λ _. grown w.client)
grows w (Drop k) = either (λ (v : World). Grows w.client v.client) (w.conns k).server_open _ _ (λ _. grown w.client) (λ _. grown w.client)
grows w Restart = grown w.client
grows w (Crash k kept) = either (λ (v : World). Grows w.client v.client) (may_serve w k) _ _
    (λ _. subst (λ d. Grows w.client d) (sym (crash_client w k kept)) (grown w.client)) (λ _. grown w.client)
grows w (Wait n) = grown w.client
grows w (Finish refusal) = either (λ (v : World). Grows w.client v.client) (not w.client.live) _ _ (λ _. record {
  who = refl;
  ranked = λ x r. r;
}) (λ _. grown w.client)

-- ---- signed messages

abbrev Signed : Client → Sent → Type 0
Signed d x = is_signed x.message.command ≡ true → 0 < d.rank x.message.session_id

work_unsigned : (c : Command) → is_work c ≡ true → is_signed c ≡ true → (P : Type 0) → P
unfolding is_work is_signed
work_unsigned c a b P = absurd (grind arith)

-- a dialog's message that is signed is of the client's session, which is live
signed_of : (c : Client) (k id : ℕ) (s : Stage) → is_signed (stage_command c s) ≡ true → is_bound s ≡ true
    × (dialog_message c k id s).session_id ≡ c.session
unfolding is_signed
signed_of c k id Apart e = absurd (cc)
signed_of c k id (SaidNegotiate b) e = absurd (cc)
signed_of c k id (SaidFirst true) e = (refl, refl)
signed_of c k id (SaidFirst false) e = absurd (cc)
signed_of c k id (SaidSecond true) e = (refl, refl)
signed_of c k id (SaidSecond false) e = absurd (cc)
signed_of c k id AskedTree e = absurd (cc)

live_ranked : (c : Client) → (0 < c.session_number → 0 < c.rank c.session) → (c.live ≡ true → 0 < c.session_number)
    → c.live ≡ true → 0 < c.rank c.session
live_ranked c a b l = a (b l)

signed_news : (w : World) (d : Client) → ((x : ℕ) → 0 < w.client.rank x → 0 < d.rank x)
    → ((k : ℕ) → is_bound (w.client.stage k) ≡ true → w.client.live ≡ true)
    → (w.client.live ≡ true → 0 < w.client.rank w.client.session) → News (Signed d) w
unfolding is_signed
signed_news w d grow bound ranked =
    record {
      work = λ t m a b. work_unsigned m.command a b _;
      first = λ k id b e. absurd (cc);
      next = λ k id r s e g.
          let p = signed_of (went_on w.client k s r) k id s g in
          subst (λ x. 0 < d.rank x) (sym p.1)
          (grow w.client.session (ranked (bound k (sym (goes_on_bound (w.client.stage k) s r.status e) ∙ p.0))));
      tree = λ k id e. absurd (cc);
    }

-- ---- on every run

pub record Known (z : Settings) (w : World) : Type 0 where
  pub here : Here w
  pub who : w.client.who ≡ z.who
  pub signed : AllUp (Signed w.client) w.conns

begins : (z : Settings) → Known z (start z)
begins z =
    record {
      here = record { channels = λ k. IsClosed refl refl refl refl; making = λ k e. absurd (cc) };
      who = refl;
      signed = λ k n x h. absurd (grind arith);
    }

more : (z : Settings) (w : World) (a : ℕ → ℕ) (e : Event) → Connections w.client w.conns a → Sessions w.client w.conns
    w.server → Known z w → Known z (happens w e)
more z w a e c s h =
    let g = grows w e in let d = (happens w e).client in
    record {
      here = keeps w e c.ready s.making (λ l. (s.live_accepted l).2) h.here;
      who = g.who ∙ h.who;
      signed = still_all_up (Signed d) w e
          (signed_news w d g.ranked c.stages
          (live_ranked w.client s.session_ranked (λ l. (s.numbered_sessions 0 0).2 l)))
          (λ k n x i q. g.ranked x.message.session_id (h.signed k n x i q));
    }

pub known : (z : Settings) (es : List Event) → Known z (run es (start z))
known z es = on_every_run (λ w a. Known z w) z (begins z) (λ xs e h. more z (run xs (start z)) _ e (connections z xs) (sessions z xs) h) es

pub dialogs : (z : Settings) (es : List Event) → Dialogs z.who (run es (start z)).client (run es (start z)).conns
dialogs z es = let k = known z es in record { who = k.who; channels = k.here.channels; making_talks = k.here.making; signed_up = k.signed }
