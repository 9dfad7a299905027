-- What the client's side does keeps what holds of ends and endings: a request that goes up, a frame that is heard, a cut.
use Rattle.std.proofs.Common.{◌≡◌, ℕ, ◌+◌, ◌==◌, Bool, true, false, if◌then◌else◌, List, [], ◌∷◌, ◌++◌, refl}
use Rattle.std.proofs.Common.{arith, sym, ◌∙◌, ap, subst, length}
use Rattle.std.proofs.Common.{Option, Some, None}
use Rattle.std.proofs.lemmas.List.{length-append}
use Rattle.spec_exchange.specs.Table.{put}
use Rattle.spec_exchange.specs.Status.{success, more_processing_required}
use Rattle.spec_exchange.specs.State.{Server, Message}
use Rattle.spec_exchange.specs.Operations.{Refusal, BadToken, BadSignature, HadStatus}
use Rattle.spec_exchange.specs.Client.{Stage, Apart, SaidNegotiate, SaidFirst, SaidSecond, AskedTree}
use Rattle.spec_exchange.specs.ClientStep.{Act, Nothing, Sends, Asks, CloseChannel, CloseChannels, AllSettled, IsCut}
use Rattle.spec_exchange.specs.ClientStep.{IsReady, IsRefused, Hears, act}
use Rattle.spec_exchange.specs.Dialogs.{DialogStep, GoesOn, Accepts, Binds, Readies, Refuses, dialog_step}
use Rattle.spec_exchange.specs.Dialogs.{dialog_message, accepted, went_on}
use Rattle.spec_exchange.specs.Network.{Received, Token, ForDialog, ForOp, ForAttach, with_client}
use Rattle.spec_exchange.specs.Network.{cut_off}
use Rattle.spec_commands.specs.ReplyOf.{reply_of}
use Rattle.law_server.proofs.tables.Logic.{either}
use Rattle.spec_world.specs.Settings.{WorldSettings, ClientSettings}
use Rattle.spec_world.specs.Messages.{HeardMessage}
use Rattle.spec_world.specs.Ends.{ClientEnd, ServerEnd}
use Rattle.spec_world.specs.Answering.{Ending}
use Rattle.spec_world.specs.Sending.{line_frame, spent, sealed_on}
use Rattle.spec_world.specs.Dialog.{status_due, dialog_fault, has_form, choices_of, has_token, is_signed, last_fault}
use Rattle.spec_world.specs.Dialog.{first_refusal, unless, ended_on, accepted_end, bound_end, noted_heard, paid_in}
use Rattle.spec_world.specs.Dialog.{line_response, dialog_response}
use Rattle.spec_world.specs.World.{World, Wires, with_values, with_client_end, queued, line_sent}
use Rattle.spec_world.specs.World.{client_end_off, all_off, one_off, closed_wires, off_by, cut_wires, op_heard}
use Rattle.spec_world.specs.World.{line_heard, line_hears}
use Rattle.spec_world.specs.World.{dialog_off, noted_sent, setup_of, setup_sent, next_token}
use Rattle.spec_world.specs.World.{session_accepted, channel_bound, dialog_reply, dialog_wires, dialog_passed}
use Rattle.spec_world.specs.World.{dialog_hears, hears, behind_frame, take_frame, command_asked}
use Rattle.spec_world.specs.Statements.{IsWhole, IsVerified}
use Rattle.law_nonces.specs.negotiation.Keeping.{ClientFits, GreetingFits, MakingFits, IsSynced, AreWhole, AreVerified, NegotiationKeeps}
use Rattle.law_nonces.proofs.negotiation.Tables.{by_key, put_same, put_other, none_there, all_with, all_joined}
use Rattle.law_nonces.proofs.negotiation.Values.{ClientOnly, cut_only, ended_only, op_only, dialog_only, behind_only}

-- ---- the servers' ends are the same, the clients' fit, and each accepted response is whole and verified

pub record Moved (old : ℕ → Wires) (old_made : List Ending) (wires : ℕ → Wires) (made accepted : List Ending) : Type 0 where
  pub ends : (j : ℕ) → (wires j).server_end ≡ (old j).server_end
  pub fits : (j : ℕ) → ClientFits (wires j).client_end.stage (wires j).client_end.transcript
  pub made_is : made ≡ old_made
  pub verified : AreVerified accepted

abbrev pub MovedTo : World → World → Type 0
MovedTo w x = Moved w.wires w.made x.wires x.made x.accepted

pub moved_same : (w : World) → NegotiationKeeps w → MovedTo w w
moved_same w i = record { ends = λ j. refl; fits = λ j. (let h = i.fits j in h.client); made_is = refl; verified = i.accepted_whole }

-- one connection's client's end changes
pub one_moved : (old : ℕ → Wires) (old_made : List Ending) (wires : ℕ → Wires) (made accepted : List Ending) (k : ℕ) (u : Wires)
    → Moved old old_made wires made accepted → u.server_end ≡ (wires k).server_end → ClientFits u.client_end.stage
    u.client_end.transcript → Moved old old_made (put wires k u) made accepted
one_moved old old_made wires made accepted k u m same fit =
    record {
      ends = by_key (λ j v. v.server_end ≡ (old j).server_end) wires k u (same ∙ m.ends k) (λ j off. m.ends j);
      fits = by_key (λ j v. ClientFits v.client_end.stage v.client_end.transcript) wires k u fit (λ j off. m.fits j);
      made_is = m.made_is;
      verified = m.verified;
    }

-- from what the client's side moved, and values that only its side changed
pub keeps_from : (w x : World) → NegotiationKeeps w → MovedTo w x → ClientOnly w.values x.values → NegotiationKeeps x
keeps_from w x i m v =
    record {
      fits = λ j. (let old = i.fits j in record {
        client = m.fits j;
        greeting = subst (λ (f : ServerEnd). GreetingFits f.greeting) (sym (m.ends j)) old.greeting;
        making = subst (λ (f : ServerEnd). MakingFits f.making) (sym (m.ends j)) old.making;
      });
      synced = λ j. (let old = i.synced j in
          subst (λ (f : ServerEnd). IsSynced (x.values.conns j).server_open (x.values.server.making j) f)
          (sym (m.ends j))
          (subst (λ (s : Server). IsSynced (x.values.conns j).server_open (s.making j) (w.wires j).server_end) (sym v.server)
          (record { opened = λ e. v.opened j ∙ old.opened e; held = old.held })));
      made_whole = subst AreWhole (sym m.made_is) i.made_whole;
      accepted_whole = m.verified;
    }

-- ---- a request on a line

pub line_moved : (w x : World) (k : ℕ) (token : Token) (m : Message) (n : ℕ) → MovedTo w x → MovedTo w (line_sent x k token m n)
line_moved w x k token m n i =
    one_moved w.wires w.made x.wires x.made x.accepted k
    (queued (x.wires k) (sealed_on (spent (x.wires k).client_end n token)) (line_frame (x.wires k).client_end m n))
    i refl (i.fits k)

-- ---- ends that close

one_off_moved : (w x : World) (k : ℕ) → MovedTo w x → MovedTo w (one_off x k)
one_off_moved w x k i = one_moved w.wires w.made x.wires x.made x.accepted k (client_end_off (x.wires k)) i refl (i.fits k)

all_off_moved : (w x : World) → MovedTo w x → MovedTo w (all_off x)
all_off_moved w x i = record { ends = i.ends; fits = i.fits; made_is = i.made_is; verified = i.verified }

closed_moved : (w x : World) (k : ℕ) (a : Act) → MovedTo w x → MovedTo w (closed_wires x k a)
closed_moved w x k CloseChannels i = all_off_moved w x i
closed_moved w x k CloseChannel i = one_off_moved w x k i
closed_moved w x k Nothing i = i
closed_moved w x k (Sends g) i = i
closed_moved w x k (Asks g) i = i
closed_moved w x k AllSettled i = i

off_moved : (w x : World) (k : ℕ) (a : Act) → MovedTo w x → MovedTo w (off_by x k a)
off_moved w x k CloseChannels i = all_off_moved w x i
off_moved w x k CloseChannel i = one_off_moved w x k i
off_moved w x k Nothing i = one_off_moved w x k i
off_moved w x k (Sends g) i = one_off_moved w x k i
off_moved w x k (Asks g) i = one_off_moved w x k i
off_moved w x k AllSettled i = one_off_moved w x k i

pub cut_keeps : (w : World) (k : ℕ) → NegotiationKeeps w → NegotiationKeeps (cut_wires w k)
cut_keeps w k i =
    either NegotiationKeeps (w.values.client.ready k) (with_values (off_by w k (act w.values.client (IsCut k)))
    (cut_off w.values k)) (with_values (one_off w k) (cut_off w.values k))
    (λ _. keeps_from w (with_values (off_by w k (act w.values.client (IsCut k))) (cut_off w.values k)) i
    (off_moved w w k (act w.values.client (IsCut k)) (moved_same w i)) (cut_only w.values k))
    (λ _. keeps_from w (with_values (one_off w k) (cut_off w.values k)) i (one_off_moved w w k (moved_same w i)) (cut_only w.values k))

-- ---- a line's reply

end_moved : (w x : World) (k : ℕ) (n : ClientEnd) → MovedTo w x → ClientFits n.stage n.transcript → MovedTo w (with_client_end x k n)
end_moved w x k n i fit = one_moved w.wires w.made x.wires x.made x.accepted k (record (x.wires k) { client_end = n }) i refl fit

op_keeps : (w : World) (k g : ℕ) (asking : Bool) (x : HeardMessage) (place : ℕ) → NegotiationKeeps w
    → NegotiationKeeps (op_heard w k g asking x place)
op_keeps w k g asking x place i =
    let old = i.fits k in
    let r = reply_of (command_asked w.values.client g asking) x.header x.bytes in
    keeps_from w (op_heard w k g asking x place) i
    (closed_moved w (with_client_end w k (paid_in (w.wires k).client_end x.header)) k
    (act w.values.client (Hears k g asking r place)) (end_moved w w k (paid_in (w.wires k).client_end x.header)
    (moved_same w i) old.client))
    (op_only w.values k g asking r place)

line_heard_keeps : (w : World) (k : ℕ) (x : HeardMessage) (place : ℕ) (o : Option Token) → NegotiationKeeps w
    → NegotiationKeeps (line_heard w k x place o)
line_heard_keeps w k x place None i = cut_keeps w k i
line_heard_keeps w k x place (Some ForDialog) i = cut_keeps w k i
line_heard_keeps w k x place (Some (ForOp g)) i = op_keeps w k g false x place i
line_heard_keeps w k x place (Some (ForAttach g)) i = op_keeps w k g true x place i

line_keeps : (w : World) (k place : ℕ) (o : Option HeardMessage) → NegotiationKeeps w → NegotiationKeeps (line_hears w k place o)
line_keeps w k place None i = cut_keeps w k i
line_keeps w k place (Some x) i = line_heard_keeps w k x place ((w.wires k).client_end.awaited x.header.message) i

-- ---- a dialog's response: what a fault's absence says

signed_of : (a : Bool) (b : Option Refusal) (c d : Bool) (e : Option Refusal)
    → first_refusal (unless a BadToken)
    (first_refusal b (first_refusal (unless c BadToken) (first_refusal (unless d BadSignature) e))) ≡ None → d
    ≡ true
signed_of true None true true e h = refl
signed_of true None true false e h = absurd (let q : Some BadSignature ≡ None = h in cc)
signed_of true None false d e h = absurd (let q : Some BadToken ≡ None = h in cc)
signed_of true (Some why) c d e h = absurd (let q : Some why ≡ None = h in cc)
signed_of false b c d e h = absurd (let q : Some BadToken ≡ None = h in cc)

no_fault_signed : (c : ClientSettings) (n : ClientEnd) (stage : Stage) (x : HeardMessage) → dialog_fault c n stage x ≡ None
    → is_signed n stage x.bytes ≡ true
no_fault_signed c n stage x e =
    signed_of (has_form n stage x) (choices_of c stage x.bytes) (has_token c n stage x.bytes)
    (is_signed n stage x.bytes) (last_fault n stage x) e

-- an accepted response is whole and verified
ended_verified : (accepted : List Ending) (n : ClientEnd) (x : HeardMessage) (bound : Bool) → AreVerified accepted
    → ClientFits (SaidSecond bound) n.transcript → is_signed n (SaidSecond bound) x.bytes ≡ true
    → AreVerified (accepted ++ ended_on n x bound ∷ [])
ended_verified accepted n x true all fit signed =
    all_joined (λ a. IsWhole a × IsVerified a) accepted (ended_on n x true ∷ []) all
    (all_with (λ a. IsWhole a × IsVerified a) (ended_on n x true) [] (record { five = fit; value = refl }, signed)
    (none_there (λ a. IsWhole a × IsVerified a)))
ended_verified accepted n x false all fit signed =
    all_joined (λ a. IsWhole a × IsVerified a) accepted (ended_on n x false ∷ []) all
    (all_with (λ a. IsWhole a × IsVerified a) (ended_on n x false) [] (record { five = fit; value = refl }, signed)
    (none_there (λ a. IsWhole a × IsVerified a)))

-- ---- its next message

two_more : (n : ℕ) (t : List (List ℕ)) (b c : List ℕ) → length t ≡ n → length ((t ++ b ∷ []) ++ c ∷ []) ≡ n + 2
two_more n t b c e = length-append (t ++ b ∷ []) (c ∷ []) ∙ ap (λ x. x + 1) (length-append t (b ∷ [])) ∙ omega (arith, e)

setup_moved : (w x : World) (k : ℕ) (stage : Stage) (bound : Bool) (token : List ℕ) → MovedTo w x
    → ((c : List ℕ) → ClientFits stage ((x.wires k).client_end.transcript ++ c ∷ []))
    → MovedTo w (setup_sent x k stage bound token)
setup_moved w x k stage bound token i fit =
    let u = x.wires k in
    let frame = setup_of x k stage bound token in
    one_moved w.wires w.made x.wires x.made x.accepted k
    (queued u (noted_sent (spent u.client_end 1 ForDialog) stage frame) frame) i refl (fit frame)

-- a SESSION_SETUP goes out behind a response that went into the transcript; between the two the end fits no stage
twice_moved : (w v : World) (k : ℕ) (a : Wires) (stage : Stage) (bound : Bool) (token : List ℕ) → NegotiationKeeps w → v.wires
    ≡ put w.wires k a → v.made ≡ w.made → v.accepted ≡ w.accepted
    → a.server_end ≡ (w.wires k).server_end → ((c : List ℕ) → ClientFits stage (a.client_end.transcript ++ c ∷ []))
    → MovedTo w (setup_sent v k stage bound token)
twice_moved w v k a stage bound token i is made accepted_is far fit =
    let u = v.wires k in
    let frame = setup_of v k stage bound token in
    let new = queued u (noted_sent (spent u.client_end 1 ForDialog) stage frame) frame in
    let here : u ≡ a = ap (λ f. f k) is ∙ put_same w.wires k a in
    let there : (j : ℕ) → (j == k) ≡ false → v.wires j ≡ w.wires j = λ j off. ap (λ f. f j) is ∙ put_other w.wires k j a off in
    record {
      ends = by_key (λ j t. t.server_end ≡ (w.wires j).server_end) v.wires k new (ap (λ (t : Wires). t.server_end) here
          ∙ far) (λ j off. ap (λ (t : Wires). t.server_end) (there j off));
      fits = by_key (λ j t. ClientFits t.client_end.stage t.client_end.transcript) v.wires k new
          (subst (λ (t : Wires). ClientFits stage (t.client_end.transcript ++ frame ∷ [])) (sym here) (fit frame))
          (λ j off. subst (λ (t : Wires). ClientFits t.client_end.stage t.client_end.transcript) (sym (there j off))
          (let h = i.fits j in h.client));
      made_is = made;
      verified = subst AreVerified (sym accepted_is) i.accepted_whole;
    }

abbrev noted_wires : World → ℕ → Stage → HeardMessage → Wires
noted_wires w k stage x = record (w.wires k) { client_end = noted_heard (w.wires k).client_end stage x }

abbrev noted_world : World → ℕ → Stage → Stage → HeardMessage → World
noted_world w k stage next x =
    with_client_end (with_values w (with_client w.values (went_on w.values.client k next (dialog_reply w stage x)))) k
    (noted_heard (w.wires k).client_end stage x)

goes_moved : (w : World) (k : ℕ) (stage next : Stage) (bound : Bool) (x : HeardMessage) (token : List ℕ) → NegotiationKeeps w
    → ((c : List ℕ) → ClientFits next (((w.wires k).client_end.transcript ++ x.bytes ∷ []) ++ c ∷ []))
    → MovedTo w (setup_sent (noted_world w k stage next x) k next bound token)
goes_moved w k stage next bound x token i fit = twice_moved w (noted_world w k stage next x) k (noted_wires w k stage x)
    next bound token i refl refl refl refl fit

-- ---- a session is accepted, or a channel is bound

accepts_moved : (w : World) (k : ℕ) (x : HeardMessage) → NegotiationKeeps w → ClientFits (SaidSecond false)
    (w.wires k).client_end.transcript → is_signed (w.wires k).client_end (SaidSecond false) x.bytes ≡ true
    → MovedTo w (session_accepted w k x)
accepts_moved w k x i fit signed =
    let n = (w.wires k).client_end in
    one_moved w.wires w.made w.wires w.made (w.accepted ++ ended_on n x false ∷ []) k (record (w.wires k) {
      client_end = accepted_end n x w.values.client.pending;
    })
    (record {
      ends = λ j. refl;
      fits = λ j. (let h = i.fits j in h.client);
      made_is = refl;
      verified = ended_verified w.accepted n x false i.accepted_whole fit signed;
    }) refl tt

binds_moved : (w : World) (k : ℕ) (x : HeardMessage) → NegotiationKeeps w → ClientFits (SaidSecond true) (w.wires k).client_end.transcript
    → is_signed (w.wires k).client_end (SaidSecond true) x.bytes ≡ true → MovedTo w (channel_bound w k x)
binds_moved w k x i fit signed =
    let n = (w.wires k).client_end in
    one_moved w.wires w.made w.wires w.made (w.accepted ++ ended_on n x true ∷ []) k (record (w.wires k) {
      client_end = bound_end n x (w.numbers + 1);
    })
    (record {
      ends = λ j. refl;
      fits = λ j. (let h = i.fits j in h.client);
      made_is = refl;
      verified = ended_verified w.accepted n x true i.accepted_whole fit signed;
    }) refl tt

-- ---- a response by its stage: the status is the due one, or it refuses

abbrev Passes : WorldSettings → World → ℕ → Stage → HeardMessage → DialogStep → Type 0
Passes z w k stage x s = MovedTo w (dialog_wires z w k stage x s)

refused_moved : (z : WorldSettings) (w : World) (k : ℕ) (stage : Stage) (x : HeardMessage) (status : ℕ) → NegotiationKeeps w
    → Passes z w k stage x (Refuses status)
refused_moved z w k stage x status i = closed_moved w w k (act w.values.client (IsRefused k (HadStatus status))) (moved_same w i)

passed_moved : (z : WorldSettings) (w : World) (k : ℕ) (stage : Stage) (x : HeardMessage) → NegotiationKeeps w
    → ClientFits stage (w.wires k).client_end.transcript
    → ((x.header.status == status_due stage) ≡ true → is_signed (w.wires k).client_end stage x.bytes ≡ true)
    → Passes z w k stage x (dialog_step stage x.header.status)
passed_moved z w k Apart x i fit signed = refused_moved z w k Apart x x.header.status i
passed_moved z w k (SaidNegotiate bound) x i fit signed =
    either (Passes z w k (SaidNegotiate bound) x) (x.header.status == success) (GoesOn (SaidFirst bound)) (Refuses x.header.status)
    (λ _. goes_moved w k (SaidNegotiate bound) (SaidFirst bound) bound x
    (next_token z (w.wires k).client_end (SaidFirst bound) x.bytes) i
    (λ c. two_more 1 (w.wires k).client_end.transcript x.bytes c fit))
    (λ _. refused_moved z w k (SaidNegotiate bound) x x.header.status i)
passed_moved z w k (SaidFirst bound) x i fit signed =
    either (Passes z w k (SaidFirst bound) x) (x.header.status == more_processing_required) (GoesOn (SaidSecond bound))
    (Refuses x.header.status)
    (λ _. goes_moved w k (SaidFirst bound) (SaidSecond bound) bound x
    (next_token z (w.wires k).client_end (SaidSecond bound) x.bytes) i
    (λ c. two_more 3 (w.wires k).client_end.transcript x.bytes c fit))
    (λ _. refused_moved z w k (SaidFirst bound) x x.header.status i)
passed_moved z w k (SaidSecond true) x i fit signed =
    either (Passes z w k (SaidSecond true) x) (x.header.status == success) Binds (Refuses x.header.status)
    (λ ok. closed_moved w (channel_bound w k x) k
    (act w.values.client (IsReady k w.values.client.session w.values.client.tree))
    (binds_moved w k x i fit (signed ok)))
    (λ _. refused_moved z w k (SaidSecond true) x x.header.status i)
passed_moved z w k (SaidSecond false) x i fit signed =
    either (Passes z w k (SaidSecond false) x) (x.header.status == success) Accepts (Refuses x.header.status)
    (λ ok. line_moved w (session_accepted w k x) k ForDialog (dialog_message (accepted w.values.client k) k
    ((session_accepted w k x).wires k).client_end.purse.next AskedTree) 1 (accepts_moved w k x i fit (signed ok)))
    (λ _. refused_moved z w k (SaidSecond false) x x.header.status i)
passed_moved z w k AskedTree x i fit signed =
    either (Passes z w k AskedTree x) (x.header.status == success) Readies (Refuses x.header.status)
    (λ _. closed_moved w (with_client_end w k (record (paid_in (w.wires k).client_end x.header) { stage = Apart })) k
    (act w.values.client (IsReady k w.values.client.pending (dialog_reply w AskedTree x).tree_id))
    (end_moved w w k (record (paid_in (w.wires k).client_end x.header) { stage = Apart }) (moved_same w i) tt))
    (λ _. refused_moved z w k AskedTree x x.header.status i)

off_keeps : (w : World) (k : ℕ) (why : Refusal) → NegotiationKeeps w → NegotiationKeeps (dialog_off w k why)
off_keeps w k why i = keeps_from w (dialog_off w k why) i (closed_moved w w k (act w.values.client (IsRefused k why))
    (moved_same w i)) (ended_only w.values k (IsRefused k why))

fault_keeps : (z : WorldSettings) (w : World) (k : ℕ) (stage : Stage) (x : HeardMessage) (o : Option Refusal) → NegotiationKeeps w
    → ClientFits stage (w.wires k).client_end.transcript
    → ((x.header.status == status_due stage) ≡ true → o ≡ None → is_signed (w.wires k).client_end stage x.bytes ≡ true)
    → NegotiationKeeps (dialog_passed z w k stage x o)
fault_keeps z w k stage x (Some why) i fit signed = off_keeps w k why i
fault_keeps z w k stage x None i fit signed =
    keeps_from w (dialog_passed z w k stage x None) i (passed_moved z w k stage x i fit (λ ok. signed ok refl))
    (dialog_only w.values k (dialog_reply w stage x) (dialog_step stage x.header.status))

-- the fault that is looked for where the status is the due one
looked_for : (b : Bool) (o : Option Refusal) → b ≡ true → (if b then o else None) ≡ None → o ≡ None
looked_for true o e h = h
looked_for false o e h = absurd (cc)

dialog_keeps : (z : WorldSettings) (w : World) (k : ℕ) (stage : Stage) (o : Option HeardMessage) → NegotiationKeeps w
    → ClientFits stage (w.wires k).client_end.transcript → NegotiationKeeps (dialog_hears z w k stage o)
dialog_keeps z w k stage None i fit = off_keeps w k BadToken i
dialog_keeps z w k stage (Some x) i fit =
    fault_keeps z w k stage x (if x.header.status == status_due stage then dialog_fault z.client (w.wires k).client_end
    stage x else None) i fit
    (λ ok none. no_fault_signed z.client (w.wires k).client_end stage x (looked_for (x.header.status == status_due stage)
    (dialog_fault z.client (w.wires k).client_end stage x) ok none))

hears_keeps : (z : WorldSettings) (w : World) (k : ℕ) (frame : List ℕ) (place : ℕ) (stage : Stage) → NegotiationKeeps w
    → ClientFits stage (w.wires k).client_end.transcript → NegotiationKeeps (hears z w k frame place stage)
hears_keeps z w k frame place Apart i fit = line_keeps w k place (line_response (w.wires k).client_end frame) i
hears_keeps z w k frame place (SaidNegotiate bound) i fit = dialog_keeps z w k (SaidNegotiate bound)
    (dialog_response (w.wires k).client_end (SaidNegotiate bound) frame) i fit
hears_keeps z w k frame place (SaidFirst bound) i fit = dialog_keeps z w k (SaidFirst bound)
    (dialog_response (w.wires k).client_end (SaidFirst bound) frame) i fit
hears_keeps z w k frame place (SaidSecond bound) i fit = dialog_keeps z w k (SaidSecond bound)
    (dialog_response (w.wires k).client_end (SaidSecond bound) frame) i fit
hears_keeps z w k frame place AskedTree i fit = dialog_keeps z w k AskedTree (dialog_response (w.wires k).client_end AskedTree frame) i fit

pub take_keeps : (z : WorldSettings) (w : World) (k : ℕ) (bs : List (List ℕ)) (ys : List Received) → NegotiationKeeps w
    → NegotiationKeeps (take_frame z w k bs ys)
take_keeps z w k [] ys i = i
take_keeps z w k (b ∷ bs) [] i = i
take_keeps z w k (b ∷ bs) (y ∷ ys) i =
    let u = record (w.wires k) { down = bs } in
    let v = behind_frame w k bs ys in
    let old = i.fits k in
    hears_keeps z v k b y.place (w.wires k).client_end.stage
    (keeps_from w v i (one_moved w.wires w.made w.wires w.made w.accepted k u (moved_same w i) refl old.client) (behind_only w.values k ys))
    (subst (λ (t : Wires). ClientFits (w.wires k).client_end.stage t.client_end.transcript) (sym (put_same w.wires k u)) old.client)
