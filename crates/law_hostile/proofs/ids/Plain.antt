-- Where the client offers no cipher, no frame of it is sealed.
use Rattle.std.proofs.Common.{◌≡◌, ℕ, zero, suc, ◌+◌, ◌==◌, Bool, true, false, not, ◌&&◌, if◌then◌else◌, List, [], ◌∷◌, ◌++◌}
use Rattle.std.proofs.Common.{length, refl, sym, ◌∙◌, ap, subst, Option, Some, None, slice_get, eq-eqb, add-one}
use Rattle.law_server.proofs.tables.Logic.{either, back_of}
use Rattle.law_nonces.proofs.negotiation.Tables.{by_key}
use Rattle.spec_wire.specs.messages.Offer.{has_id}
use Rattle.spec_wire.specs.messages.Negotiate.{negotiate_response_in}
use Rattle.spec_exchange.specs.Table.{put}
use Rattle.spec_exchange.specs.Commands.{has_bit}
use Rattle.spec_exchange.specs.Status.{success, more_processing_required}
use Rattle.spec_exchange.specs.State.{Message, Accept}
use Rattle.spec_exchange.specs.Step.{step}
use Rattle.spec_exchange.specs.Operations.{Refusal, HadStatus, BadToken, BadSignature, BadChoice, NoSha512, weight, charge}
use Rattle.spec_exchange.specs.Client.{Client, Stage, Apart, SaidNegotiate, SaidFirst, SaidSecond, AskedTree, own_message, ask_message}
use Rattle.spec_exchange.specs.ClientStep.{Act, Nothing, Sends, Asks, CloseChannel, CloseChannels, AllSettled, IsCut, IsReady, IsRefused}
use Rattle.spec_exchange.specs.ClientStep.{Hears, Pushes, act, client_after}
use Rattle.spec_exchange.specs.Dialogs.{GoesOn, Accepts, Binds, Readies, Refuses, dialog_step, dialog_message, went_on, accepted}
use Rattle.spec_exchange.specs.Network.{Event, Submit, Open, Push, Serve, Take, Cut, Drop, Restart, Crash, Wait, Finish, Sent, Received, Token}
use Rattle.spec_exchange.specs.Network.{ForDialog, ForOp, ForAttach, cut_off, with_client, is_possible, moments}
use Rattle.spec_commands.specs.BodyOf.{body_of, number_of_command}
use Rattle.spec_commands.specs.ReplyOf.{reply_of}
use Rattle.spec_crypto.specs.declared.sessions.material.Keys.{Keys}
use Rattle.spec_crypto.specs.sessions.Choice.{is_cipher}
use Rattle.spec_crypto.specs.sessions.Derivation.{known}
use Rattle.spec_crypto.specs.sessions.Signing.{signed}
use Rattle.spec_crypto.specs.sessions.Sealing.{sealed}
use Rattle.spec_world.specs.Settings.{WorldSettings}
use Rattle.spec_world.specs.Messages.{HeardMessage}
use Rattle.spec_world.specs.Ends.{ClientEnd, ConnEnd, nonce_at, no_keys}
use Rattle.spec_world.specs.Hearing.{begins_sealed}
use Rattle.spec_world.specs.Connection.{ConnectionStep}
use Rattle.spec_world.specs.Sending.{request_header, request_text, line_frame, greeting_text, setup_text, setup_frame}
use Rattle.spec_world.specs.Dialog.{line_response, dialog_response, status_due, dialog_fault, first_refusal, unless, pays_next, paid_in, noted_heard}
use Rattle.spec_world.specs.Dialog.{has_form, choices_of, has_token, is_signed, flags_fit, choice_fault, was_offered, first_or, ciphers_told}
use Rattle.spec_world.specs.Dialog.{hashes_told, chosen_told, own_final, seals_told, setup_flags}
use Rattle.spec_world.specs.World.{World, Wires, with_values, with_client_end, off_by, one_off, closed_wires, cut_wires, op_heard, line_heard}
use Rattle.spec_world.specs.World.{line_hears, dialog_reply, dialog_passed, dialog_hears, hears, take_frame, behind_frame, command_asked}
use Rattle.spec_world.specs.World.{line_sent, pushed_wires, paid, dialog_wires, dialog_off, dialog_went, setup_sent, setup_of}
use Rattle.spec_world.specs.World.{session_accepted, channel_bound, next_token, fresh_wires, greeting_of, salt_of, previous_of}
use Rattle.spec_world.specs.World.{serve_frame, served_by, served_mutely, step_at}
use Rattle.spec_world.specs.Events.{Plain, bytes_happen, bytes_changed, bytes_later}
use Rattle.law_ties.specs.wire_facts.Fitting.{Bare, Signed}
use Rattle.law_ties.proofs.wire_facts.Heads.{plain_is}
use Rattle.spec_hostile.specs.RepeatRuns.{uses_no_list}
use Rattle.law_hostile.proofs.puts.Growing.{none_in}

-- ---- what is plain

pub record PlainEnd (n : ClientEnd) : Type 0 where
  pub chosen : n.chosen.cipher ≡ 0
  pub keys : n.keys.cipher ≡ 0
  pub bare : n.encrypts ≡ false

abbrev pub AllPlain : List (List ℕ) → Type 0
AllPlain bs = (i : ℕ) (b : List ℕ) → slice_get bs i ≡ Some b → begins_sealed b ≡ false

pub record PlainAt (u : Wires) : Type 0 where
  pub ends : PlainEnd u.client_end
  pub frames : AllPlain u.up

abbrev pub Plainly : World → Type 0
Plainly w = ((j : ℕ) → PlainAt (w.wires j)) × (w.keys.cipher ≡ 0) × (w.encrypts ≡ false)

pub none_plain : AllPlain []
none_plain i b h = absurd (none_in [] i b refl h)

more_plain : (b : List ℕ) (bs : List (List ℕ)) → begins_sealed b ≡ false → AllPlain bs → AllPlain (b ∷ bs)
more_plain b bs one all zero c h = subst (λ x. begins_sealed x ≡ false) (let q : Some b ≡ Some c = h in cc) one
more_plain b bs one all (suc i) c h = all i c h

rest_plain : (b : List ℕ) (bs : List (List ℕ)) → AllPlain (b ∷ bs) → AllPlain bs
rest_plain b bs all i c h = all (i + 1) c (rw (add-one) h)

pub one_plain : (b : List ℕ) → begins_sealed b ≡ false → AllPlain (b ∷ [])
one_plain b one = more_plain b [] one none_plain

last_plain : (bs : List (List ℕ)) (b : List ℕ) → AllPlain bs → begins_sealed b ≡ false → AllPlain (bs ++ b ∷ [])
last_plain [] b all one = one_plain b one
last_plain (c ∷ bs) b all one = more_plain c (bs ++ b ∷ []) (all 0 c refl) (last_plain bs b (rest_plain c bs all) one)

ends_put : (f : ℕ → Wires) (k : ℕ) (u : Wires) → PlainAt u → ((j : ℕ) → PlainAt (f j)) → (j : ℕ) → PlainAt (put f k u j)
ends_put f k u h all = by_key (λ j (v : Wires). PlainAt v) f k u h (λ j off. all j)

-- ---- frames

line_plain : (n : ClientEnd) (m : Message) (charge : ℕ) → n.encrypts ≡ false → begins_sealed (line_frame n m charge) ≡ false
unfolding request_text
line_plain n m charge e =
    ap (λ b. begins_sealed (if b then sealed n.keys true (nonce_at n.channel n.counter) (request_text m charge false)
    else signed n.keys.signing (request_text m charge true))) e
    ∙ plain_is (request_header m charge (number_of_command m.command) true) (body_of m.command)
    (signed n.keys.signing (request_text m charge true)) (Signed n.keys.signing refl)

setup_plain : (n : ClientEnd) (bound : Bool) (previous : ℕ) (token : List ℕ) (m : Message)
    → begins_sealed (setup_frame n bound previous token m) ≡ false
unfolding setup_text
setup_plain n true previous token m =
    plain_is (request_header m 1 1 true) _ (setup_frame n true previous token m) (Signed n.keys.signing refl)
setup_plain n false previous token m = plain_is (request_header m 1 1 false) _ (setup_frame n false previous token m) (Bare refl)

greeting_plain : (z : WorldSettings) (salt : List ℕ) (m : Message) → begins_sealed (greeting_text z.client salt m) ≡ false
unfolding greeting_text
greeting_plain z salt m = plain_is (request_header m 1 0 false) _ (greeting_text z.client salt m) (Bare refl)

line_sent_plain : (w : World) (k : ℕ) (token : Token) (m : Message) (charge : ℕ) → Plainly w → Plainly (line_sent w k token m charge)
line_sent_plain w k token m charge p =
    let n = (w.wires k).client_end in
    let e = (p.0 k).ends in (
      ends_put w.wires k _ (record {
        ends = record { chosen = e.chosen; keys = e.keys; bare = e.bare };
        frames = last_plain (w.wires k).up (line_frame n m charge) (p.0 k).frames (line_plain n m charge e.bare);
      }) p.0,
      p.1,
      p.2,
    )

-- ---- the client closes, or pushes

same_at : (u : Wires) → PlainAt u → PlainAt (record u { down = [] })
same_at u p = record { ends = p.ends; frames = p.frames }

off_plain : (w : World) (k : ℕ) (a : Act) → Plainly w → Plainly (off_by w k a)
off_plain w k CloseChannels p = (λ j. same_at (w.wires j) (p.0 j), p.1, p.2)
off_plain w k CloseChannel p = (ends_put w.wires k _ (same_at (w.wires k) (p.0 k)) p.0, p.1, p.2)
off_plain w k Nothing p = (ends_put w.wires k _ (same_at (w.wires k) (p.0 k)) p.0, p.1, p.2)
off_plain w k (Sends g) p = (ends_put w.wires k _ (same_at (w.wires k) (p.0 k)) p.0, p.1, p.2)
off_plain w k (Asks g) p = (ends_put w.wires k _ (same_at (w.wires k) (p.0 k)) p.0, p.1, p.2)
off_plain w k AllSettled p = (ends_put w.wires k _ (same_at (w.wires k) (p.0 k)) p.0, p.1, p.2)

closed_plain : (w : World) (k : ℕ) (a : Act) → Plainly w → Plainly (closed_wires w k a)
closed_plain w k CloseChannels p = (λ j. same_at (w.wires j) (p.0 j), p.1, p.2)
closed_plain w k CloseChannel p = (ends_put w.wires k _ (same_at (w.wires k) (p.0 k)) p.0, p.1, p.2)
closed_plain w k Nothing p = p
closed_plain w k (Sends g) p = p
closed_plain w k (Asks g) p = p
closed_plain w k AllSettled p = p

cut_plain : (w : World) (k : ℕ) → Plainly w → Plainly (cut_wires w k)
cut_plain w k p =
    either Plainly (w.values.client.ready k) (with_values (off_by w k (act w.values.client (IsCut k))) (cut_off w.values k))
    (with_values (one_off w k) (cut_off w.values k)) (λ _. off_plain w k (act w.values.client (IsCut k)) p)
    (λ _. (ends_put w.wires k _ (same_at (w.wires k) (p.0 k)) p.0, p.1, p.2))

pushed_plain : (w : World) (k : ℕ) (c : Client) (a : Act) → Plainly w → Plainly (pushed_wires w k c a)
pushed_plain w k c (Sends g) p =
    line_sent_plain w k (ForOp g) (own_message c k (w.wires k).client_end.purse.next g) (charge (weight (c.op g))) p
pushed_plain w k c (Asks g) p = line_sent_plain w k (ForAttach g) (ask_message c k (w.wires k).client_end.purse.next g) 1 p
pushed_plain w k c Nothing p = p
pushed_plain w k c CloseChannel p = p
pushed_plain w k c CloseChannels p = p
pushed_plain w k c AllSettled p = p

-- ---- Open

and_false : (a b : Bool) → b ≡ false → (a && b) ≡ false
and_false true b e = e
and_false false b e = refl

opened_plain : (z : WorldSettings) (w : World) (k : ℕ) (served : Bool) → Plainly w
    → PlainAt (fresh_wires z w (greeting_of z w k) served)
opened_plain z w k served p =
    record {
      ends = record {
        chosen = refl;
        keys = either (λ (x : Keys). x.cipher ≡ 0) w.values.client.live w.keys no_keys (λ _. p.1) (λ _. refl);
        bare = and_false w.values.client.live w.encrypts p.2;
      };
      frames = either AllPlain served (greeting_of z w k ∷ []) []
          (λ _. one_plain (greeting_of z w k) (greeting_plain z (salt_of z w)
          (dialog_message w.values.client k 0 (SaidNegotiate w.values.client.live)))) (λ _. none_plain);
    }

-- ---- what a response without a fault says

first_none : (o later : Option Refusal) → first_refusal o later ≡ None → o ≡ None
first_none None later e = refl
first_none (Some why) later e = absurd (cc)

later_none : (o later : Option Refusal) → first_refusal o later ≡ None → later ≡ None
later_none None later e = e
later_none (Some why) later e = absurd (cc)

kept : (b : Bool) (why : Refusal) → unless b why ≡ None → b ≡ true
kept true why e = refl
kept false why e = absurd (cc)

second_of : (a b rest : Option Refusal) → first_refusal a (first_refusal b rest) ≡ None → b ≡ None
second_of a b rest h = first_none b rest (later_none a (first_refusal b rest) h)

fifth_of : (a b c d e f : Option Refusal)
    → first_refusal a (first_refusal b (first_refusal c (first_refusal d (first_refusal e f)))) ≡ None → e ≡ None
fifth_of a b c d e f h =
    first_none e f (later_none d (first_refusal e f) (later_none c (first_refusal d (first_refusal e f))
    (later_none b (first_refusal c (first_refusal d (first_refusal e f)))
    (later_none a (first_refusal b (first_refusal c (first_refusal d (first_refusal e f)))) h))))

choices_none : (z : WorldSettings) (n : ClientEnd) (stage : Stage) (x : HeardMessage) → dialog_fault z.client n stage x ≡ None
    → choices_of z.client stage x.bytes ≡ None
choices_none z n stage x e =
    second_of (unless (has_form n stage x) BadToken) (choices_of z.client stage x.bytes)
    (first_refusal (unless (has_token z.client n stage x.bytes) BadToken)
    (first_refusal (unless (is_signed n stage x.bytes) BadSignature)
    (first_refusal (unless (flags_fit n stage x.bytes) (BadChoice 5)) (unless (pays_next n stage x.header) BadToken)))) e

flags_kept : (z : WorldSettings) (n : ClientEnd) (stage : Stage) (x : HeardMessage) → dialog_fault z.client n stage x ≡ None
    → flags_fit n stage x.bytes ≡ true
flags_kept z n stage x e =
    kept (flags_fit n stage x.bytes) (BadChoice 5)
    (fifth_of (unless (has_form n stage x) BadToken) (choices_of z.client stage x.bytes) (unless (has_token z.client n stage x.bytes) BadToken)
    (unless (is_signed n stage x.bytes) BadSignature) (unless (flags_fit n stage x.bytes) (BadChoice 5))
    (unless (pays_next n stage x.header) BadToken) e)

test_kept : (b : Bool) (why : Refusal) (rest : Option Refusal) → (if not b then Some why else rest) ≡ None → (b ≡ true) × (rest ≡ None)
test_kept true why rest e = (refl, e)
test_kept false why rest e = absurd (cc)

offered_none : (ids : List ℕ) → was_offered [] ids ≡ true → first_or 0 ids ≡ 0
unfolding has_id
offered_none [] e = refl
offered_none (id ∷ []) e = absurd (let q : false ≡ true = e in cc)
offered_none (id ∷ next ∷ ids) e = absurd (let q : false ≡ true = e in cc)

chosen_none : (z : WorldSettings) (m : List ℕ) → z.client.ciphers ≡ [] → choice_fault z.client m ≡ None → (chosen_told m).cipher ≡ 0
unfolding choice_fault chosen_told
chosen_none z m none e =
    let a = test_kept ((negotiate_response_in m).dialect_revision == 0x311) (BadChoice 1) _ e in
    let b = test_kept (has_id 1 (hashes_told m)) NoSha512 _ a.1 in
    let c = test_kept (length (hashes_told m) == 1) (BadChoice 2) _ b.1 in
    let d = test_kept (was_offered z.client.ciphers (ciphers_told m)) (BadChoice 3) _ c.1 in
    offered_none (ciphers_told m) (ap (λ ids. was_offered ids (ciphers_told m)) (sym none) ∙ d.0)

pub known_none : (n : ℕ) → n ≡ 0 → known n ≡ 0
known_none n e = ap known e ∙ either (λ x. x ≡ 0) (is_cipher 0) 0 0 (λ _. refl) (λ _. refl)

final_cipher : (n : ClientEnd) (bound : Bool) (session : ℕ) → PlainEnd n → (own_final n bound session).cipher ≡ 0
final_cipher n true session p = p.keys
final_cipher n false session p = known_none n.chosen.cipher p.chosen

no_bit : (a b : Bool) → b ≡ true → not (a && b) ≡ true → a ≡ false
no_bit true true e h = absurd (cc)
no_bit true false e h = absurd (cc)
no_bit false b e h = refl

seals_none : (n : ClientEnd) (bound : Bool) (m : List ℕ) → PlainEnd n → flags_fit n (SaidSecond bound) m ≡ true → seals_told m ≡ false
unfolding seals_told
seals_none n bound m p e =
    let f = setup_flags m in
    let c = (own_final n bound 0).cipher == 0 in
    no_bit (has_bit f 4) c (eq-eqb (own_final n bound 0).cipher 0 (final_cipher n bound 0 p))
    (back_of (not (has_bit f 2)) (not (has_bit f 4 && c)) (back_of (not (has_bit f 1)) (not (has_bit f 2) && not (has_bit f 4 && c)) e))

-- ---- Take

op_plain : (w : World) (k g : ℕ) (asking : Bool) (x : HeardMessage) (place : ℕ) → Plainly w → Plainly (op_heard w k g asking x place)
op_plain w k g asking x place p =
    let n = (w.wires k).client_end in
    let v = with_client_end w k (paid_in n x.header) in
    let e = (p.0 k).ends in
    closed_plain v k (act w.values.client (Hears k g asking (reply_of (command_asked w.values.client g asking) x.header x.bytes) place)) (
      ends_put w.wires k _ (record {
        ends = record { chosen = e.chosen; keys = e.keys; bare = e.bare };
        frames = (p.0 k).frames;
      }) p.0,
      p.1,
      p.2,
    )

line_heard_plain : (w : World) (k : ℕ) (x : HeardMessage) (place : ℕ) (t : Option Token) → Plainly w → Plainly (line_heard w k x place t)
line_heard_plain w k x place (Some (ForOp g)) p = op_plain w k g false x place p
line_heard_plain w k x place (Some (ForAttach g)) p = op_plain w k g true x place p
line_heard_plain w k x place (Some ForDialog) p = cut_plain w k p
line_heard_plain w k x place None p = cut_plain w k p

line_hears_plain : (w : World) (k place : ℕ) (o : Option HeardMessage) → Plainly w → Plainly (line_hears w k place o)
line_hears_plain w k place None p = cut_plain w k p
line_hears_plain w k place (Some x) p = line_heard_plain w k x place ((w.wires k).client_end.awaited x.header.message) p

off_dialog_plain : (w : World) (k : ℕ) (why : Refusal) → Plainly w → Plainly (dialog_off w k why)
off_dialog_plain w k why p = closed_plain w k (act w.values.client (IsRefused k why)) p

-- an end in its place, with the old one's frames
end_plain : (w : World) (k : ℕ) (n : ClientEnd) → PlainEnd n → Plainly w → Plainly (with_client_end w k n)
end_plain w k n e p = (ends_put w.wires k _ (record { ends = e; frames = (p.0 k).frames }) p.0, p.1, p.2)

setup_sent_plain : (w : World) (k : ℕ) (stage : Stage) (bound : Bool) (token : List ℕ) → Plainly w → Plainly (setup_sent w k stage bound token)
setup_sent_plain w k stage bound token p =
    let n = (w.wires k).client_end in
    let e = (p.0 k).ends in
    let frame = setup_of w k stage bound token in (
      ends_put w.wires k _ (record {
        ends = record { chosen = e.chosen; keys = e.keys; bare = e.bare };
        frames = last_plain (w.wires k).up frame (p.0 k).frames
            (setup_plain n bound (previous_of w.values.client bound) token (dialog_message w.values.client k n.purse.next stage));
      }) p.0,
      p.1,
      p.2,
    )

went_plain : (w : World) (k : ℕ) (s : Stage) (token : List ℕ) → Plainly w → Plainly (dialog_went w k s token)
went_plain w k (SaidFirst bound) token p = setup_sent_plain w k (SaidFirst bound) bound token p
went_plain w k (SaidSecond bound) token p = setup_sent_plain w k (SaidSecond bound) bound token p
went_plain w k Apart token p = p
went_plain w k (SaidNegotiate bound) token p = p
went_plain w k AskedTree token p = p

goes_plain : (z : WorldSettings) (w : World) (k : ℕ) (stage : Stage) (x : HeardMessage) (next : Stage)
    → (noted_heard (w.wires k).client_end stage x).chosen.cipher ≡ 0 → Plainly w → Plainly (dialog_wires z w k stage x (GoesOn next))
goes_plain z w k stage x next c p =
    let n = (w.wires k).client_end in
    let d = went_on w.values.client k next (dialog_reply w stage x) in
    let v = with_values w (with_client w.values d) in
    let e = (p.0 k).ends in
    went_plain (with_client_end v k (noted_heard n stage x)) k next (next_token z n next x.bytes)
    (end_plain v k (noted_heard n stage x) (record { chosen = c; keys = e.keys; bare = e.bare }) p)

accepts_plain : (z : WorldSettings) (w : World) (k : ℕ) (stage : Stage) (x : HeardMessage) → seals_told x.bytes ≡ false → Plainly w
    → Plainly (dialog_wires z w k stage x Accepts)
accepts_plain z w k stage x none p =
    let n = (w.wires k).client_end in
    let e = (p.0 k).ends in
    let a = session_accepted w k x in
    let c : known n.chosen.cipher ≡ 0 = known_none n.chosen.cipher e.chosen in
    line_sent_plain a k ForDialog (dialog_message (accepted w.values.client k) k (a.wires k).client_end.purse.next AskedTree) 1 (
      ends_put w.wires k _ (record {
        ends = record { chosen = e.chosen; keys = c; bare = none };
        frames = (p.0 k).frames;
      }) p.0,
      c,
      none,
    )

binds_plain : (z : WorldSettings) (w : World) (k : ℕ) (stage : Stage) (x : HeardMessage) → seals_told x.bytes ≡ false → Plainly w
    → Plainly (dialog_wires z w k stage x Binds)
binds_plain z w k stage x none p =
    let n = (w.wires k).client_end in
    let e = (p.0 k).ends in
    closed_plain (channel_bound w k x) k (act w.values.client (IsReady k w.values.client.session w.values.client.tree)) (
      ends_put w.wires k _ (record {
        ends = record { chosen = e.chosen; keys = e.keys; bare = none };
        frames = (p.0 k).frames;
      }) p.0,
      p.1,
      p.2,
    )

readies_plain : (z : WorldSettings) (w : World) (k : ℕ) (stage : Stage) (x : HeardMessage) → Plainly w
    → Plainly (dialog_wires z w k stage x Readies)
readies_plain z w k stage x p =
    let n = (w.wires k).client_end in
    let e = (p.0 k).ends in
    let v = with_client_end w k (record (paid_in n x.header) { stage = Apart }) in
    closed_plain v k (act w.values.client (IsReady k w.values.client.pending (dialog_reply w stage x).tree_id))
    (end_plain w k (record (paid_in n x.header) { stage = Apart }) (record { chosen = e.chosen; keys = e.keys; bare = e.bare }) p)

refuses_plain : (z : WorldSettings) (w : World) (k : ℕ) (stage : Stage) (x : HeardMessage) (status : ℕ) → Plainly w
    → Plainly (dialog_wires z w k stage x (Refuses status))
refuses_plain z w k stage x status p = closed_plain w k (act w.values.client (IsRefused k (HadStatus status))) p

abbrev Fine : WorldSettings → World → ℕ → Stage → HeardMessage → Type 0
Fine z w k stage x = (x.header.status == status_due stage) ≡ true → dialog_fault z.client (w.wires k).client_end stage x ≡ None

step_plain : (z : WorldSettings) (w : World) (k : ℕ) (x : HeardMessage) (stage : Stage) → z.client.ciphers ≡ [] → Fine z w k stage x
    → Plainly w → Plainly (dialog_wires z w k stage x (dialog_step stage x.header.status))
step_plain z w k x Apart c f p = refuses_plain z w k Apart x x.header.status p
step_plain z w k x (SaidNegotiate bound) c f p =
    let s = SaidNegotiate bound in
    either (λ d. Plainly (dialog_wires z w k s x d)) (x.header.status == success) (GoesOn (SaidFirst bound)) (Refuses x.header.status)
    (λ on. goes_plain z w k s x (SaidFirst bound)
    (chosen_none z x.bytes c (choices_none z (w.wires k).client_end s x (f on))) p)
    (λ _. refuses_plain z w k s x x.header.status p)
step_plain z w k x (SaidFirst bound) c f p =
    let s = SaidFirst bound in
    either (λ d. Plainly (dialog_wires z w k s x d)) (x.header.status == more_processing_required) (GoesOn (SaidSecond bound))
    (Refuses x.header.status) (λ on. goes_plain z w k s x (SaidSecond bound) (p.0 k).ends.chosen p)
    (λ _. refuses_plain z w k s x x.header.status p)
step_plain z w k x (SaidSecond true) c f p =
    let s = SaidSecond true in
    let n = (w.wires k).client_end in
    either (λ d. Plainly (dialog_wires z w k s x d)) (x.header.status == success) Binds (Refuses x.header.status)
    (λ on. binds_plain z w k s x (seals_none n true x.bytes (p.0 k).ends (flags_kept z n s x (f on))) p)
    (λ _. refuses_plain z w k s x x.header.status p)
step_plain z w k x (SaidSecond false) c f p =
    let s = SaidSecond false in
    let n = (w.wires k).client_end in
    either (λ d. Plainly (dialog_wires z w k s x d)) (x.header.status == success) Accepts (Refuses x.header.status)
    (λ on. accepts_plain z w k s x (seals_none n false x.bytes (p.0 k).ends (flags_kept z n s x (f on))) p)
    (λ _. refuses_plain z w k s x x.header.status p)
step_plain z w k x AskedTree c f p =
    either (λ d. Plainly (dialog_wires z w k AskedTree x d)) (x.header.status == success) Readies (Refuses x.header.status)
    (λ on. readies_plain z w k AskedTree x p) (λ _. refuses_plain z w k AskedTree x x.header.status p)

passed_plain : (z : WorldSettings) (w : World) (k : ℕ) (stage : Stage) (x : HeardMessage) (o : Option Refusal) → z.client.ciphers ≡ []
    → (o ≡ None → Fine z w k stage x) → Plainly w → Plainly (dialog_passed z w k stage x o)
passed_plain z w k stage x (Some why) c f p = off_dialog_plain w k why p
passed_plain z w k stage x None c f p = step_plain z w k x stage c (f refl) p

response_plain : (z : WorldSettings) (w : World) (k : ℕ) (stage : Stage) (o : Option HeardMessage) → z.client.ciphers ≡ [] → Plainly w
    → Plainly (dialog_hears z w k stage o)
response_plain z w k stage None c p = off_dialog_plain w k BadToken p
response_plain z w k stage (Some x) c p =
    let fault = dialog_fault z.client (w.wires k).client_end stage x in
    passed_plain z w k stage x (if x.header.status == status_due stage then fault else None) c
    (λ none on. sym (ap (λ b. if b then fault else None) on) ∙ none) p

heard_plain : (z : WorldSettings) (w : World) (k : ℕ) (frame : List ℕ) (place : ℕ) (s : Stage) → z.client.ciphers ≡ [] → Plainly w
    → Plainly (hears z w k frame place s)
heard_plain z w k frame place Apart c p = line_hears_plain w k place (line_response (w.wires k).client_end frame) p
heard_plain z w k frame place (SaidNegotiate bound) c p =
    response_plain z w k (SaidNegotiate bound) (dialog_response (w.wires k).client_end (SaidNegotiate bound) frame) c p
heard_plain z w k frame place (SaidFirst bound) c p =
    response_plain z w k (SaidFirst bound) (dialog_response (w.wires k).client_end (SaidFirst bound) frame) c p
heard_plain z w k frame place (SaidSecond bound) c p =
    response_plain z w k (SaidSecond bound) (dialog_response (w.wires k).client_end (SaidSecond bound) frame) c p
heard_plain z w k frame place AskedTree c p =
    response_plain z w k AskedTree (dialog_response (w.wires k).client_end AskedTree frame) c p

take_plain : (z : WorldSettings) (w : World) (k : ℕ) (bs : List (List ℕ)) (ys : List Received) → z.client.ciphers ≡ [] → Plainly w
    → Plainly (take_frame z w k bs ys)
take_plain z w k [] ys c p = p
take_plain z w k (b ∷ bs) [] c p = p
take_plain z w k (b ∷ bs) (y ∷ ys) c p =
    heard_plain z (behind_frame w k bs ys) k b y.place (w.wires k).client_end.stage c
    (ends_put w.wires k _ (record { ends = (p.0 k).ends; frames = (p.0 k).frames }) p.0, p.1, p.2)

-- ---- Serve and Drop

by_end : (w : World) (k : ℕ) (bs : List (List ℕ)) (xs : List Sent) (x : Sent) (S : ConnectionStep) (o : Option ConnEnd) → AllPlain bs
    → Plainly w → Plainly (served_by w k bs xs x.token S o)
by_end w k bs xs x S None b p = (ends_put w.wires k _ (record { ends = (p.0 k).ends; frames = b }) p.0, p.1, p.2)
by_end w k bs xs x S (Some why) b p =
    let v = served_mutely w k bs xs x.token S in
    let q : (j : ℕ) → PlainAt (v.wires j) = ends_put w.wires k _ (record { ends = (p.0 k).ends; frames = b }) p.0 in
    (ends_put v.wires k _ (record { ends = (q k).ends; frames = none_plain }) q, p.1, p.2)

serve_plain : (z : WorldSettings) (w : World) (k : ℕ) (bs : List (List ℕ)) (xs : List Sent) → AllPlain bs → Plainly w
    → Plainly (serve_frame z w k bs xs)
serve_plain z w k [] xs b p = p
serve_plain z w k (c ∷ bs) [] b p = p
serve_plain z w k (c ∷ bs) (x ∷ xs) b p = let S = step_at z w k c in by_end w k bs xs x S S.ends (rest_plain c bs b) p

-- ---- each event of a repeat run

changed_plain : (z : WorldSettings) (w : World) (e : Event) → z.client.ciphers ≡ [] → Plainly w → uses_no_list e ≡ true
    → Plainly (bytes_changed z w e)
changed_plain z w (Submit g op) c p s = p
changed_plain z w (Open k) c p s =
    let served = (step w.values.server w.values.moment (Accept k)).reply.status == success in
    (ends_put w.wires k (fresh_wires z w (greeting_of z w k) served) (opened_plain z w k served p) p.0, p.1, p.2)
changed_plain z w (Push k slotless pick) c p s =
    let o = Pushes k slotless (paid w k slotless pick) in
    pushed_plain w k (client_after w.values.client o) (act w.values.client o) p
changed_plain z w (Serve k) c p s = absurd (cc)
changed_plain z w (Take k) c p s = absurd (cc)
changed_plain z w (Cut k) c p s = cut_plain w k p
changed_plain z w (Drop k) c p s = (ends_put w.wires k _ (record { ends = (p.0 k).ends; frames = none_plain }) p.0, p.1, p.2)
changed_plain z w Restart c p s = (λ j. record { ends = (p.0 j).ends; frames = none_plain }, p.1, p.2)
changed_plain z w (Crash k kept) c p s = absurd (cc)
changed_plain z w (Wait n) c p s = absurd (cc)
changed_plain z w (Finish refusal) c p s = absurd (cc)

happen_plain : (z : WorldSettings) (w : World) (e : Event) → Plainly w → Plainly (bytes_changed z w e) → Plainly (bytes_happen z w (Plain e))
happen_plain z w e p h =
    either Plainly (is_possible w.values e) (bytes_later (bytes_changed z w e) (moments e)) w (λ _. h) (λ _. p)

pub same_plain : (z : WorldSettings) (w : World) (e : Event) → z.client.ciphers ≡ [] → uses_no_list e ≡ true → Plainly w
    → Plainly (bytes_happen z w (Plain e))
same_plain z w e c s p = happen_plain z w e p (changed_plain z w e c p s)

pub serves_plain : (z : WorldSettings) (w : World) (k : ℕ) → Plainly w → Plainly (bytes_happen z w (Plain (Serve k)))
serves_plain z w k p =
    happen_plain z w (Serve k) p (serve_plain z w k (w.wires k).up (w.values.conns k).up (p.0 k).frames p)

pub takes_plain : (z : WorldSettings) (w : World) (k : ℕ) → z.client.ciphers ≡ [] → Plainly w
    → Plainly (bytes_happen z w (Plain (Take k)))
takes_plain z w k c p = happen_plain z w (Take k) p (take_plain z w k (w.wires k).down (w.values.conns k).down c p)
