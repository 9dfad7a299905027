-- What a channel seals on one link has one key and one number, and its counts rise.
use Rattle.std.proofs.Common.{◌≡◌, ◌⊎◌, ℕ, ◌+◌, ◌-◌, ◌≤◌, Bool, true, false, if◌then◌else◌, List, [], ◌∷◌, ◌++◌, Some, None}
use Rattle.std.proofs.Common.{Ok, inl, inr, refl, sym, ap, subst, ◌∙◌, arith}
use Rattle.std.specs.Prelude.{is_some, Option as Perhaps}
use Rattle.spec_crypto.specs.declared.sessions.material.Keys.{Keys}
use Rattle.spec_crypto.specs.sessions.Nonces.{NonceState}
use Rattle.crypto_sessions.specs.session_keys.Sealing.{HasCipher}
use Rattle.spec_exchange.specs.Client as client
use Rattle.spec_exchange.specs.Network.{ForDialog}
use Rattle.spec_exchange.specs.Operations.{Refusal}
use Rattle.spec_world.specs.Dialog.{accepted_end, bound_end, dialog_response, noted_heard, paid_in, setup_token}
use Rattle.spec_world.specs.Ends.{ClientEnd, no_choice}
use Rattle.spec_world.specs.Messages.{HeardMessage}
use Rattle.spec_world.specs.Sending.{answer_of, or_no_token, sealed_on, spent}
use Rattle.spec_world.specs.World.{noted_sent}
use Rattle.spec_crypto.specs.tokens.Tokens.{first_token}
use Rattle.wire_bytes.specs.declared.headers.request.Request.{Request}
use Rattle.wire_bytes.specs.declared.session_messages.refusal.Refusal.{Refusal as DialogRefusal}
use Rattle.client_ends.specs.declared.dialog_calls.heard.Heard.{Heard}
use Rattle.client_ends.specs.declared.dialog_calls.heard.Heard.TheVariants as heards
use Rattle.client_ends.specs.declared.ends.config.Bound.{Bound}
use Rattle.client_ends.specs.declared.ends.dialog.Dialog.{Dialog}
use Rattle.client_ends.specs.declared.ends.dialog.Stage.{Stage}
use Rattle.client_ends.specs.declared.ends.dialog.Stage.TheVariants.{AskedTree, Joined, Over, Refused, SaidFirst, SaidNegotiate, SaidSecond}
use Rattle.client_ends.specs.declared.ends.line.Line.{Line}
use Rattle.client_ends.specs.declared.line_calls.incoming.Answer.{Answer}
use Rattle.client_ends.specs.dialog_calls.Opening.{AreKeysOf}
use Rattle.client_ends.specs.dialog_calls.Turning.{Binds, DialogAccepts, DialogComes, DialogGoesOn, DialogHears, DialogReadies}
use Rattle.client_ends.specs.dialog_calls.Turning.{HearsMessage, IsDialogRefused, JoinsAs, RefusesAs, Turns, refusal_on}
use Rattle.client_ends.specs.ends.Shown.{IsStage, ShowsDialog, ShowsLine, ShowsStage, awaited_in, settings_of}
use Rattle.client_ends.specs.line_calls.Interim.{GivesReply, credited, interim_in}
use Rattle.client_ends.specs.line_calls.Sending.{MakesFrame}
use Rattle.spec_wire.specs.declared.messages.header.Header.{Header}
use Rattle.spec_world.specs.Dialog.{line_response}
use Rattle.client_channels.specs.channel_turns.Asides.{DialogTakes, LineGoes, LineTakes}
use Rattle.client_channels.specs.channel_turns.Rounds.{bound_in}
use Rattle.client_channels.specs.channel_turns.Sealings.{Sealing, sealed_behind, sealed_in_dialog, sealed_said}
use Rattle.client_channels.specs.channel_turns.Sides.{Accepts, Breaks, Ends, Finishes, Hears, IsDenied, IsReady, IsStale, Joins, Leaves, Lost}
use Rattle.client_channels.specs.channel_turns.Sides.{Runs, Says, Sends, Side, Talks, number_in, side_heard}
use Rattle.client_channels.specs.declared.channel_turns.starting.Aim.{Aim}
use Rattle.client_channels.specs.declared.channel_turns.starting.Aim.TheVariants as aims

-- ---- counts that rise

-- under what a channel seals on a link
pub record Mark : Type 0 where
  pub key : List ℕ
  pub number : ℕ
  pub cipher : ℕ

-- all is sealed under it, and the counts rise from the low one on and stay below the high one
abbrev pub Rises : Mark → ℕ → ℕ → List Sealing → Type 0
Rises m low high [] = low ≤ high
Rises m low high (a ∷ bs) =
    (a.key ≡ m.key) × (a.nonce.channel ≡ m.number) × (1 ≤ m.cipher) × (low ≤ a.nonce.counter) × Rises m (a.nonce.counter + 1) high bs

rises_from : (m : Mark) (low from high : ℕ) (xs : List Sealing) → low ≤ from → Rises m from high xs → Rises m low high xs
rises_from m low from high [] below h = omega (arith, below, h)
rises_from m low from high (a ∷ bs) below (k, n, s, c, rest) = (k, n, s, omega (arith, below, c), rest)

pub rises_on : (m : Mark) (low mid high : ℕ) (xs ys : List Sealing) → Rises m low mid xs → Rises m mid high ys → Rises m low high (xs ++ ys)
rises_on m low mid high [] ys h g = rises_from m low mid high ys h g
rises_on m low mid high (a ∷ bs) ys (k, n, s, c, rest) g = (k, n, s, c, rises_on m (a.nonce.counter + 1) mid high bs ys rest g)

-- ---- a line

pub record Has (m : Mark) (l : Line) : Type 0 where
  pub key_is : l.keys.to_server ≡ m.key
  pub number_is : l.nonces.channel ≡ m.number
  pub cipher_is : l.keys.cipher ≡ m.cipher
  pub sealing : l.encrypts ≡ true → HasCipher l.keys

-- an end that it shows
abbrev end_of : Line → ClientEnd
end_of l = record {
  stage = client.Apart;
  purse = l.purse;
  awaited = λ id. awaited_in l.awaited.items id;
  base = [];
  challenge = [];
  chosen = no_choice;
  transcript = [];
  keys = l.keys;
  encrypts = l.encrypts;
  channel = l.nonces.channel;
  counter = l.nonces.counter;
}

shows_own : (l : Line) → (l.encrypts ≡ true → HasCipher l.keys) → ShowsLine l (end_of l)
shows_own l sealing = (
  record { purse = refl; awaited = λ id. refl },
  record { keys = refl; encrypts = refl; sealing = sealing; channel = refl; counter = refl },
)

-- a line that shows an end with this key, this number and this cipher has them
shown_has : (m : Mark) (l : Line) (n : ClientEnd) → ShowsLine l n → n.keys.to_server ≡ m.key → n.channel ≡ m.number
    → n.keys.cipher ≡ m.cipher → Has m l
shown_has m l n s k c i = record {
  key_is = ap (λ (x : Keys). x.to_server) (sym s.1.keys) ∙ k;
  number_is = sym s.1.channel ∙ c;
  cipher_is = ap (λ (x : Keys). x.cipher) (sym s.1.keys) ∙ i;
  sealing = s.1.sealing;
}

-- ---- what a side says, and its count

-- the count in front of what was said last
abbrev Said : Bool → ℕ → ℕ → Type 0
Said true counter c = counter ≡ c + 1
Said false counter c = counter ≡ c

said_rises : (b : Bool) (m : Mark) (a : Sealing) (c counter : ℕ) → a.key ≡ m.key → a.nonce.channel ≡ m.number → (b ≡ true → 1 ≤ m.cipher)
    → a.nonce.counter ≡ counter - 1 → Said b counter c → Rises m c counter (if b then a ∷ [] else [])
said_rises true m a c counter k n s is said = (k, n, s refl, omega (arith, is, said), omega (arith, is, said))
said_rises false m a c counter k n s is said = omega (arith, said)

line_said : (m : Mark) (l : Line) (c : ℕ) → Has m l → Said l.encrypts l.nonces.counter c → Rises m c l.nonces.counter (sealed_behind l)
line_said m l c h said =
    said_rises l.encrypts m (record { key = l.keys.to_server; nonce = record l.nonces { counter = l.nonces.counter - 1 } }) c
    l.nonces.counter h.key_is h.number_is (λ on. subst (λ (i : ℕ). 1 ≤ i) h.cipher_is (h.sealing on).least) refl said

none_said : (b : Bool) (c counter : ℕ) → Said b counter c → c ≤ counter
none_said true c counter said = omega (arith, said)
none_said false c counter said = omega (arith, said)

-- a dialog that asked for its tree, and one that is bound and gives its line away next
abbrev Asked : Dialog → Type 0
Asked d = (n : ClientEnd) × ShowsDialog d n × (n.stage ≡ client.AskedTree)

abbrev Bind : Dialog → Type 0
Bind d = (n : ClientEnd) × ShowsDialog d n × (n.stage ≡ client.Apart)

abbrev LateSaid : Mark → Side → ℕ → Type 0
LateSaid m (Runs l) c = Has m l × Said l.encrypts l.nonces.counter c
LateSaid m (Talks d) c = Asked d × Has m d.line × Said d.line.encrypts d.line.nonces.counter c
LateSaid m _ c = ⊥

-- a side behind the acceptance of a session, or behind a binding: what it says next is sealed so, under no count below this one
abbrev pub Late : Mark → Side → ℕ → Type 0
Late m (Says message s) c = LateSaid m s c
Late m (Talks d) c = Asked d × Has m d.line × (d.line.nonces.counter ≡ c)
Late m (Joins d) c = Bind d × Has m d.line × (d.line.nonces.counter ≡ c)
Late m (Accepts keys message d) c = ⊥
Late m (IsReady l session tree) c = Has m l × (l.nonces.counter ≡ c)
Late m (Runs l) c = Has m l × (l.nonces.counter ≡ c)
Late m (Sends l r) c = Has m l × (l.nonces.counter ≡ c)
Late m (Hears l a) c = Has m l × (l.nonces.counter ≡ c)
Late m _ c = Unit {0}

-- a message went out, or a part of it
dialog_said : (m : Mark) (stage : Stage) (l : Line) (c : ℕ) → Has m l → Said l.encrypts l.nonces.counter c
    → Rises m c l.nonces.counter (sealed_in_dialog stage l)
dialog_said m AskedTree l c h said = line_said m l c h said
dialog_said m SaidNegotiate l c h said = none_said l.encrypts c l.nonces.counter said
dialog_said m SaidFirst l c h said = none_said l.encrypts c l.nonces.counter said
dialog_said m SaidSecond l c h said = none_said l.encrypts c l.nonces.counter said
dialog_said m Joined l c h said = none_said l.encrypts c l.nonces.counter said
dialog_said m (Refused why) l c h said = none_said l.encrypts c l.nonces.counter said
dialog_said m Over l c h said = none_said l.encrypts c l.nonces.counter said

pub late_writes : (m : Mark) (s : Side) (c : ℕ) → LateSaid m s c → (c' : ℕ) × Late m s c' × Rises m c c' (sealed_said s)
late_writes m (Runs l) c (h, said) = (l.nonces.counter, (h, refl), line_said m l c h said)
late_writes m (Talks d) c (asked, h, said) = (d.line.nonces.counter, (asked, h, refl), dialog_said m d.stage d.line c h said)
late_writes m (Says message s) c h = absurd h
late_writes m (Joins d) c h = absurd h
late_writes m (Accepts keys message d) c h = absurd h
late_writes m (IsReady l session tree) c h = absurd h
late_writes m (IsDenied why) c h = absurd h
late_writes m (Finishes why) c h = absurd h
late_writes m IsStale c h = absurd h
late_writes m Leaves c h = absurd h
late_writes m (Sends l r) c h = absurd h
late_writes m (Hears l a) c h = absurd h
late_writes m Breaks c h = absurd h
late_writes m Lost c h = absurd h
late_writes m Ends c h = absurd h

-- ---- a line hears, and makes a frame

line_heard : (m : Mark) (l behind : Line) (n : ClientEnd) (c : ℕ) → n.keys ≡ l.keys → n.channel ≡ l.nonces.channel
    → n.counter ≡ l.nonces.counter → ShowsLine behind n → Has m l → l.nonces.counter ≡ c → Has m behind × (behind.nonces.counter ≡ c)
line_heard m l behind n c k ch co s h at = (
  shown_has m behind n s (ap (λ (x : Keys). x.to_server) k ∙ h.key_is) (ch ∙ h.number_is) (ap (λ (x : Keys). x.cipher) k ∙ h.cipher_is),
  sym s.1.counter ∙ (co ∙ at),
)

reply_given : (m : Mark) (l behind : Line) (o : Perhaps Header) (due : Perhaps HeardMessage) (a : Answer) (c : ℕ) → Has m l
    → l.nonces.counter ≡ c → GivesReply (end_of l) o due behind (Ok (Some a)) → Has m behind × (behind.nonces.counter ≡ c)
reply_given m l behind (Some x) due a c h at gives = absurd gives
reply_given m l behind None due a c h at gives = line_heard m l behind (paid_in (end_of l) a.header) c refl refl refl gives.3 h at

wait_given : (m : Mark) (l behind : Line) (o : Perhaps Header) (due : Perhaps HeardMessage) (c : ℕ) → Has m l → l.nonces.counter ≡ c
    → GivesReply (end_of l) o due behind (Ok None) → Has m behind × (behind.nonces.counter ≡ c)
wait_given m l behind (Some x) due c h at gives = line_heard m l behind (credited (end_of l) x) c refl refl refl gives h at
wait_given m l behind None due c h at gives = absurd gives

pub late_heard : (m : Mark) (l : Line) (message : List ℕ) (s : Side) (c : ℕ) → Has m l → l.nonces.counter ≡ c → LineTakes l message s
    → Late m s c
late_heard m l message s c h at (inl (a, behind, hears, is)) =
    subst (λ (t : Side). Late m t c) (sym is)
    (reply_given m l behind (interim_in (end_of l) message) (line_response (end_of l) message) a c h at
    (hears (end_of l) (shows_own l h.sealing)))
late_heard m l message s c h at (inr (inl (behind, hears, is))) =
    subst (λ (t : Side). Late m t c) (sym is)
    (wait_given m l behind (interim_in (end_of l) message) (line_response (end_of l) message) c h at
    (hears (end_of l) (shows_own l h.sealing)))
late_heard m l message s c h at (inr (inr (behind, hears, is))) = subst (λ (t : Side). Late m t c) (sym is) tt

frame_made : (m : Mark) (b : Bool) (l behind : Line) (frame : List ℕ) (c : ℕ) → Has m l → l.nonces.counter ≡ c → behind.keys ≡ l.keys
    → behind.encrypts ≡ l.encrypts → MakesFrame b l.keys l.nonces behind.nonces frame → Has m behind × Said b behind.nonces.counter c
frame_made m true l behind frame c h at k e made = (
  record {
    key_is = ap (λ (x : Keys). x.to_server) k ∙ h.key_is;
    number_is = ap (λ (x : NonceState). x.channel) made.counts ∙ h.number_is;
    cipher_is = ap (λ (x : Keys). x.cipher) k ∙ h.cipher_is;
    sealing = λ on. subst HasCipher (sym k) (h.sealing (sym e ∙ on));
  },
  ap (λ (x : NonceState). x.counter) made.counts ∙ ap (λ (i : ℕ). i + 1) at,
)
frame_made m false l behind frame c h at k e made = (
  record {
    key_is = ap (λ (x : Keys). x.to_server) k ∙ h.key_is;
    number_is = ap (λ (x : NonceState). x.channel) made.stays ∙ h.number_is;
    cipher_is = ap (λ (x : Keys). x.cipher) k ∙ h.cipher_is;
    sealing = λ on. subst HasCipher (sym k) (h.sealing (sym e ∙ on));
  },
  ap (λ (x : NonceState). x.counter) made.stays ∙ at,
)

pub late_sends : (m : Mark) (l : Line) (r : Request) (s : Side) (c : ℕ) → Has m l → l.nonces.counter ≡ c → LineGoes l r s → Late m s c
late_sends m l r s c h at (inl (frame, behind, sends, counts, is)) =
    let made = frame_made m l.encrypts l behind frame c h at counts.0 counts.1 counts.2 in
    subst (λ (t : Side). Late m t c) (sym is) (made.0, subst (λ (b : Bool). Said b behind.nonces.counter c) (sym counts.1) made.1)
late_sends m l r s c h at (inr (behind, sends, is)) = subst (λ (t : Side). Late m t c) (sym is) tt

-- ---- a dialog that has asked for its tree, or is bound

asked_stage : (s : Stage) (d : Dialog) (n : ClientEnd) (b : Bool) → IsStage s b client.AskedTree → ShowsStage s d n → ShowsLine d.line n
asked_stage AskedTree d n b e h = h
asked_stage SaidNegotiate d n b e h = absurd (cc)
asked_stage SaidFirst d n b e h = absurd (cc)
asked_stage SaidSecond d n b e h = absurd (cc)
asked_stage Joined d n b e h = h
asked_stage (Refused why) d n b e h = absurd e
asked_stage Over d n b e h = absurd e

asked_line : (d : Dialog) (n : ClientEnd) → ShowsDialog d n → n.stage ≡ client.AskedTree → ShowsLine d.line n
asked_line d n h is =
    asked_stage d.stage d n (is_some d.bound) (subst (λ (s : client.Stage). IsStage d.stage (is_some d.bound) s) is h.stage) h.shown

bound_stage : (s : Stage) (d : Dialog) (n : ClientEnd) (b : Bool) → IsStage s b client.Apart → ShowsStage s d n → ShowsLine d.line n
bound_stage AskedTree d n b e h = h
bound_stage SaidNegotiate d n b e h = absurd (cc)
bound_stage SaidFirst d n b e h = absurd (cc)
bound_stage SaidSecond d n b e h = absurd (cc)
bound_stage Joined d n b e h = h
bound_stage (Refused why) d n b e h = absurd e
bound_stage Over d n b e h = absurd e

bound_line : (d : Dialog) (n : ClientEnd) → ShowsDialog d n → n.stage ≡ client.Apart → ShowsLine d.line n
bound_line d n h is =
    bound_stage d.stage d n (is_some d.bound) (subst (λ (s : client.Stage). IsStage d.stage (is_some d.bound) s) is h.stage) h.shown

-- a dialog is refused
denied : (h : Heard) (told : DialogRefusal) (new : Dialog) → IsDialogRefused told new h → (why : DialogRefusal) × (h ≡ heards.Refused why)
denied (heards.Refused why) told new r = (why, refl)
denied (heards.Say message) told new r = absurd r
denied (heards.Accepted keys chosen message) told new r = absurd r
denied (heards.Ready line session tree) told new r = absurd r

turned : (r : Perhaps Refusal) (P : Type 0) (new : Dialog) (h : Heard) → Turns r P new h → P ⊎ ((why : Refusal) × RefusesAs why new h)
turned None P new h t = inl t
turned (Some why) P new h t = inr (why, t)

heard_or_refused : (s : client.Stage) (d : Dialog) (n : ClientEnd) (o : Perhaps HeardMessage) (number : ℕ) (new : Dialog) (h : Heard)
    → HearsMessage s d n o number new h
    → ((x : HeardMessage) × DialogComes s d n x number new h) ⊎ ((why : DialogRefusal) × (h ≡ heards.Refused why))
heard_or_refused s d n None number new h (told, is, r) = inr (denied h told new r)
heard_or_refused s d n (Some x) number new h t = by (turned (refusal_on (settings_of d.config) n s (Some x)) (DialogComes s d n x number new h)
    new h t)
  where
    by : DialogComes s d n x number new h ⊎ ((why : Refusal) × RefusesAs why new h)
        → ((x : HeardMessage) × DialogComes s d n x number new h) ⊎ ((why : DialogRefusal) × (h ≡ heards.Refused why))
    by (inl comes) = inl (x, comes)
    by (inr (why, (told, is, r))) = inr (denied h told new r)

-- its line is ready
line_ready : (m : Mark) (d new : Dialog) (n behind : ClientEnd) (session tree c : ℕ) (h : Heard) → ShowsLine d.line n → behind.keys ≡ n.keys
    → behind.channel ≡ n.channel → behind.counter ≡ n.counter → Has m d.line → d.line.nonces.counter ≡ c
    → DialogReadies behind session tree new h → Late m (side_heard h new) c
line_ready m d new n behind session tree c (heards.Ready line at_session at_tree) s k ch co has at (shown, in_session, in_tree, stage) =
    line_heard m d.line line behind c (k ∙ s.1.keys) (ch ∙ s.1.channel) (co ∙ s.1.counter) shown has at
line_ready m d new n behind session tree c (heards.Say message) s k ch co has at r = absurd r
line_ready m d new n behind session tree c (heards.Accepted keys chosen message) s k ch co has at r = absurd r
line_ready m d new n behind session tree c (heards.Refused why) s k ch co has at r = absurd r

late_denied : (m : Mark) (new : Dialog) (c : ℕ) (h : Heard) → (why : DialogRefusal) × (h ≡ heards.Refused why) → Late m (side_heard h new) c
late_denied m new c h (why, is) = subst (λ (x : Heard). Late m (side_heard x new) c) (sym is) tt

asked_hears : (m : Mark) (d new : Dialog) (n : ClientEnd) (message : List ℕ) (number c : ℕ) (h : Heard) → ShowsLine d.line n → Has m d.line
    → d.line.nonces.counter ≡ c → DialogHears client.AskedTree d n message number new h → Late m (side_heard h new) c
asked_hears m d new n message number c h s has at t =
    by (heard_or_refused client.AskedTree d n (dialog_response n client.AskedTree message) number new h t)
  where
    by : ((x : HeardMessage) × DialogComes client.AskedTree d n x number new h) ⊎ ((why : DialogRefusal) × (h ≡ heards.Refused why))
        → Late m (side_heard h new) c
    by (inl (x, comes)) =
        line_ready m d new n (record (paid_in n x.header) { stage = client.Apart }) d.session x.header.tree c h s refl refl refl has at comes
    by (inr r) = late_denied m new c h r

bound_hears : (m : Mark) (o : Perhaps Bound) (d new : Dialog) (n : ClientEnd) (c : ℕ) (h : Heard) → ShowsLine d.line n → Has m d.line
    → d.line.nonces.counter ≡ c → JoinsAs o n new h → Late m (side_heard h new) c
bound_hears m None d new n c h s has at t = late_denied m new c h (denied h _ new t)
bound_hears m (Some b) d new n c h s has at t = line_ready m d new n n b.session b.tree c h s refl refl refl has at t

pub late_talks : (m : Mark) (a : Aim) (d : Dialog) (message : List ℕ) (s : Side) (c : ℕ) → Late m (Talks d) c → DialogTakes a d message s
    → Late m s c
late_talks m a d message s c ((n, shown, stage), has, at) (h, behind, hears, is) =
    subst (λ (t : Side). Late m t c) (sym is)
    (asked_hears m d behind n message (number_in a) c h (asked_line d n shown stage) has at
    (subst (λ (x : client.Stage). DialogHears x d n message (number_in a) behind h) stage (hears n shown)))

pub late_joins : (m : Mark) (a : Aim) (d : Dialog) (s : Side) (c : ℕ) → Late m (Joins d) c → DialogTakes a d [] s → Late m s c
late_joins m a d s c ((n, shown, stage), has, at) (h, behind, hears, is) =
    subst (λ (t : Side). Late m t c) (sym is)
    (bound_hears m d.bound d behind n c h (bound_line d n shown stage) has at
    (subst (λ (x : client.Stage). DialogHears x d n [] (number_in a) behind h) stage (hears n shown)))

-- ---- a dialog in front of its last response

abbrev IsEarly : client.Stage → Bool → Type 0
IsEarly (client.SaidNegotiate b) c = b ≡ c
IsEarly (client.SaidFirst b) c = b ≡ c
IsEarly (client.SaidSecond b) c = b ≡ c
IsEarly client.AskedTree c = ⊥
IsEarly client.Apart c = ⊥

abbrev pub Early : Aim → Dialog → Type 0
Early a d =
    (n : ClientEnd) × ShowsDialog d n × IsEarly n.stage (is_some (bound_in a)) × AreKeysOf (bound_in a) n.keys × (d.bound ≡ bound_in a)

abbrev EarlySaid : Aim → Side → Type 0
EarlySaid a (Talks d) = Early a d
EarlySaid a _ = ⊥

abbrev pub Front : Aim → Side → Type 0
Front a (Says message s) = EarlySaid a s
Front a (Talks d) = Early a d
Front a (Joins d) = ⊥
Front a (Accepts keys message d) = ⊥
Front a (IsReady l session tree) = ⊥
Front a (Runs l) = ⊥
Front a (Sends l r) = ⊥
Front a (Hears l b) = ⊥
Front a _ = Unit {0}

-- a dialog that accepted a session, of which the client is told next
abbrev pub Accepting : Aim → Mark → Side → Type 0
Accepting a m (Accepts keys message d) =
    (bound_in a ≡ None) × (m.key ≡ keys.to_server) × (m.number ≡ 1) × Asked d × Has m d.line
    × Said d.line.encrypts d.line.nonces.counter 0
Accepting a m _ = ⊥

-- what a bound channel seals under
abbrev pub IsBoundTo : Aim → Mark → Type 0
IsBoundTo (aims.Make previous) m = ⊥
IsBoundTo (aims.Bind b number) m = (m.key ≡ b.keys.to_server) × (m.number ≡ number) × (m.cipher ≡ b.keys.cipher)

-- what a dialog in front comes to
abbrev pub Comes : Aim → Side → Type 0
Comes a s = Front a s ⊎ ((m : Mark) × Accepting a m s) ⊎ ((m : Mark) × Late m s 0 × IsBoundTo a m)

goes_on : (a : Aim) (d new : Dialog) (n : ClientEnd) (s : client.Stage) (session : ℕ) (token : List ℕ) (h : Heard)
    → IsEarly s (is_some (bound_in a)) → AreKeysOf (bound_in a) n.keys → d.bound ≡ bound_in a → DialogGoesOn d n s session token new h
    → Comes a (side_heard h new)
goes_on a d new n s session token (heards.Say frame) stage keys bound (said, shown, remains) =
    inl (noted_sent (spent n 1 ForDialog) s frame, shown, stage, keys, remains.bound ∙ bound)
goes_on a d new n s session token (heards.Accepted keys' chosen message) stage keys bound t = absurd t
goes_on a d new n s session token (heards.Ready line in_session tree) stage keys bound t = absurd t
goes_on a d new n s session token (heards.Refused why) stage keys bound t = absurd t

-- the side by whether a channel is bound
unbound_side : (a : Aim) (o : Perhaps Bound) (keys : Keys) (message : List ℕ) (d : Dialog) → is_some o ≡ false
    → Comes a (Accepts keys message d) → Comes a (if is_some o then Joins d else Accepts keys message d)
unbound_side a o keys message d e h =
    subst (λ (b : Bool). Comes a (if b then Joins d else Accepts keys message d)) (sym e) h

bound_side : (a : Aim) (o : Perhaps Bound) (keys : Keys) (message : List ℕ) (d : Dialog) → is_some o ≡ true → Comes a (Joins d)
    → Comes a (if is_some o then Joins d else Accepts keys message d)
bound_side a o keys message d e h = subst (λ (b : Bool). Comes a (if b then Joins d else Accepts keys message d)) (sym e) h

none_of : (o : Perhaps Bound) → false ≡ is_some o → o ≡ None
none_of None e = refl
none_of (Some b) e = absurd (cc)

sealed_zero : (b : Bool) (counter : ℕ) → (if b then 0 + 1 else 0) ≡ counter → Said b counter 0
sealed_zero true counter e = sym e
sealed_zero false counter e = sym e

accepts : (a : Aim) (d new : Dialog) (n : ClientEnd) (x : HeardMessage) (h : Heard) → false ≡ is_some (bound_in a) → d.bound ≡ bound_in a
    → DialogAccepts d n (accepted_end n x d.session) new h → Comes a (side_heard h new)
accepts a d new n x (heards.Accepted keys chosen message) stage bound (are, is, said, shown, remains) =
    let behind : ClientEnd = sealed_on (spent (accepted_end n x d.session) 1 ForDialog) in
    let line : ShowsLine new.line behind = asked_line new behind shown refl in
    let m : Mark = record { key = keys.to_server; number = 1; cipher = keys.cipher } in
    let has : Has m new.line = shown_has m new.line behind line (ap (λ (k : Keys). k.to_server) (sym are)) refl
    (ap (λ (k : Keys). k.cipher) (sym are)) in
    let counted : Said new.line.encrypts new.line.nonces.counter 0 =
    sealed_zero new.line.encrypts new.line.nonces.counter
    (ap (λ (b : Bool). if b then 0 + 1 else 0) (sym line.1.encrypts) ∙ line.1.counter) in
    unbound_side a new.bound keys message new (ap (λ (o : Perhaps Bound). is_some o) (remains.bound ∙ bound) ∙ sym stage)
    (inr (inl (m, (none_of (bound_in a) stage, refl, refl, (behind, shown, refl), has, counted))))
accepts a d new n x (heards.Say message) stage bound t = absurd t
accepts a d new n x (heards.Ready line session tree) stage bound t = absurd t
accepts a d new n x (heards.Refused why) stage bound t = absurd t

bound_mark : (a : Aim) (n : ClientEnd) → AreKeysOf (bound_in a) n.keys → true ≡ is_some (bound_in a)
    → IsBoundTo a (record { key = n.keys.to_server; number = number_in a; cipher = n.keys.cipher })
bound_mark (aims.Make previous) n keys e = absurd (cc)
bound_mark (aims.Bind b number) n keys e = (ap (λ (k : Keys). k.to_server) keys, refl, ap (λ (k : Keys). k.cipher) keys)

binds : (a : Aim) (d new : Dialog) (n : ClientEnd) (x : HeardMessage) (h : Heard) → true ≡ is_some (bound_in a)
    → AreKeysOf (bound_in a) n.keys → d.bound ≡ bound_in a → Binds d n (bound_end n x (number_in a)) new h → Comes a (side_heard h new)
binds a d new n x (heards.Accepted keys chosen message) stage are bound (told, is, none, shown, remains) =
    let behind : ClientEnd = bound_end n x (number_in a) in
    let line : ShowsLine new.line behind = bound_line new behind shown refl in
    let m : Mark = record { key = n.keys.to_server; number = number_in a; cipher = n.keys.cipher } in
    let has : Has m new.line = shown_has m new.line behind line refl refl refl in
    bound_side a new.bound keys message new (ap (λ (o : Perhaps Bound). is_some o) (remains.bound ∙ bound) ∙ sym stage)
    (inr (inr (m, ((behind, shown, refl), has, sym line.1.counter), bound_mark a n are stage)))
binds a d new n x (heards.Say message) stage are bound t = absurd t
binds a d new n x (heards.Ready line session tree) stage are bound t = absurd t
binds a d new n x (heards.Refused why) stage are bound t = absurd t

front_denied : (a : Aim) (new : Dialog) (h : Heard) → (why : DialogRefusal) × (h ≡ heards.Refused why) → Comes a (side_heard h new)
front_denied a new h (why, is) = subst (λ (x : Heard). Comes a (side_heard x new)) (sym is) (inl tt)

early_comes : (a : Aim) (s : client.Stage) (d new : Dialog) (n : ClientEnd) (x : HeardMessage) (h : Heard) → IsEarly s (is_some (bound_in a))
    → AreKeysOf (bound_in a) n.keys → d.bound ≡ bound_in a → DialogComes s d n x (number_in a) new h → Comes a (side_heard h new)
early_comes a (client.SaidNegotiate b) d new n x h stage keys bound t =
    goes_on a d new (noted_heard n (client.SaidNegotiate b) x) (client.SaidFirst b) d.session first_token h stage keys bound t
early_comes a (client.SaidFirst b) d new n x h stage keys bound t =
    goes_on a d new (noted_heard n (client.SaidFirst b) x) (client.SaidSecond b) x.header.session
    (or_no_token (answer_of (settings_of d.config) n (setup_token x.bytes))) h stage keys bound t
early_comes a (client.SaidSecond false) d new n x h stage keys bound t = accepts a d new n x h stage bound t
early_comes a (client.SaidSecond true) d new n x h stage keys bound t = binds a d new n x h stage keys bound t
early_comes a client.AskedTree d new n x h stage keys bound t = absurd stage
early_comes a client.Apart d new n x h stage keys bound t = absurd stage

early_by : (a : Aim) (s : client.Stage) (d new : Dialog) (n : ClientEnd) (h : Heard) → IsEarly s (is_some (bound_in a))
    → AreKeysOf (bound_in a) n.keys → d.bound ≡ bound_in a
    → ((x : HeardMessage) × DialogComes s d n x (number_in a) new h) ⊎ ((why : DialogRefusal) × (h ≡ heards.Refused why))
    → Comes a (side_heard h new)
early_by a s d new n h stage keys bound (inl (x, t)) = early_comes a s d new n x h stage keys bound t
early_by a s d new n h stage keys bound (inr r) = front_denied a new h r

early_hears : (a : Aim) (s : client.Stage) (d new : Dialog) (n : ClientEnd) (message : List ℕ) (h : Heard)
    → IsEarly s (is_some (bound_in a)) → AreKeysOf (bound_in a) n.keys → d.bound ≡ bound_in a
    → DialogHears s d n message (number_in a) new h → Comes a (side_heard h new)
early_hears a (client.SaidNegotiate b) d new n message h stage keys bound t =
    early_by a (client.SaidNegotiate b) d new n h stage keys bound
    (heard_or_refused (client.SaidNegotiate b) d n (dialog_response n (client.SaidNegotiate b) message) (number_in a) new h t)
early_hears a (client.SaidFirst b) d new n message h stage keys bound t =
    early_by a (client.SaidFirst b) d new n h stage keys bound
    (heard_or_refused (client.SaidFirst b) d n (dialog_response n (client.SaidFirst b) message) (number_in a) new h t)
early_hears a (client.SaidSecond b) d new n message h stage keys bound t =
    early_by a (client.SaidSecond b) d new n h stage keys bound
    (heard_or_refused (client.SaidSecond b) d n (dialog_response n (client.SaidSecond b) message) (number_in a) new h t)
early_hears a client.AskedTree d new n message h stage keys bound t = absurd stage
early_hears a client.Apart d new n message h stage keys bound t = absurd stage

pub early_talks : (a : Aim) (d : Dialog) (message : List ℕ) (s : Side) → Early a d → DialogTakes a d message s → Comes a s
early_talks a d message s (n, shown, stage, keys, bound) (h, behind, hears, is) =
    subst (λ (t : Side). Comes a t) (sym is) (early_hears a n.stage d behind n message h stage keys bound (hears n shown))

-- ---- what it says isn't sealed

early_stage : (s : Stage) (t : client.Stage) (b c : Bool) (l : Line) → IsStage s b t → IsEarly t c → sealed_in_dialog s l ≡ []
early_stage AskedTree t b c l is early = absurd (subst (λ (x : client.Stage). IsEarly x c) is early)
early_stage SaidNegotiate t b c l is early = refl
early_stage SaidFirst t b c l is early = refl
early_stage SaidSecond t b c l is early = refl
early_stage Joined t b c l is early = refl
early_stage (Refused why) t b c l is early = refl
early_stage Over t b c l is early = refl

pub early_said : (a : Aim) (s : Side) → EarlySaid a s → Front a s × (sealed_said s ≡ [])
early_said a (Talks d) (n, shown, stage, keys, bound) = (
  (n, shown, stage, keys, bound),
  early_stage d.stage n.stage (is_some d.bound) (is_some (bound_in a)) d.line shown.stage stage,
)
early_said a (Says message s) h = absurd h
early_said a (Joins d) h = absurd h
early_said a (Accepts keys message d) h = absurd h
early_said a (IsReady l session tree) h = absurd h
early_said a (IsDenied why) h = absurd h
early_said a (Finishes why) h = absurd h
early_said a IsStale h = absurd h
early_said a Leaves h = absurd h
early_said a (Runs l) h = absurd h
early_said a (Sends l r) h = absurd h
early_said a (Hears l b) h = absurd h
early_said a Breaks h = absurd h
early_said a Lost h = absurd h
early_said a Ends h = absurd h
