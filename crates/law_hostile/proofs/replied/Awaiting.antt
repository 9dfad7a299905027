-- A reply that a client's line takes for an operation answers that operation's own request.
use Rattle.std.proofs.Common.{◌≡◌, ℕ, zero, suc, ◌+◌, ◌≤◌, ◌<◌, ◌^◌, ◌==◌, ◌&&◌, Bool, true, false, if◌then◌else◌, List, [], ◌∷◌, ◌++◌, ◌⊎◌}
use Rattle.std.proofs.Common.{inl, inr, refl, sym, ◌∙◌, ap, arith, subst, Option, Some, None, slice_get}
use Rattle.spec_wire.specs.messages.Places.{number, number_of, le, bytes_at}
use Rattle.spec_wire.specs.declared.messages.header.Header.{Header}
use Rattle.spec_wire.proofs.messages.Numbers.{number_of-le}
use Rattle.spec_crypto.specs.declared.sessions.material.Signer.{Signer}
use Rattle.spec_crypto.specs.sessions.Signing.{signed, verifies}
use Rattle.spec_crypto.specs.sessions.Sealing.{opened}
use Rattle.spec_exchange.specs.Network.{Token, ForDialog, ForOp, ForAttach}
use Rattle.spec_exchange.specs.Commands.{Command}
use Rattle.spec_world.specs.Settings.{WorldSettings}
use Rattle.spec_world.specs.Messages.{HeardMessage, has_header, header_in, heard_in, message_spelling}
use Rattle.spec_world.specs.Ends.{ClientEnd}
use Rattle.spec_world.specs.Answering.{with_signature}
use Rattle.spec_world.specs.Hearing.{Checked, checked_as, behind_turn}
use Rattle.spec_world.specs.Dialog.{line_response, line_text, response_in, if_response, is_response}
use Rattle.spec_hostile.specs.RepeatRuns.{RepeatWorld, RepeatEvent, Give, UpFrame, repeat_run, repeat_happens, repeat_start}
use Rattle.spec_hostile.specs.SignedFor.{Watched, SignedEntry, watching}
use Rattle.spec_hostile.specs.HostileNetwork.{repeated}
use Rattle.law_ties.specs.wire_facts.Lawful.{AreHeadersLawful, AreCommandsLawful, TreeFacts}
use Rattle.law_hostile.specs.ids.OwnIds.{id_of_put}
use Rattle.law_hostile.specs.placed.Placed.{watched_to}
use Rattle.law_hostile.specs.dialogs.OwnDialogs.{goes_on_line, HasItsId}
use Rattle.law_hostile.specs.meant.Heard.{FitsRequest}
use Rattle.law_hostile.specs.replied.Replies.{answer_said, IsAnswer}
use Rattle.law_hostile.specs.replied.Taken.{IsAside}
use Rattle.law_hostile.specs.replied.Told.{AnswersPut}
use Rattle.law_hostile.specs.replied.Awaited.{TakenRepliesAreAwaited}
use Rattle.law_hostile.proofs.puts.Growing.{put_stays, watches_run}
use Rattle.law_hostile.proofs.ids.Bearing.{bears_request}
use Rattle.law_hostile.proofs.ids.Rising.{own_ids_rise}
use Rattle.law_hostile.proofs.finals.Signing.{Holds, start_holds, fine_of}
use Rattle.law_hostile.proofs.meant.Reading.{Reads, reads_frame}
use Rattle.law_hostile.proofs.meant.Telling.{only_get, raw_of}
use Rattle.law_hostile.proofs.dialogs.Lined.{dialogs_come_first, awaited_was_put}
use Rattle.law_hostile.proofs.replied.Owning.{run_fine, taken_replies_answer_own}
use Rattle.law_hostile.proofs.replied.Responses.{IsLineHeader, meant_header}

-- ---- what a line reads is the frame's own header

read_by : (b c : Bool) (m : List ℕ) (y : HeardMessage) → (if b then (if c then Some (heard_in m) else None) else None) ≡ Some y → y ≡ heard_in m
read_by true true m y e = let q : Some (heard_in m) ≡ Some y = e in cc
read_by true false m y e = absurd (let q : None ≡ Some y = e in cc)
read_by false c m y e = absurd (let q : None ≡ Some y = e in cc)

answered_by : (has answers : Bool) (m : List ℕ) (y : HeardMessage)
    → if_response (if has then Some (heard_in m) else None) ≡ Some y → y ≡ heard_in m
answered_by true answers m y e = read_by true (is_response (header_in m)) m y e
answered_by false answers m y e = absurd (let q : None ≡ Some y = e in cc)

opened_by : (verified : Bool) (m : List ℕ) (y : HeardMessage)
    → if_response (response_in (if verified then Some m else None)) ≡ Some y → y ≡ heard_in m
opened_by true m y e = answered_by (has_header m) true m y e
opened_by false m y e = absurd (let q : None ≡ Some y = e in cc)

pub line_reads : (n : ClientEnd) (m : List ℕ) (y : HeardMessage) → n.encrypts ≡ false → line_response n m ≡ Some y → y ≡ heard_in m
line_reads n m y bare e =
    let text : line_text n m ≡ (if verifies n.keys.signing m then Some m else None) =
    ap (λ b. if b then opened n.keys false m else if verifies n.keys.signing m then Some m else None) bare in
    opened_by (verifies n.keys.signing m) m y (sym (ap (λ o. if_response (response_in o)) text) ∙ e)

-- ---- the id in a reply's text

spelled_id : (h : Header) (body : List ℕ) → (header_in (message_spelling h body)).message ≡ number_of (le 8 h.message)
unfolding header_in message_spelling bytes_at le
spelled_id h body = refl

signed_id : (s : Signer) (h : Header) (body : List ℕ) → (header_in (signed s (message_spelling h body))).message ≡ number_of (le 8 h.message)
unfolding header_in message_spelling signed bytes_at le
signed_id s h body = refl

text_id : (o : Option Signer) (h : Header) (body : List ℕ) → h.message < 2 ^ 64
    → (header_in (with_signature o h body)).message ≡ h.message
text_id None h body small = spelled_id h body ∙ number_of-le 8 h.message small
text_id (Some s) h body small = signed_id s (record h { flags = h.flags + 8 }) body ∙ number_of-le 8 h.message small

-- ---- indices

less_or : (i j : ℕ) → (i < j) ⊎ ((i ≡ j) ⊎ (j < i))
less_or zero zero = inr (inl refl)
less_or zero (suc j) = inl (omega arith)
less_or (suc i) zero = inr (inr (omega arith))
less_or (suc i) (suc j) = by (less_or i j)
  where
    by : (i < j) ⊎ ((i ≡ j) ⊎ (j < i)) → (suc i < suc j) ⊎ ((suc i ≡ suc j) ⊎ (suc j < suc i))
    by (inl l) = inl (omega (arith, l))
    by (inr (inl e)) = inr (inl (ap suc e))
    by (inr (inr l)) = inr (inr (omega (arith, l)))

never_less : (a b : ℕ) → a ≡ b → a < b → ⊥
never_less a b e l = absurd (omega (arith, e, l))

same_some : (x y : UpFrame) (o : Option UpFrame) → o ≡ Some x → o ≡ Some y → x ≡ y
same_some x y o e f = let q : Some x ≡ Some y = sym e ∙ f in cc

-- two frames of one id, put for one opening, are one
pub one_put : (z : WorldSettings) (es : List RepeatEvent) (i j : ℕ) (u v : UpFrame) → slice_get (repeated z es).ups i ≡ Some u
    → slice_get (repeated z es).ups j ≡ Some v → u.connection ≡ v.connection → u.opening ≡ v.opening → id_of_put u ≡ id_of_put v → u ≡ v
one_put z es i j u v at on c o e = by (less_or i j)
  where
    by : (i < j) ⊎ ((i ≡ j) ⊎ (j < i)) → u ≡ v
    by (inl l) = absurd (never_less (id_of_put u) (id_of_put v) e (own_ids_rise z es i j u v l at on c o))
    by (inr (inl q)) = same_some u v (slice_get (repeated z es).ups j) (subst (λ n. slice_get (repeated z es).ups n ≡ Some u) q at) on
    by (inr (inr l)) = absurd (never_less (id_of_put v) (id_of_put u) (sym e) (own_ids_rise z es j i v u l on at (sym c) (sym o)))

-- what was put before stays
pub run_split : (z : WorldSettings) (a b : List RepeatEvent) (r : RepeatWorld) → repeat_run z (a ++ b) r ≡ repeat_run z b (repeat_run z a r)
unfolding repeat_run
run_split z [] b r = refl
run_split z (e ∷ a) b r = run_split z a b (repeat_happens z r e)

pub put_before : (z : WorldSettings) (es before after : List RepeatEvent) (i : ℕ) (u : UpFrame) → es ≡ before ++ after
    → slice_get (watched_to z before).repeating.ups i ≡ Some u → slice_get (repeated z es).ups i ≡ Some u
put_before z es before after i u run at =
    let old : slice_get (repeated z before).ups i ≡ Some u =
    subst (λ (r : RepeatWorld). slice_get r.ups i ≡ Some u) (watches_run z before (watching (repeat_start z))) at in
    let grown = put_stays z after (repeated z before) in
    subst (λ (r : RepeatWorld). slice_get r.ups i ≡ Some u)
    (sym (ap (λ l. repeat_run z l (repeat_start z)) run ∙ run_split z before after (repeat_start z))) (grown.ups i u old)

-- ---- the request that was answered

-- the message that an end answered is the one of the frame that it was given
pub given_header : (z : WorldSettings) (t : Watched) (k place : ℕ) (e : SignedEntry) → Holds z t → (q : IsAnswer z t k place e)
    → (let c = q.checked in header_in q.put.frame ≡ c.header)
given_header z t k place e holds q =
    let f = (t.repeating.world.wires k).server_end in
    let g = fine_of z t holds place q.put q.at in
    let one = g.1 in
    let c = q.checked in
    let frame = q.put.frame in
    let first : slice_get q.frame.messages 0 ≡ Some c = ap (λ l. slice_get l 0) q.alone in
    let got : (q.frame.messages ≡ checked_as f false false true (heard_in frame) ∷ []) × (q.frame.server_end ≡ behind_turn f (header_in frame)) =
    subst (Reads f (heard_in frame)) q.checks (reads_frame f frame (heard_in frame) g.0 one.alone) in
    ap (λ (d : Checked). d.header) (only_get q.frame.messages (checked_as f false false true (heard_in frame)) c 0 got.0 first)

probe_not : (echo zeros : Bool) → echo ≡ false → (echo && zeros) ≡ true → ⊥
probe_not true zeros e f = absurd (cc)
probe_not false zeros e f = absurd (cc)

-- a line's request is neither of those
line_not_aside : (c : Checked) → IsLineHeader c.header → IsAside c → ⊥
line_not_aside c h (inl e) = absurd (let q : true ≡ false = sym e ∙ h.greets_not in cc)
line_not_aside c h (inr (inl e)) = absurd (let q : true ≡ false = sym e ∙ h.sets_not in cc)
line_not_aside c h (inr (inr e)) = probe_not (c.header.command == 13) (number 8 c.raw 40 == 0) h.asks_not e

pub op_line : (token : Token) (c : Command) → (token ≡ ForDialog → ⊥) → goes_on_line token c ≡ true
op_line ForDialog c own = absurd (own refl)
op_line (ForOp g) c own = refl
op_line (ForAttach g) c own = refl

line_of : (u : UpFrame) → HasItsId u.sent → 3 ≤ id_of_put u → goes_on_line u.sent.token u.sent.message.command ≡ true
line_of u h three = by (goes_on_line u.sent.token u.sent.message.command) refl
  where
    by : (b : Bool) → goes_on_line u.sent.token u.sent.message.command ≡ b → b ≡ true
    by true e = refl
    by false e = absurd (let l = h.0 e in omega (arith, l, three))

at_least : (a b : ℕ) → a ≡ b → 3 ≤ b → 3 ≤ a
at_least a b e l = omega (arith, e, l)

or_not : {P : Type 0} (A : Type 0) → (A ⊎ P) → (A → ⊥) → P
or_not A (inl a) f = absurd (f a)
or_not A (inr p) f = p

pub taken_are_awaited : AreHeadersLawful → AreCommandsLawful → TreeFacts → TakenRepliesAreAwaited
taken_are_awaited heads law trees z es k place d y token fitting alone all now fit at heard stage taken waits own =
    let t = watched_to z es in
    let same : t.repeating ≡ repeated z es = watches_run z es (watching (repeat_start z)) in
    let n = (t.repeating.world.wires k).client_end in
    let a = taken_replies_answer_own heads law trees z es k place d y fitting alone all now at heard stage taken in
    let w = a.answered in
    let q = w.answer in
    let c = q.checked in
    let b = watched_to z w.before in
    let holds = run_fine z w.before (watching (repeat_start z)) alone.offered (start_holds z) in
    let plain = run_fine z es (watching (repeat_start z)) alone.offered (start_holds z) in
    let ends = plain.plain.world.0 k in
    let read : y ≡ heard_in d.frame = line_reads n d.frame y ends.ends.bare taken in
    let fine = fine_of z b holds w.place q.put q.at in
    let bears = fine.1 in
    let request = bears_request z q.put.connection q.put.frame q.put.sent.message fine.0 (holds.bear.bear w.place q.put q.at) in
    let head = given_header z b w.k w.place a.entry holds q in
    let asked : c.header.message ≡ id_of_put q.put = ap (λ (h : Header). h.message) (sym head) ∙ bears.id_is in
    let small : c.header.message < 2 ^ 64 = subst (λ i. i < 2 ^ 64) (sym asked) request.small in
    let r = answer_said z b.repeating.world w.k q.frame c q.message in
    let id : y.header.message ≡ c.header.message =
    ap (λ (x : HeardMessage). x.header.message) read
    ∙ (ap (λ m. (header_in m).message) (sym a.text ∙ q.text) ∙ text_id r.signer _ _ small) in
    let u = awaited_was_put z es k y.header.message token
    (ap (λ (v : RepeatWorld). (v.world.wires k).client_end.awaited y.header.message) (sym same) ∙ waits) own in
    let given = put_before z es w.before (Give w.k true w.place ∷ w.after) w.place q.put w.run q.at in
    let line : goes_on_line u.put.sent.token u.put.sent.message.command ≡ true =
    op_line u.put.sent.token u.put.sent.message.command (λ e. own (sym u.token ∙ e)) in
    let three : 3 ≤ id_of_put u.put = (dialogs_come_first z es u.index u.put u.at).1 line in
    let higher : 3 ≤ id_of_put q.put = at_least (id_of_put q.put) (id_of_put u.put) (sym asked ∙ (sym id ∙ sym u.id)) three in
    let fits : FitsRequest z q.put.sent.message =
    fit w.place q.put (subst (λ (v : RepeatWorld). slice_get v.ups w.place ≡ Some q.put) (sym same) given)
    (line_of q.put (dialogs_come_first z es w.place q.put given) higher) in
    let header : IsLineHeader c.header =
    subst IsLineHeader head (meant_header heads z q.put.sent.message q.put.frame fits request.small request.meant bears.alone) in
    let f = (b.repeating.world.wires w.k).server_end in
    let raw : c.raw ≡ q.put.frame =
    raw_of f q.put.frame q.frame c 0 q.checks fine.0 bears.alone (ap (λ l. slice_get l 0) q.alone) in
    let h : AnswersPut z es a.entry w = or_not (IsAside c) a.own (line_not_aside c header) in
    let there = put_before z es w.before (Give w.k true w.place ∷ w.after) h.index h.put w.run h.at in
    let bearing = fine_of z b holds h.index h.put h.at in
    let bore = bearing.1 in
    let owned : id_of_put h.put ≡ c.header.message =
    sym bore.id_is ∙ (ap (λ m. (header_in m).message) (h.frame ∙ raw) ∙ ap (λ (x : Header). x.message) head) in
    let opened_at : h.put.opening ≡ u.put.opening =
    h.opening ∙ (a.opening ∙ (ap (λ (v : RepeatWorld). v.openings k) same ∙ sym u.opening)) in
    let one : h.put ≡ u.put =
    one_put z es h.index u.index h.put u.put there u.at (h.connection ∙ (a.here ∙ sym u.connection)) opened_at
    (owned ∙ (sym id ∙ sym u.id)) in
    record {
      entry = a.entry;
      text = a.text;
      answered = w;
      here = a.here;
      opening = a.opening;
      own = h;
      id = owned ∙ sym id;
      token = ap (λ (v : UpFrame). v.sent.token) one ∙ u.token;
    }
