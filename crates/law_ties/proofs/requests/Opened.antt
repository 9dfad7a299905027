-- A connection opens: its NEGOTIATE waits, as it was made, and all else stays tied.
use Rattle.std.proofs.Common.{◌≡◌, ℕ, ◌+◌, ◌<◌, ◌≤◌, ◌^◌, ◌==◌, Bool, true, false, if◌then◌else◌}
use Rattle.std.proofs.Common.{List, [], ◌∷◌, ◌++◌, length, take, refl, sym, ap, ◌∙◌, arith, Some, None, Ok}
use Rattle.std.specs.Prelude.{option_map}
use Rattle.std.proofs.lemmas.List.{length-take-le}
use Rattle.sha2.proofs.Facts256.{length-sha256}
use Rattle.spec_wire.specs.messages.Places.{le, number_of}
use Rattle.spec_wire.specs.messages.Header.{IsWritableHeader}
use Rattle.spec_wire.specs.declared.messages.header.Header.{Header}
use Rattle.spec_exchange.specs.Status.{success}
use Rattle.spec_exchange.specs.Commands.{Aside, has_bit}
use Rattle.spec_exchange.specs.State.{Message, Accept}
use Rattle.spec_exchange.specs.Client.{Client, Stage, SaidNegotiate}
use Rattle.spec_exchange.specs.Dialogs.{dialog_message}
use Rattle.spec_exchange.specs.Network.{Sent, ForDialog, Open, fresh, is_possible}
use Rattle.spec_exchange.specs.Step.{step}
use Rattle.spec_wire.specs.credits.Exchange.{Line, sends, first_line}
use Rattle.spec_wire.specs.credits.Purse.{after_spend, first_purse}
use Rattle.spec_commands.specs.CommandOf.{Told, heard_as as message_as, command_of, message_of}
use Rattle.spec_commands.specs.Tables.{bit_if}
use Rattle.spec_crypto.specs.declared.sessions.material.Keys.{Keys}
use Rattle.spec_world.specs.Settings.{WorldSettings, draw}
use Rattle.spec_world.specs.Messages.{messages_in}
use Rattle.spec_world.specs.Ends.{ClientEnd, ServerEnd, Logons, no_keys, first_server_end}
use Rattle.spec_world.specs.Negotiate.{negotiate_request_body, negotiate_status, client_told}
use Rattle.spec_world.specs.Hearing.{is_too_long, begins_sealed, opened_text, opened_by, text_of, checked_as, is_misplaced}
use Rattle.spec_world.specs.Connection.{told_of, heard_message}
use Rattle.spec_world.specs.Sending.{request_header, greeting_text}
use Rattle.spec_world.specs.World.{World, salt_of, greeting_of, first_client_end, fresh_wires, opened_wires}
use Rattle.spec_world.specs.Events.{bytes_later}
use Rattle.law_ties.specs.wire_facts.Fitting.{IsSent, IsMessage, Bare}
use Rattle.law_ties.specs.wire_facts.Lawful.{header_as, heard_under, IsLawful}
use Rattle.law_ties.specs.events.Links.{Shared, shared_of, Asked, AllAsked, Waiting, Talks, Waits, Lost, TieOf, IsTied}
use Rattle.law_ties.proofs.events.Keeping.{both_tables, false_open}
use Rattle.law_ties.specs.requests.Opened.{OpensAreKept}
use Rattle.law_ties.proofs.requests.Asking.{not_long, plain_by_tests, related_not}
use Rattle.law_ties.proofs.requests.Commands.{placed_well}

-- ---- the bytes that are drawn

draw_length : (seed : List ℕ) (n : ℕ) → length (draw seed n) ≡ 32
unfolding draw
draw_length seed n = length-sha256 (seed ++ le 8 n)

taken_length : (seed : List ℕ) (n count : ℕ) → count ≤ 32 → length (take count (draw seed n)) ≡ count
taken_length seed n count low = length-take-le count (draw seed n) (let e = draw_length seed n in omega (arith, e, low))

-- ---- the NEGOTIATE

abbrev greeting_message : Client → ℕ → Message
greeting_message c k = dialog_message c k 0 (SaidNegotiate c.live)

abbrev greeting_header : Client → ℕ → Header
greeting_header c k = request_header (greeting_message c k) 1 0 false

no_bits : (bit_if false 8 + bit_if false 0x2000_0000 < 256 ^ 4) × (has_bit (bit_if false 8 + bit_if false 0x2000_0000) 0x2000_0000 ≡ false)
unfolding bit_if has_bit
no_bits = (omega arith, refl)

header_fits : (c : Client) (k : ℕ) → IsWritableHeader (greeting_header c k)
header_fits c k =
    let low = no_bits.0 in (
      refl,
      (
        omega arith,
        (
          omega arith,
          (omega arith, (omega arith, (omega arith, (low, (omega arith, (omega arith, (omega arith, (omega arith, (refl, tt))))))))),
        ),
      ),
    )

sent : (c : Client) (k : ℕ) → IsSent (greeting_message c k) 1
sent c k = record {
  charge_fits = omega arith;
  channel_sequence = omega arith;
  message_id = omega arith;
  tree_id = omega arith;
  session_id = omega arith;
}

greeting_is : (z : WorldSettings) (w : World) (k : ℕ)
    → IsMessage (greeting_header w.values.client k) (negotiate_request_body z.client (salt_of z w)) (greeting_of z w k)
unfolding greeting_text
greeting_is z w k = Bare refl

-- what it tells the server
record IsGreeting (z : WorldSettings) (b : List ℕ) : Type 0 where
  status : negotiate_status b ≡ success
  client : client_told b ≡ number_of z.client.guid

named_first : (c : Client) (k : ℕ) (t : Told) (b : List ℕ) → command_of t (header_as (greeting_header c k) b) b ≡ Some (Aside t.negotiated)
unfolding command_of
named_first c k t b = refl

greeted_message : (z : WorldSettings) (c : Client) (k : ℕ) (t : Told) (b : List ℕ) → c.who.guid ≡ number_of z.client.guid
    → IsGreeting z b → t.connection ≡ k → t.client ≡ client_told b → t.fault ≡ None → t.negotiated ≡ negotiate_status b
    → message_of t (header_as (greeting_header c k) b) b ≡ Some (greeting_message c k)
unfolding message_of
greeted_message z c k t b guid g at client fault negotiated =
    let h = header_as (greeting_header c k) b in
    let same : message_as t h (Aside t.negotiated) ≡ greeting_message c k = (λ j. record {
      connection = at j;
      client_guid = (client ∙ (g.client ∙ sym guid)) j;
      session_id = 0;
      tree_id = 0;
      message_id = 0;
      channel_sequence = 0;
      replay = no_bits.1 j;
      fault = fault j;
      command = Aside ((negotiated ∙ g.status) j);
    }) in
    ap (option_map (message_as t h)) (named_first c k t b) ∙ ap Some same

greeting_heard : (z : WorldSettings) → IsLawful z → (w : World) (k : ℕ) → IsGreeting z (greeting_of z w k)
greeting_heard z law w k =
    let heard = law.greeting_heard in
    let all = heard.greeting (salt_of z w) (greeting_message w.values.client k) (taken_length z.seed w.draws 32 (omega arith))
    (sent w.values.client k) in record { status = all.0; client = all.2 }

-- it is read as what it was made for, by an end that heard nothing yet
greeting_text_is : (z : WorldSettings) → IsLawful z → (w : World) (k : ℕ) → length (greeting_of z w k) ≤ 66000
    → text_of None (greeting_of z w k)
    ≡ Ok (record { sealed = false; messages = heard_under (greeting_header w.values.client k) (greeting_of z w k) ∷ [] })
greeting_text_is z law w k short =
    let h = greeting_header w.values.client k in
    let b = greeting_of z w k in
    let body = negotiate_request_body z.client (salt_of z w) in
    let heads = law.headers in
    let is = greeting_is z w k in
    plain_by_tests (is_too_long None b) (begins_sealed b) (opened_text (opened_by None b)) (messages_in b) (heard_under h b)
    (not_long 66000 (length b) short) (heads.plain h body b is) (heads.alone h body b (header_fits w.values.client k) refl is)

greeting_asked : (z : WorldSettings) → IsLawful z → (w : World) (k : ℕ) (salt : List ℕ) → w.values.client.who.guid ≡ number_of z.client.guid
    → length (greeting_of z w k) ≤ 66000
    → Asked z w.logons k (first_server_end salt) (greeting_of z w k) (record {
      token = ForDialog;
      message = greeting_message w.values.client k;
    }) (0, 1)
greeting_asked z law w k salt guid short =
    let c = w.values.client in
    let b = greeting_of z w k in
    let f = first_server_end salt in
    let h = greeting_header c k in
    let x = heard_under h b in
    let d = checked_as f false false true x in
    let message : heard_message z.server w.logons k f d ≡ Some (greeting_message c k) =
    placed_well (is_misplaced d) (message_of (told_of z.server w.logons k f d) x.header b) (Some (greeting_message c k))
    (related_not false false)
    (greeted_message z c k (told_of z.server w.logons k f d) b guid (greeting_heard z law w k) refl refl refl refl) in record {
      reads = record {
        sealed = false;
        heard = x;
        text = greeting_text_is z law w k short;
        message = message;
        id = refl;
        charge = refl;
        turn = refl;
        first = λ e. refl;
      };
      fault = refl;
      credits = refl;
      counts = refl;
      apart = related_not false false;
      charge_fits = omega arith;
      command_fits = omega arith;
      message_fits = omega arith;
      sealing = λ e. false_open e;
      plain = λ e. refl;
      kind = λ e. false_open e;
      tree = λ e q. false_open q;
    }

-- ---- the connection

-- a line of one request, which is paid for
abbrev begun_line : Line
begun_line = record first_line { purse = after_spend 1 first_purse; requests = (0, 1) ∷ [] }

-- what waits, by whether the server accepted
abbrev ups : List ℕ → Bool → List (List ℕ)
ups b served = if served then b ∷ [] else []

abbrev sents : Sent → Bool → List Sent
sents x served = if served then x ∷ [] else []

asked_if : (z : WorldSettings) (L : Logons) (k : ℕ) (f : ServerEnd) (b : List ℕ) (x : Sent) (served : Bool) → Asked z L k f b x (0, 1)
    → served ≡ true → AllAsked z L k f (ups b served) (sents x served) ((0, 1) ∷ [])
asked_if z L k f b x true a e = (a, tt)
asked_if z L k f b x false a e = false_open e

live_keys : (live : Bool) (keys : Keys) → live ≡ true → (if live then keys else no_keys) ≡ keys
live_keys live keys e = ap (λ b. if b then keys else no_keys) e

greeting_waits : (z : WorldSettings) → IsLawful z → (w : World) (k : ℕ) → length (greeting_of z w k) ≤ 66000
    → Waiting z (shared_of w.values.client w.keys w.logons) k (first_client_end z w (greeting_of z w k))
    (first_server_end (take 32 (draw z.seed (w.draws + 3)))) (greeting_of z w k) (record {
      token = ForDialog;
      message = greeting_message w.values.client k;
    }) [] (SaidNegotiate w.values.client.live)
greeting_waits z law w k short =
    let heard = law.greeting_heard in
    let told = heard.greeting (salt_of z w) (greeting_message w.values.client k) (taken_length z.seed w.draws 32 (omega arith))
    (sent w.values.client k) in record {
      heard = heard_under (greeting_header w.values.client k) (greeting_of z w k);
      opens = greeting_text_is z law w k short;
      alone = refl;
      token = refl;
      command = refl;
      header = refl;
      awaits = refl;
      below = omega arith;
      no_grants = refl;
      no_keys = refl;
      behind = (refl, refl, refl);
      carries = record {
        salt = salt_of z w;
        message = greeting_message w.values.client k;
        is = refl;
        salted = taken_length z.seed w.draws 32 (omega arith);
        sequence = refl;
        id = refl;
        tree = refl;
        session = refl;
        told = told.1;
        client = told.2;
      };
    }

talks_if : (z : WorldSettings) (s : Shared) (k : ℕ) (n : ClientEnd) (f : ServerEnd) (b : List ℕ) (x : Sent) (l : Line) (stage : Stage)
    (served : Bool) → Waiting z s k n f b x l.grants stage → Talks z s k served n f (ups b served) [] (sents x served) [] l stage
talks_if z s k n f b x l stage true i = Waits b x refl refl refl refl (λ e. i)
talks_if z s k n f b x l stage false i = Lost refl refl refl refl refl

opened_tie : (z : WorldSettings) → IsLawful z → (w : World) (k : ℕ) (served : Bool) → w.values.client.who.guid ≡ number_of z.client.guid
    → length (greeting_of z w k) ≤ 66000
    → TieOf z w.values.client.op (shared_of w.values.client w.keys w.logons) k (fresh w.values.client k served)
    (fresh_wires z w (greeting_of z w k) served)
opened_tie z law w k served guid short =
    let c = w.values.client in
    let s = shared_of c w.keys w.logons in
    let b = greeting_of z w k in
    let x : Sent = record { token = ForDialog; message = greeting_message c k } in
    let salt = take 32 (draw z.seed (w.draws + 3)) in
    let f = first_server_end salt in
    let n = first_client_end z w b in record {
      link = record {
        line = begun_line;
        reached = record { steps = sends 1 ∷ []; is = refl };
        purse = refl;
        window = λ o. refl;
        counted = λ o. omega arith;
        asked = λ o. asked_if z w.logons k f b x served (greeting_asked z law w k salt guid short) o;
        awaited = λ q o. false_open q;
        answers = λ q. false_open q;
        session_fits = λ q. false_open q;
        sealable = λ q. false_open q;
        keys = λ q o. false_open q;
        encrypts = λ q o. false_open q;
        greeted = λ q o. false_open q;
      };
      bound_keys = λ o e. live_keys c.live w.keys e;
      talk = λ o e. talks_if z s k n f b x begun_line (SaidNegotiate c.live) served (greeting_waits z law w k short);
      purse = λ o e. refl;
      logon = λ o. (taken_length z.seed (w.draws + 1) 8 (omega arith), taken_length z.seed (w.draws + 2) 16 (omega arith));
      salted = λ o. taken_length z.seed (w.draws + 3) 32 (omega arith);
    }

opened_ties : (z : WorldSettings) → IsLawful z → (w : World) (k : ℕ) → IsTied z w → w.values.client.who.guid ≡ number_of z.client.guid
    → length (greeting_of z w k) ≤ 66000 → IsTied z (opened_wires z w k)
opened_ties z law w k i guid short =
    let c = w.values.client in
    let s = shared_of c w.keys w.logons in
    let served = (step w.values.server w.values.moment (Accept k)).reply.status == success in
    let p = fresh c k served in
    let v = fresh_wires z w (greeting_of z w k) served in record {
      tied = both_tables (TieOf z c.op s) w.values.conns w.wires k p v (opened_tie z law w k served guid short) (λ j e. i.tied j);
      stages = λ j. elim (j == k) as (λ b. j == k ≡ b → (if b then p else w.values.conns j).client_open ≡ true
          → (if b then v else w.wires j).client_end.stage ≡ (if b then SaidNegotiate c.live else c.stage j)) [
            | true ↦ λ e o. refl
            | false ↦ λ e. i.stages j
          ] refl;
      nexts = both_tables (λ j r q. r.client_open ≡ true → q.client_end.purse.next ≡ r.next_id) w.values.conns w.wires k p v (λ o. refl)
          (λ j e. i.nexts j);
      own_keys = i.own_keys;
    }

open_by : (z : WorldSettings) (w v : World) (b : Bool) → IsTied z w → IsTied z v → IsTied z (if b then bytes_later v 1 else w)
open_by z w v true i j = j
open_by z w v false i j = i

pub opens : OpensAreKept
opens z w k law i guid short = open_by z w (opened_wires z w k) (is_possible w.values (Open k)) i (opened_ties z law w k i guid short)
