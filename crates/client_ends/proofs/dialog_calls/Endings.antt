-- A logon that ends: its channel is bound, or its session accepted, whose TREE_CONNECT goes out.
use Rattle.std.proofs.Common.{◌≡◌, ℕ, ◌≤◌, nat_lt, Bool, true, false, ◌||◌, List, [], length}
use Rattle.std.proofs.Common.{Some, None, Result, Ok, Err, IfOk, refl, sym, ap, subst, ◌∙◌, arith}
use Rattle.std.specs.Prelude.{is_some}
use Rattle.spec_commands.specs.BodyOf.{body_of, tree_connect_value}
use Rattle.spec_commands.specs.Tables.{bit_if}
use Rattle.spec_wire.specs.credits.Purse.{after_add}
use Rattle.spec_exchange.specs.Client.{Apart, AskedTree, SaidSecond}
use Rattle.spec_exchange.specs.Commands.{TreeConnect}
use Rattle.spec_exchange.specs.Network.{ForDialog}
use Rattle.spec_exchange.specs.State.{Message}
use Rattle.crypto_sessions.specs.session_keys.Sealing.{HasCipher}
use Rattle.wire_bytes.specs.declared.headers.request.Request.{Request}
use Rattle.spec_wire.specs.messages.Table.{AreWritable}
use Rattle.spec_wire.specs.messages.TreeConnect.{tree_connect_request_whole}
use Rattle.law_wire.proofs.messages.Rows.{length-with_fields, size_of}
use Rattle.spec_world.specs.Ends.{ClientEnd}
use Rattle.spec_world.specs.Sending.{sealed_on, spent}
use Rattle.spec_world.specs.Dialog.{accepted_end, bound_end, own_final, paid_in, response_in, seals_told}
use Rattle.client_ends.specs.declared.ends.dialog.Dialog.{Dialog}
use Rattle.client_ends.specs.declared.ends.dialog.Stage.{Stage as DialogStage}
use Rattle.client_ends.specs.declared.ends.dialog.Stage.TheVariants as stages
use Rattle.client_ends.specs.declared.ends.line.Line.{Line}
use Rattle.client_ends.specs.ends.Shown.{IsStage, ShowsLine, ShowsStage, EndShowsTalk, ShowsTalking, token_of}
use Rattle.client_ends.specs.declared.response_faults.setup.Ended.{Ended}
use Rattle.client_ends.specs.response_faults.Judging.{JudgesFinal}
use Rattle.client_ends.proofs.response_faults.Forms.{headed}
use Rattle.client_ends.specs.line_calls.Sending.{IsRequest, LineSends}
use Rattle.client_ends.specs.dialog_calls.Ending.{CanConnect, IsTree, Readied, Remains, DialogTakes}
use Rattle.client_ends.specs.dialog_calls.Turning.{DialogComes, HearsMessage}
use Rattle.client_ends.specs.declared.dialog_calls.heard.Heard.{Heard}
use Rattle.client_ends.specs.declared.dialog_calls.heard.Heard.TheVariants.{Say, Accepted, Ready, Refused}
use Rattle.client_ends.proofs.dialog_calls.Behind.{paid_turn}
use Rattle.client_ends.proofs.dialog_calls.Ciphers.{final_cipher}
use Rattle.client_ends.proofs.dialog_calls.Lines.{keyed_line}

-- ---- its TREE_CONNECT

pub tree_size : (share : List ℕ) → CanConnect share → length (body_of (TreeConnect share)) ≤ 1113996
unfolding body_of size_of
tree_size share short =
    let fits : AreWritable (tree_connect_request_whole (tree_connect_value share)) =
    (omega arith, (omega arith, (omega arith, (short, (refl, tt))))) in
    let size = length-with_fields (tree_connect_request_whole (tree_connect_value share)) [] fits in
    omega (arith, size, short)

pub no_flags : (replay : Bool) (flag : ℕ) → replay ≡ false → 0 ≡ bit_if replay flag
unfolding bit_if
no_flags false flag e = refl
no_flags true flag e = absurd cc

abbrev tree_message : ℕ → ℕ → List ℕ → Message
tree_message id session share = record {
  connection = 0;
  client_guid = 0;
  session_id = session;
  tree_id = 0;
  message_id = id;
  channel_sequence = 0;
  replay = false;
  fault = None;
  command = TreeConnect share;
}

a_tree : (id session : ℕ) (share : List ℕ) → IsTree (tree_message id session share) id session share
a_tree id session share = record {
  said = record { number = refl; logon = refl; tree = refl; sequence = refl; replay = refl };
  command = refl;
}

pub readied : (d new : Dialog) (mid : Line) (n : ClientEnd) (e : Ended) (r : Request) (frame : List ℕ) → EndShowsTalk d.line n
    → DialogTakes d.line e 1 mid → n.keys ≡ e.keys → n.encrypts ≡ e.encrypts → n.channel ≡ 1 → n.counter ≡ 0
    → (e.encrypts ≡ true → HasCipher e.keys)
    → ((m : Message) (id : ℕ) → IsTree m id d.session d.config.share → IsRequest r m 1) → r.token ≡ 0
    → ((k : ClientEnd) (m : Message) (charge : ℕ) → ShowsLine mid k → IsRequest r m charge → m.message_id ≡ k.purse.next
    → LineSends k m charge (token_of r.token) new.line (Ok frame))
    → new.stage ≡ stages.AskedTree → Remains d new d.session → Readied d n e new (Accepted e.keys d.chosen frame)
readied d new mid n e r frame s t keys encrypts channel counter sealing asks token sends stage rest =
    let shows = keyed_line d.line mid n e 1 s t keys encrypts channel counter sealing in
    let one = a_tree n.purse.next d.session d.config.share in
    let sent = sends n (tree_message n.purse.next d.session d.config.share) 1 shows
    (asks (tree_message n.purse.next d.session d.config.share) n.purse.next one) refl in (
      refl,
      refl,
      λ m is. (sends n m 1 shows (asks m n.purse.next is) is.said.number).2,
      subst (λ (k : ℕ). ShowsLine new.line (sealed_on (spent n 1 (token_of k)))) token sent.3,
      stage,
      rest,
    )

-- ---- a channel is bound

binds_by : (d new : Dialog) (mid : Line) (n : ClientEnd) (b : Bool) (e : Ended) (m : List ℕ) (number : ℕ) → b ≡ true → ShowsTalking d n
    → EndShowsTalk mid (paid_in n e.header) → DialogTakes mid e number new.line → own_final n b d.session ≡ e.keys
    → seals_told m ≡ e.encrypts
    → (e.encrypts ≡ true → HasCipher e.keys) → new.stage ≡ stages.Joined → Remains d new d.session
    → DialogComes (SaidSecond b) d n (headed e.header m) number new (Accepted e.keys d.chosen [])
binds_by d new mid n false e m number binds t paid takes keys seals sealing stage rest = absurd cc
binds_by d new mid n true e m number binds t paid takes keys seals sealing stage rest =
    let behind : ClientEnd = bound_end n (headed e.header m) number in
    let shows = keyed_line mid new.line behind e number (record { purse = paid.purse; awaited = paid.awaited }) takes keys seals refl refl
    sealing in (
      sym keys,
      sym t.chosen,
      refl,
      record {
        stage = subst (λ (z : DialogStage). IsStage z (is_some new.bound) Apart) (sym stage) refl;
        shown = subst (λ (z : DialogStage). ShowsStage z new behind) (sym stage) shows;
      },
      rest,
    )

pub bound_turn : (d new : Dialog) (mid : Line) (n : ClientEnd) (e : Ended) (m : List ℕ) (number : ℕ) (h : Heard)
    → is_some d.bound ≡ true → ShowsTalking d n → JudgesFinal d.config n (is_some d.bound) d.session m (Ok e)
    → EndShowsTalk mid (paid_in n e.header) → DialogTakes mid e number new.line → new.stage ≡ stages.Joined → h
    ≡ Accepted e.keys d.chosen []
    → Remains d new d.session → HearsMessage (SaidSecond (is_some d.bound)) d n (response_in (Some m)) number new h
bound_turn d new mid n e m number h binds t j paid takes stage told rest =
    subst (λ (x : Heard). HearsMessage (SaidSecond (is_some d.bound)) d n (response_in (Some m)) number new x) (sym told)
    (paid_turn (SaidSecond (is_some d.bound)) d new n m number e.header (Accepted e.keys d.chosen []) j.1.0 j.1.1 j.0
    (ap (λ (b : Bool). b || nat_lt 0 (after_add e.header.credits n.purse).held) binds)
    (binds_by d new mid n (is_some d.bound) e m number binds t paid takes j.2 j.3 (final_cipher d n m e t j) stage rest))

-- ---- a session is accepted

accepts_by : (d new : Dialog) (mid : Line) (n : ClientEnd) (b : Bool) (e : Ended) (m : List ℕ) (number : ℕ) (h : Heard) → b ≡ false
    → ShowsTalking d n → own_final n b d.session ≡ e.keys
    → Readied (record d { line = mid }) (accepted_end n (headed e.header m) d.session) e new h
    → DialogComes (SaidSecond b) d n (headed e.header m) number new h
accepts_by d new mid n true e m number h none t keys r = absurd cc
accepts_by d new mid n false e m number (Accepted given chosen frame) none t keys r =
    let behind : ClientEnd = sealed_on (spent (accepted_end n (headed e.header m) d.session) 1 ForDialog) in (
      r.0 ∙ sym keys,
      r.1 ∙ sym t.chosen,
      r.2,
      record {
        stage = subst (λ (z : DialogStage). IsStage z (is_some new.bound) AskedTree) (sym r.4) refl;
        shown = subst (λ (z : DialogStage). ShowsStage z new behind) (sym r.4) r.3;
      },
      record { config = r.5.config; bound = r.5.bound; previous = r.5.previous; session = r.5.session },
    )
accepts_by d new mid n false e m number (Say frame) none t keys r = absurd r
accepts_by d new mid n false e m number (Ready line session tree) none t keys r = absurd r
accepts_by d new mid n false e m number (Refused why) none t keys r = absurd r

-- the credit that it takes, and the keys of the end that it goes out of
pub final_pays : (mid : Line) (n : ClientEnd) (b has : Bool) (e : Ended) → b ≡ false → EndShowsTalk mid (paid_in n e.header)
    → nat_lt 0 mid.purse.held ≡ has → (b || nat_lt 0 (after_add e.header.credits n.purse).held) ≡ has
final_pays mid n b has e none paid held = (λ i. none i || nat_lt 0 (paid.purse i).held) ∙ held

pub accepted_keys : (d : Dialog) (n : ClientEnd) (e : Ended) → is_some d.bound ≡ false → own_final n (is_some d.bound) d.session ≡ e.keys
    → own_final n false d.session ≡ e.keys
accepted_keys d n e none keys = ap (λ (b : Bool). own_final n b d.session) (sym none) ∙ keys

pub accepted_turn : {E : Type 0} (d new : Dialog) (mid : Line) (n : ClientEnd) (e : Ended) (m : List ℕ) (number : ℕ) (r : Result Heard E)
    → is_some d.bound ≡ false → ShowsTalking d n → JudgesFinal d.config n (is_some d.bound) d.session m (Ok e)
    → EndShowsTalk mid (paid_in n e.header) → nat_lt 0 mid.purse.held ≡ true
    → IfOk r (λ h. Readied (record d { line = mid }) (accepted_end n (headed e.header m) d.session) e new h)
    → IfOk r (λ h. HearsMessage (SaidSecond (is_some d.bound)) d n (response_in (Some m)) number new h)
accepted_turn d new mid n e m number (Ok h) none t j paid held r =
    paid_turn (SaidSecond (is_some d.bound)) d new n m number e.header h j.1.0 j.1.1 j.0
    (final_pays mid n (is_some d.bound) true e none paid held) (accepts_by d new mid n (is_some d.bound) e m number h none t j.2 r)
accepted_turn d new mid n e m number (Err why) none t j paid held r = tt
