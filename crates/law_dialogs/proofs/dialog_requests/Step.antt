-- The step of a dialog's request, which isn't sealed: its end, its logons and its one frame, spelled out.
use Rattle.std.proofs.Common.{◌≡◌, ℕ, ◌==◌, ◌≤◌, Bool, true, false, ◌&&◌, ◌||◌, if◌then◌else◌, List, [], ◌∷◌, refl, sym, ap, ◌∙◌}
use Rattle.std.proofs.Common.{subst, arith, Option, Some, None}
use Rattle.std.proofs.lemmas.List.{append-nil}
use Rattle.spec_exchange.specs.Status.{success, more_processing_required, access_denied}
use Rattle.spec_exchange.specs.State.{Server, Reply}
use Rattle.spec_exchange.specs.Network.{Sent, answer}
use Rattle.spec_wire.specs.messages.Places.{number}
use Rattle.spec_wire.specs.credits.Window.{HeldIds}
use Rattle.spec_world.specs.Settings.{WorldSettings}
use Rattle.spec_world.specs.Messages.{HeardMessage}
use Rattle.spec_world.specs.Ends.{ServerEnd, Logons}
use Rattle.spec_world.specs.Hearing.{behind_turn, checked_as, fault_of, is_protected}
use Rattle.spec_world.specs.Related.{Carry}
use Rattle.spec_world.specs.Logon.{Progress, Stays, Interim, Final, setup_progress, progress, channel_in, logons_behind}
use Rattle.spec_world.specs.Logon.{signer_by, unless_faulty}
use Rattle.spec_world.specs.Answering.{SaidReply, said_text, gathered, texts_of, all_texts, concatenated, each_joined}
use Rattle.spec_world.specs.Answering.{server_end_moved, server_end_behind, told_each}
use Rattle.spec_world.specs.Connection.{LastTaken, answered, went_by, beginning}
use Rattle.spec_world.specs.World.{World, step_at}
use Rattle.law_ties.specs.events.Fronts.{MayServe}
use Rattle.law_ties.specs.events.Links.{Asked}
use Rattle.law_ties.proofs.events.Serving.{step_is}
use Rattle.law_ties.proofs.requests.Answering.{LineStep, counted_end, going_with}
use Rattle.law_ties.proofs.requests.Linking.{end_behind}
use Rattle.law_ties.proofs.requests.Line.{fresh_of, checked_of, said_of}
use Rattle.spec_commands.specs.ReplyBody.{seals_in}

-- ---- what is said, and what is left

abbrev pub progress_by : World → Sent → Progress
progress_by w x = progress x.message.command (answer w.values x).reply

abbrev pub said_by : WorldSettings → World → ℕ → HeardMessage → Sent → SaidReply
said_by z w k h x = said_of z w k false h x

abbrev pub text_by : WorldSettings → World → ℕ → HeardMessage → Sent → List ℕ
text_by z w k h x = said_text false false (said_by z w k h x)

-- but for what the reply changes
abbrev pub counted_by : World → ℕ → HeardMessage → ServerEnd
counted_by w k h = end_behind (w.wires k).server_end h.header false

abbrev pub end_by : WorldSettings → World → ℕ → HeardMessage → Sent → ServerEnd
end_by z w k h x = server_end_behind (counted_by w k h) (said_by z w k h x) (text_by z w k h x)

abbrev pub logons_to : WorldSettings → World → ℕ → HeardMessage → Progress → Logons
logons_to z w k h p =
    logons_behind z.server.users w.logons k (behind_turn (w.wires k).server_end h.header) (checked_of w k false h) (fresh_of z w)
    w.values.moment p

abbrev pub logons_by : WorldSettings → World → ℕ → HeardMessage → Sent → Logons
logons_by z w k h x = logons_to z w k h (progress_by w x)

-- ---- who signs it, by what it comes to: a SESSION_SETUP owes nothing here

setup_owes : (f : ServerEnd) (h : HeardMessage) → h.header.command ≡ 1 → fault_of f false false h ≡ None
setup_owes f h e =
    ap (λ n. if (n == 0) || ((n == 1) || ((n == 13) && (number 8 h.bytes 40 == 0))) then None
    else if is_protected f false h then None else Some access_denied) e

pub signer_now : (z : WorldSettings) (w : World) (k : ℕ) (h : HeardMessage) (x : Sent) (p : Progress) → h.header.command ≡ 1
    → progress_by w x ≡ p
    → (said_by z w k h x).signer
    ≡ signer_by (answer w.values x).server z.server.users w.logons k (behind_turn (w.wires k).server_end h.header) (checked_of w k false h)
    x.message.command (answer w.values x).reply.status p
signer_now z w k h x p e is =
    let A = answer w.values x in
    let f = (w.wires k).server_end in
    let by = signer_by A.server z.server.users w.logons k (behind_turn f h.header) (checked_of w k false h) x.message.command A.reply.status in
    ap (λ (o : Option ℕ). unless_faulty o (by (progress_by w x))) (setup_owes f h e) ∙ ap by is

one_dialog : (f : ServerEnd) (s : Server) (L : Logons) (window : HeldIds) (carried : Option Carry)
    (taken : Option LastTaken) (r : SaidReply)
    → LineStep (answered f false (going_with s L window carried taken r)) L
    (server_end_behind (counted_end f false window) r (said_text false false r)) (said_text false false r)
unfolding gathered texts_of all_texts each_joined concatenated told_each
one_dialog f s L window carried taken r = record {
  logons = refl;
  server_end = refl;
  frames = ap (λ t. t ∷ []) (append-nil (said_text false false r));
  ends = refl;
}

pub served : (z : WorldSettings) (w : World) (k : ℕ) (b : List ℕ) (x : Sent) (q : ℕ × ℕ)
    (a : Asked z w.logons k (w.wires k).server_end b x q) → MayServe (w.wires k).server_end q → a.reads.sealed ≡ false
    → LineStep (step_at z w k b) (logons_by z w k a.reads.heard x) (end_by z w k a.reads.heard x) (text_by z w k a.reads.heard x)
served z w k b x q a may plain =
    let f = (w.wires k).server_end in
    let r = a.reads in
    let h = r.heard in
    let F = behind_turn f h.header in
    let now = w.values.moment in
    let fresh = fresh_of z w in
    let m = x.message in
    let A = answer w.values x in
    let going = λ (sealed : Bool).
    went_by z.server k now fresh F (beginning w.values.server w.logons F) (checked_as f sealed false true h) m A in
    let G = going false in
    let same : step_at z w k b ≡ answered F false G = step_is z w k b x q r may ∙ ap (λ sealed. answered F sealed (going sealed)) plain in
    subst (λ S. LineStep S (logons_by z w k h x) (end_by z w k h x) (text_by z w k h x)) (sym same)
    (one_dialog F G.server G.logons G.window G.carried G.taken (said_by z w k h x))

-- ---- the end behind it, by the progress

pub same_window : (f : ServerEnd) (r : SaidReply) (text : List ℕ) (p : Progress) → (server_end_moved f r text p).window ≡ f.window
same_window f r text Stays = refl
same_window f r text (Interim binding) = refl
same_window f r text (Final binding channel encrypts) = refl

pub same_salt : (f : ServerEnd) (r : SaidReply) (text : List ℕ) (p : Progress) → (server_end_moved f r text p).salt ≡ f.salt
same_salt f r text Stays = refl
same_salt f r text (Interim binding) = refl
same_salt f r text (Final binding channel encrypts) = refl

pub less_counted : (f : ServerEnd) (r : SaidReply) (text : List ℕ) (p : Progress) → (server_end_moved f r text p).counter ≤ f.counter
less_counted f r text Stays = omega arith
less_counted f r text (Interim binding) = omega arith
less_counted f r text (Final binding channel encrypts) = omega arith

-- ---- the progress, by the status

pub interim_is : (binding bound : Bool) (r : Reply) → binding ≡ bound → (r.status == more_processing_required) ≡ true
    → setup_progress binding r ≡ Interim bound
interim_is binding bound r e ok =
    ap (λ b. if b then Interim binding else if r.status == success then Final binding (channel_in r.body) (seals_in r.body) else Stays) ok
    ∙ ap Interim e

pub final_is : (binding bound : Bool) (r : Reply) → binding ≡ bound → r.status ≡ success
    → setup_progress binding r ≡ Final bound (channel_in r.body) (seals_in r.body)
final_is binding bound r e ok =
    ap (λ n. if n == more_processing_required then Interim binding
    else if n == success then Final binding (channel_in r.body) (seals_in r.body) else Stays) ok
    ∙ ap (λ b. Final b (channel_in r.body) (seals_in r.body)) e
