-- What a server's end does with a frame of the client in a repeat run: it closes, or it hears one message, which takes a place.
use Rattle.std.proofs.Common.{◌≡◌, ℕ, ◌==◌, Bool, true, false, if◌then◌else◌, List, [], ◌∷◌, ◌⊎◌, inl, inr, refl, sym, ap, ◌∙◌, subst, arith, eqb-true}
use Rattle.std.proofs.Common.{Some, None, slice_get, Result, Ok, Err}
use Rattle.std.specs.Prelude.{option_map}
use Rattle.spec_wire.specs.declared.messages.header.Header.{Header}
use Rattle.spec_exchange.specs.Commands.{Command, Unreadable, Aside, Setup, Logoff, TreeConnect, TreeDisconnect, Create, Close, Flush}
use Rattle.spec_exchange.specs.Commands.{Read, Write, Lock, Ioctl, ListDirectory, QueryFile, QueryVolume, SetInfo}
use Rattle.spec_exchange.specs.State.{Message}
use Rattle.spec_exchange.specs.Operations.{charge as charge_of}
use Rattle.spec_exchange.specs.Network.{answer_to}
use Rattle.spec_commands.specs.BodyOf.{number_of_command}
use Rattle.spec_commands.specs.CommandOf.{Told, heard_as, command_of, message_of, named_command}
use Rattle.spec_world.specs.Settings.{WorldSettings, ServerSettings}
use Rattle.spec_world.specs.Messages.{header_in, heard_in}
use Rattle.spec_world.specs.Ends.{ServerEnd, Logons, ConnEnd}
use Rattle.spec_world.specs.Hearing.{Checked, Frame, check_frame, checked_as, is_misplaced}
use Rattle.spec_world.specs.Connection.{heard_message, told_of, placed, misplaced}
use Rattle.spec_hostile.specs.RepeatRuns.{RepeatWorld, UpFrame, is_served, given_up}
use Rattle.law_hostile.specs.meant.Meant.{IsMeant, AsksNegotiate, AsksSetup, AsksLine, bytes_moved}
use Rattle.law_hostile.proofs.ids.Bearing.{IsRequest, bears_one, bears_request}
use Rattle.law_hostile.proofs.meant.Reading.{Reads, reads_frame}
use Rattle.law_hostile.proofs.finals.Replying.{IsLone, Lone, lone_frame}
use Rattle.law_hostile.proofs.greeted.Bytes.{setup_command, line_command}
use Rattle.law_hostile.proofs.greeted.Greeting.{AllFine}
use Rattle.law_hostile.proofs.setups.Own.{greeting_command}
use Rattle.law_hostile.proofs.loosely.Serving.{Took}
use Rattle.law_hostile.proofs.loosely.Giving.{given_took}

-- ---- the client sends no CANCEL

never_twelve : (c : Command) → number_of_command c ≡ 12 → ⊥
never_twelve (TreeConnect share) e = absurd (let h : 3 ≡ 12 = e in omega (arith, h))
never_twelve (Create request) e = absurd (let h : 5 ≡ 12 = e in omega (arith, h))
never_twelve (Close file query) e = absurd (let h : 6 ≡ 12 = e in omega (arith, h))
never_twelve (Flush file) e = absurd (let h : 7 ≡ 12 = e in omega (arith, h))
never_twelve (Read file at size minimum channel) e = absurd (let h : 8 ≡ 12 = e in omega (arith, h))
never_twelve (Write file at bytes channel) e = absurd (let h : 9 ≡ 12 = e in omega (arith, h))
never_twelve (Lock file index number elements) e = absurd (let h : 10 ≡ 12 = e in omega (arith, h))
never_twelve (ListDirectory file class restart single pattern room) e = absurd (let h : 14 ≡ 12 = e in omega (arith, h))
never_twelve (QueryFile file class room) e = absurd (let h : 16 ≡ 12 = e in omega (arith, h))
never_twelve (SetInfo file setting) e = absurd (let h : 17 ≡ 12 = e in omega (arith, h))
never_twelve (Unreadable status) e = absurd (let h : 0 ≡ 12 = e in omega (arith, h))
never_twelve (Aside status) e = absurd (let h : 0 ≡ 12 = e in omega (arith, h))
never_twelve (Setup request) e = absurd (let h : 0 ≡ 12 = e in omega (arith, h))
never_twelve Logoff e = absurd (let h : 0 ≡ 12 = e in omega (arith, h))
never_twelve TreeDisconnect e = absurd (let h : 0 ≡ 12 = e in omega (arith, h))
never_twelve (Ioctl file code room) e = absurd (let h : 0 ≡ 12 = e in omega (arith, h))
never_twelve (QueryVolume file class room) e = absurd (let h : 0 ≡ 12 = e in omega (arith, h))

zero_not : (a : ℕ) → a ≡ 0 → a ≡ 12 → ⊥
zero_not a e f = absurd (omega (arith, e, f))

one_not : (a : ℕ) → a ≡ 1 → a ≡ 12 → ⊥
one_not a e f = absurd (omega (arith, e, f))

meant_not : (z : WorldSettings) (frame : List ℕ) (m : Message) → IsMeant z frame m → (header_in frame).command ≡ 12 → ⊥
meant_not z frame m (AsksNegotiate n command e) twelve = zero_not (header_in frame).command (greeting_command z _ m frame e) twelve
meant_not z frame m (AsksSetup n r token command sequence own e) twelve =
    one_not (header_in frame).command (setup_command n r.binding r.previous token m frame e) twelve
meant_not z frame m (AsksLine s e) twelve =
    never_twelve m.command (sym (line_command s m (charge_of (bytes_moved m.command)) frame e) ∙ twelve)

placed_some : (t : Told) (h : Header) (broken : Bool) (c : Command) → (m : Message) × (placed broken (Some (heard_as t h c)) ≡ Some m)
placed_some t h true c = (misplaced (heard_as t h c), refl)
placed_some t h false c = (heard_as t h c, refl)

heard_some : (z : ServerSettings) (L : Logons) (k : ℕ) (f : ServerEnd) (c : Checked) → (c.header.command ≡ 12 → ⊥)
    → (m : Message) × (heard_message z L k f c ≡ Some m)
unfolding message_of command_of
heard_some z L k f c other = by (c.header.command == 12) refl
  where
    by : (b : Bool) → (c.header.command == 12) ≡ b → (m : Message) × (heard_message z L k f c ≡ Some m)
    by true e = absurd (other (eqb-true c.header.command 12 e))
    by false e =
        let t = told_of z L k f c in
        let p = placed_some t c.header (is_misplaced c) (named_command c.header.command t c.header c.bytes) in (
          p.0,
          ap (λ b. placed (is_misplaced c)
              (option_map (heard_as t c.header) (if b then None else Some (named_command c.header.command t c.header c.bytes)))) e ∙ p.1,
        )

-- ---- the step

pub record HearsOne (z : WorldSettings) (r : RepeatWorld) (k : ℕ) (u : UpFrame) : Type 0 where
  pub frame : Frame
  pub checks : check_frame (r.world.wires k).server_end u.frame ≡ Ok frame
  pub plain : frame.sealed ≡ false
  pub checked : Checked
  pub alone : frame.messages ≡ checked ∷ []
  pub is : checked ≡ checked_as (r.world.wires k).server_end false false true (heard_in u.frame)
  pub message : Message
  pub heard : heard_message z.server r.world.logons k frame.server_end checked ≡ Some message
  pub took :
      Took r.world.values (given_up z r k u).world.values message
      (answer_to r.world.values.server r.world.values.moment message message.command)

abbrev pub StepsUp : WorldSettings → RepeatWorld → ℕ → UpFrame → Type 0
StepsUp z r k u =
    ((why : ConnEnd) × (check_frame (r.world.wires k).server_end u.frame ≡ Err why)) ⊎ HearsOne z r k u

hears_one : (z : WorldSettings) (r : RepeatWorld) (k : ℕ) (u : UpFrame) (x : Frame) → is_served r.world k ≡ true
    → IsRequest z u.connection u.frame u.sent.message → Reads (r.world.wires k).server_end (heard_in u.frame) (Ok x) → IsLone x
    → check_frame (r.world.wires k).server_end u.frame ≡ Ok x → HearsOne z r k u
hears_one z r k u x on own reads one ok =
    let c = checked_as (r.world.wires k).server_end false false true (heard_in u.frame) in
    let h = heard_some z.server r.world.logons k x.server_end c (meant_not z u.frame u.sent.message own.meant) in
    record {
      frame = x;
      checks = ok;
      plain = one.sealed;
      checked = c;
      alone = reads.0;
      is = refl;
      message = h.0;
      heard = h.1;
      took = given_took z r k u x c h.0 on ok one.sealed reads.0 h.1;
    }

pub steps_up : (z : WorldSettings) (r : RepeatWorld) (k i : ℕ) (u : UpFrame) → AllFine z r → slice_get r.ups i ≡ Some u
    → is_served r.world k ≡ true → StepsUp z r k u
steps_up z r k i u fine at on = by (check_frame f u.frame) refl
  where
    f : ServerEnd
    f = (r.world.wires k).server_end

    by : (q : Result Frame ConnEnd) → check_frame (r.world.wires k).server_end u.frame ≡ q → StepsUp z r k u
    by (Err why) e = inl (why, e)
    by (Ok x) e =
        let bare = fine.1.ups i u at in
        let bears = fine.0.bear i u at in
        let one = bears_one z u.connection u.frame u.sent.message bare bears in
        inr (hears_one z r k u x on (bears_request z u.connection u.frame u.sent.message bare bears)
        (subst (Reads (r.world.wires k).server_end (heard_in u.frame)) e
        (reads_frame (r.world.wires k).server_end u.frame (heard_in u.frame) bare one.alone))
        (subst Lone e (lone_frame (r.world.wires k).server_end u.frame bare one.alone)) e)
