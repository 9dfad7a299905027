-- A line's command has a header that is neither a NEGOTIATE's nor a SESSION_SETUP's nor an ECHO's, and leaves logons as they are.
use Rattle.std.proofs.Common.{◌≡◌, ℕ, ◌==◌, Bool, true, false, if◌then◌else◌, List, refl, sym, ap, ◌∙◌, subst, eqb-true, Option, Some}
use Rattle.std.proofs.Common.{None}
use Rattle.std.specs.Prelude.{option_map}
use Rattle.spec_wire.specs.declared.messages.header.Header.{Header}
use Rattle.spec_wire.specs.declared.messages.error.MessageError.{MessageError}
use Rattle.spec_wire.specs.messages.SessionSetup.{SessionSetupRequestValue, session_setup_request_fault, session_setup_request_in}
use Rattle.spec_exchange.specs.Commands.{Command, Aside, Setup}
use Rattle.spec_exchange.specs.State.{Server, Message, Reply}
use Rattle.spec_commands.specs.CommandOf.{Told, heard_as, setup_if, setup_in, named_command, command_of, message_of}
use Rattle.spec_world.specs.Ends.{ServerEnd, Logons}
use Rattle.spec_world.specs.Hearing.{Checked}
use Rattle.spec_world.specs.Logon.{Stays, progress, staying_signer, plain_signer}
use Rattle.spec_world.specs.Connection.{placed}
use Rattle.law_ties.specs.requests.Lines.{is_lines}

apart : {P : Type 0} (b : Bool) → b ≡ true → b ≡ false → P
apart b e f = absurd (let h : true ≡ false = sym e ∙ f in cc)

-- ---- a message that isn't misplaced is heard by its bytes

pub placed_well : (broken : Bool) (o p : Option Message) → broken ≡ false → o ≡ p → placed broken o ≡ p
placed_well true o p e f = absurd (let q : true ≡ false = e in cc)
placed_well false o p e f = f

pub well_placed : (broken : Bool) (o p : Option Message) → broken ≡ false → placed broken o ≡ p → o ≡ p
well_placed true o p e f = absurd (let q : true ≡ false = e in cc)
well_placed false o p e f = f

-- ---- the header

pub same_of : (y x : Message) → Some y ≡ Some x → y ≡ x
same_of y x e = cc

named_by : (t : Told) (h : Header) (c : Command) (x : Message) (b : Bool)
    → option_map (heard_as t h) (if b then None else Some c) ≡ Some x → c ≡ x.command
named_by t h c x true e = absurd (let q : None ≡ Some x = e in cc)
named_by t h c x false e = ap (λ (v : Message). v.command) (same_of (heard_as t h c) x e)

pub named_at : (t : Told) (h : Header) (m : List ℕ) (x : Message) → message_of t h m ≡ Some x → named_command h.command t h m ≡ x.command
unfolding message_of command_of
named_at t h m x e = named_by t h (named_command h.command t h m) x (h.command == 12) e

setup_by : (t : Told) (h : Header) (o : Option MessageError) (v : SessionSetupRequestValue) → is_lines (setup_if t h o v) ≡ false
setup_by t h None v = refl
setup_by t h (Some e) v = refl

setup_is : (t : Told) (h : Header) (m : List ℕ) → is_lines (setup_in t h m) ≡ false
unfolding setup_in
setup_is t h m = setup_by t h (session_setup_request_fault m) (session_setup_request_in m)

line_by : (first second : Bool) (status : ℕ) (s rest c : Command) → (if first then Aside status else if second then s else rest) ≡ c
    → is_lines s ≡ false → is_lines c ≡ true → (first ≡ false) × (second ≡ false)
line_by true second status s rest c e f g = absurd (let h : false ≡ true = ap is_lines e ∙ g in cc)
line_by false true status s rest c e f g = absurd (let h : false ≡ true = sym f ∙ (ap is_lines e ∙ g) in cc)
line_by false false status s rest c e f g = (refl, refl)

pub line_header : (t : Told) (h : Header) (m : List ℕ) (x : Message) → message_of t h m ≡ Some x → is_lines x.command ≡ true
    → ((h.command == 0) ≡ false) × ((h.command == 1) ≡ false)
line_header t h m x e line =
    line_by (h.command == 0) (h.command == 1) t.negotiated (setup_in t h m) _ x.command (named_at t h m x e) (setup_is t h m) line

no_line : (c x : Command) → c ≡ x → is_lines c ≡ false → is_lines x ≡ true → ⊥
no_line c x e off on = let q : false ≡ true = sym off ∙ (ap is_lines e ∙ on) in cc

not_echo : (n : ℕ) (t : Told) (h : Header) (m : List ℕ) (c : Command) → named_command n t h m ≡ c → is_lines c ≡ true → (b : Bool)
    → n == 13 ≡ b → b ≡ false
not_echo n t h m c e line false is = refl
not_echo n t h m c e line true is =
    absurd (no_line (named_command 13 t h m) c (subst (λ k. named_command k t h m ≡ c) (eqb-true n 13 is) e) refl line)

pub line_asks : (t : Told) (h : Header) (m : List ℕ) (x : Message) → message_of t h m ≡ Some x → is_lines x.command ≡ true
    → (h.command == 13) ≡ false
line_asks t h m x e line = not_echo h.command t h m x.command (named_at t h m x e) line (h.command == 13) refl

-- ---- no progress of a logon

pub line_stays : (c : Command) (r : Reply) → is_lines c ≡ true → progress c r ≡ Stays
line_stays (Setup request) r e = absurd (let h : false ≡ true = e in cc)
line_stays c r e = refl

-- ---- and a probe apart, the connection's keys sign it

pub line_signer : (s : Server) (L : Logons) (f : ServerEnd) (x : Checked) (c : Command) (status : ℕ) → is_lines c ≡ true
    → staying_signer s L f x c status ≡ plain_signer f x
line_signer s L f x (Setup request) status e = absurd (let h : false ≡ true = e in cc)
line_signer s L f x c status e = refl
