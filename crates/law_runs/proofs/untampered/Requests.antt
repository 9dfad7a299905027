-- An operation's request is read back, and is none of a dialog.
use Rattle.std.proofs.Common.{◌≡◌, ℕ, ◌+◌, ◌-◌, ◌/◌, ◌<◌, ◌≤◌, ◌^◌, ◌==◌, true, false, List, refl, arith, Some}
use Rattle.std.proofs.lemmas.Bool.Decides.{nat_tests}
use Rattle.spec_wire.specs.messages.Header.{IsWritableHeader}
use Rattle.spec_wire.specs.declared.messages.header.Header.{Header}
use Rattle.spec_exchange.specs.Commands.{Command}
use Rattle.spec_exchange.specs.Operations.{Op, OpCreate, OpWrite, OpRead, OpEnd, OpTime, OpRename, OpRemove, OpLock}
use Rattle.spec_exchange.specs.Operations.{OpUnlock, OpFlush, OpStat}
use Rattle.spec_exchange.specs.Operations.{OpList, OpClose, keeps_limits, is_create, request_of, reconnect_of, weight, charge}
use Rattle.law_sessions.specs.messages.Connections.{makes_open}
use Rattle.law_server.proofs.tables.Logic.{either}
use Rattle.law_locks.specs.Locks.{locking, in_slots}
use Rattle.spec_commands.specs.CommandOf.{Told, command_of}
use Rattle.spec_commands.specs.BodyOf.{body_of, number_of_command}
use Rattle.law_ties.specs.wire_facts.Fitting.{IsMessage}
use Rattle.law_ties.specs.wire_facts.Lawful.{header_as, AreCommandsLawful}
use Rattle.law_ties.specs.requests.Lines.{is_lines}

-- ---- read back

abbrev pub ReadsBack : Command → ℕ → Type 0
ReadsBack c paid =
    (t : Told) (h : Header) (b : List ℕ) → IsWritableHeader h → IsMessage h (body_of c) b → h.charge ≡ paid
    → h.command ≡ number_of_command c →
    command_of t (header_as h b) b ≡ Some c

zero_8 : 0 < 256 ^ 8
zero_8 = omega arith

zero_3 : 0 < 256 ^ 3
zero_3 = omega arith

same_paid : {a b : ℕ} → a ≡ b → b ≤ a
same_paid e = omega (arith, e)

-- what a request doesn't tell may be any
pub own_reads : AreCommandsLawful → (op : Op) (guid file slot number : ℕ) → keeps_limits op ≡ true → guid < 256 ^ 16
    → (makes_open op ≡ false → file < 256 ^ 8) → (locking op ≡ true → slot < 256 ^ 3) → number < 16
    → ReadsBack (request_of op guid file slot number) (charge (weight op))
unfolding makes_open locking
own_reads law (OpCreate path access share disposition persist directory) guid file slot number keeps g f s n =
    λ t h b fit is pays at. law.own t h b (OpCreate path access share disposition persist directory) guid 0 0 number fit is at keeps g zero_8
    zero_3 n (same_paid pays)
own_reads law (OpWrite create at bytes) guid file slot number keeps g f s n =
    λ t h b fit is pays told. law.own t h b (OpWrite create at bytes) guid file 0 number fit is told keeps g (f refl) zero_3 n (same_paid pays)
own_reads law (OpRead create at size) guid file slot number keeps g f s n =
    λ t h b fit is pays told. law.own t h b (OpRead create at size) guid file 0 number fit is told keeps g (f refl) zero_3 n (same_paid pays)
own_reads law (OpEnd create size) guid file slot number keeps g f s n =
    λ t h b fit is pays told. law.own t h b (OpEnd create size) guid file 0 number fit is told keeps g (f refl) zero_3 n (same_paid pays)
own_reads law (OpTime create time) guid file slot number keeps g f s n =
    λ t h b fit is pays told. law.own t h b (OpTime create time) guid file 0 number fit is told keeps g (f refl) zero_3 n (same_paid pays)
own_reads law (OpRename create path) guid file slot number keeps g f s n =
    λ t h b fit is pays told. law.own t h b (OpRename create path) guid file 0 number fit is told keeps g (f refl) zero_3 n (same_paid pays)
own_reads law (OpRemove create) guid file slot number keeps g f s n =
    λ t h b fit is pays told. law.own t h b (OpRemove create) guid file 0 number fit is told keeps g (f refl) zero_3 n (same_paid pays)
own_reads law (OpLock create at size exclusive) guid file slot number keeps g f s n =
    λ t h b fit is pays told. law.own t h b (OpLock create at size exclusive) guid file slot number fit is told keeps g (f refl) (s refl) n (same_paid pays)
own_reads law (OpUnlock create at size) guid file slot number keeps g f s n =
    λ t h b fit is pays told. law.own t h b (OpUnlock create at size) guid file slot number fit is told keeps g (f refl) (s refl) n (same_paid pays)
own_reads law (OpFlush create) guid file slot number keeps g f s n =
    λ t h b fit is pays told. law.own t h b (OpFlush create) guid file 0 number fit is told keeps g (f refl) zero_3 n (same_paid pays)
own_reads law (OpStat create) guid file slot number keeps g f s n =
    λ t h b fit is pays told. law.own t h b (OpStat create) guid file 0 number fit is told keeps g (f refl) zero_3 n (same_paid pays)
own_reads law (OpList create) guid file slot number keeps g f s n =
    λ t h b fit is pays told. law.own t h b (OpList create) guid file 0 number fit is told keeps g (f refl) zero_3 n (same_paid pays)
own_reads law (OpClose create) guid file slot number keeps g f s n =
    λ t h b fit is pays told. law.own t h b (OpClose create) guid file 0 number fit is told keeps g (f refl) zero_3 n (same_paid pays)

pub creates : (op : Op) → makes_open op ≡ true → is_create op ≡ true
unfolding makes_open
creates op e = e

pub slot_low : (i : ℕ) → in_slots i ≡ true → i < 256 ^ 3
unfolding in_slots
slot_low i e = grind (arith, nat_tests)

-- ---- none of a dialog

pub record IsPlain (c : Command) : Type 0 where
  pub small : number_of_command c < 256 ^ 2
  pub greets_not : (number_of_command c == 0) ≡ false
  pub sets_up_not : (number_of_command c == 1) ≡ false
  pub cancels_not : (number_of_command c == 12) ≡ false
  pub line : is_lines c ≡ true

pub own_plain : (op : Op) (guid file slot number : ℕ) → IsPlain (request_of op guid file slot number)
own_plain (OpCreate path access share disposition persist directory) guid file slot number =
    record { small = omega arith; greets_not = refl; sets_up_not = refl; cancels_not = refl; line = refl }
own_plain (OpWrite create at bytes) guid file slot number =
    record { small = omega arith; greets_not = refl; sets_up_not = refl; cancels_not = refl; line = refl }
own_plain (OpRead create at size) guid file slot number =
    record { small = omega arith; greets_not = refl; sets_up_not = refl; cancels_not = refl; line = refl }
own_plain (OpEnd create size) guid file slot number =
    record { small = omega arith; greets_not = refl; sets_up_not = refl; cancels_not = refl; line = refl }
own_plain (OpTime create time) guid file slot number =
    record { small = omega arith; greets_not = refl; sets_up_not = refl; cancels_not = refl; line = refl }
own_plain (OpRename create path) guid file slot number =
    record { small = omega arith; greets_not = refl; sets_up_not = refl; cancels_not = refl; line = refl }
own_plain (OpRemove create) guid file slot number =
    record { small = omega arith; greets_not = refl; sets_up_not = refl; cancels_not = refl; line = refl }
own_plain (OpLock create at size exclusive) guid file slot number =
    record { small = omega arith; greets_not = refl; sets_up_not = refl; cancels_not = refl; line = refl }
own_plain (OpUnlock create at size) guid file slot number =
    record { small = omega arith; greets_not = refl; sets_up_not = refl; cancels_not = refl; line = refl }
own_plain (OpFlush create) guid file slot number =
    record { small = omega arith; greets_not = refl; sets_up_not = refl; cancels_not = refl; line = refl }
own_plain (OpStat create) guid file slot number =
    record { small = omega arith; greets_not = refl; sets_up_not = refl; cancels_not = refl; line = refl }
own_plain (OpList create) guid file slot number =
    record { small = omega arith; greets_not = refl; sets_up_not = refl; cancels_not = refl; line = refl }
own_plain (OpClose create) guid file slot number =
    record { small = omega arith; greets_not = refl; sets_up_not = refl; cancels_not = refl; line = refl }

off : {X : Type 0} → false ≡ true → X
off e = absurd (let h : false ≡ true = e in cc)

pub asked_plain : (op : Op) (guid file : ℕ) → is_create op ≡ true → IsPlain (reconnect_of op guid file)
asked_plain (OpCreate path access share disposition persist directory) guid file e =
    record { small = omega arith; greets_not = refl; sets_up_not = refl; cancels_not = refl; line = refl }
asked_plain (OpWrite create at bytes) guid file e = off e
asked_plain (OpRead create at size) guid file e = off e
asked_plain (OpEnd create size) guid file e = off e
asked_plain (OpTime create time) guid file e = off e
asked_plain (OpRename create path) guid file e = off e
asked_plain (OpRemove create) guid file e = off e
asked_plain (OpLock create at size exclusive) guid file e = off e
asked_plain (OpUnlock create at size) guid file e = off e
asked_plain (OpFlush create) guid file e = off e
asked_plain (OpStat create) guid file e = off e
asked_plain (OpList create) guid file e = off e
asked_plain (OpClose create) guid file e = off e

-- ---- its charge

pub weight_low : (op : Op) → keeps_limits op ≡ true → weight op ≤ 1048577
weight_low (OpWrite create at bytes) k = grind (arith, nat_tests)
weight_low (OpRead create at size) k = grind (arith, nat_tests)
weight_low _ k = omega arith

charge_low : (n : ℕ) → n ≤ 1048577 → charge n < 256 ^ 2
charge_low n l = either (λ m. m < 256 ^ 2) (n == 0) 1 ((n - 1) / 65536 + 1) (λ _. omega arith) (λ _. omega (arith, l))

pub charge_fits : (op : Op) → keeps_limits op ≡ true → charge (weight op) < 256 ^ 2
charge_fits op k = charge_low (weight op) (weight_low op k)

pub charge_some : (n : ℕ) → 1 ≤ charge n
charge_some n = either (λ m. 1 ≤ m) (n == 0) 1 ((n - 1) / 65536 + 1) (λ _. omega arith) (λ _. omega arith)
