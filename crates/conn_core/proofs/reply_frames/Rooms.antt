-- What answers a NEGOTIATE, the first message of its frame.
use Rattle.std.proofs.Common.{◌≡◌, ℕ, ◌<◌, ◌==◌, Bool, true, false, List, [], ◌∷◌, length, Some, None, refl, sym, ap, subst, ◌∙◌, arith}
use Rattle.std.specs.Prelude.{slice_get, IfOk, Result}
use Rattle.std.proofs.lemmas.Bool.Decides.{nat_tests}
use Rattle.spec_wire.specs.declared.messages.header.Header.{Header}
use Rattle.spec_world.specs.Hearing as hearing
use Rattle.conn_core.specs.declared.frame_messages.checked.Checked.{Checked}
use Rattle.conn_core.specs.frame_messages.Checking.{ShowsGoing, message_in}
use Rattle.conn_core.specs.declared.negotiating.greeting.Hello.{Hello}
use Rattle.conn_core.specs.negotiating.Greeting.{IsHello}
use Rattle.conn_core.specs.message_replies.Replying.{HelloOf, ShowsTaken}
use Rattle.conn_core.specs.reply_frames.Walking.{first_greets}

none_is : (ms : List Checked) → length ms ≡ 0 → false ≡ first_greets ms
none_is [] e = refl
none_is (m ∷ ms) e = absurd (omega (arith, e))

pub greets_none : (ms : List Checked) (b : Bool) → b ≡ (length ms == 0) → b ≡ true → false ≡ first_greets ms
greets_none ms b is e = none_is ms (let t : (length ms == 0) ≡ true = sym is ∙ e in grind (arith, nat_tests))

pub some_is : (ms : List Checked) (b : Bool) → b ≡ (length ms == 0) → b ≡ false → 0 < length ms
some_is ms b is e = (let t : (length ms == 0) ≡ false = sym is ∙ e in grind (arith, nat_tests))

pub greets_first : (ms : List Checked) (m : Checked) → slice_get ms 0 ≡ Some m → (m.header.command == 0) ≡ first_greets ms
greets_first [] m e = absurd (cc)
greets_first (n ∷ ms) m e = (let same : m ≡ n = cc in ap (λ (k : Checked). k.header.command == 0) same)

pub some_greets : (ms : List Checked) → first_greets ms ≡ true → 0 < length ms
some_greets [] e = absurd (cc)
some_greets (m ∷ ms) e = omega arith

-- what answers the first message

not_both : (b : Bool) → b ≡ true → b ≡ false → ⊥
not_both true e f = cc
not_both false e f = cc

hello_some : (guid salt : List ℕ) (now : ℕ) (bytes : List ℕ) (ms : List Checked) (cs : List hearing.Checked) (m : Checked) (h : Hello)
    → ShowsTaken bytes ms cs → slice_get ms 0 ≡ Some m → first_greets ms ≡ true → IsHello guid salt now (message_in bytes m) h
    → HelloOf guid salt now cs (Some h)
hello_some guid salt now bytes (n ∷ ms) (c ∷ cs) m h shows e greets hello =
    let same : n ≡ m = cc in
    let going : ShowsGoing bytes n c = shows.0 in (
      ap (λ (x : Header). x.command == 0) going.header ∙ greets,
      subst (λ (b : List ℕ). IsHello guid salt now b h)
          (ap (λ (k : Checked). message_in bytes k) (sym same) ∙ sym going.bytes_are) hello,
    )
hello_some guid salt now bytes [] cs m h shows e greets hello = absurd (cc)
hello_some guid salt now bytes (n ∷ ms) [] m h shows e greets hello = absurd shows

pub hello_as : {E : Type 0} (guid salt : List ℕ) (now : ℕ) (m bytes : List ℕ) (result : Result Hello E) → m ≡ bytes
    → IfOk result (λ (h : Hello). IsHello guid salt now m h) → IfOk result (λ (h : Hello). IsHello guid salt now bytes h)
hello_as guid salt now m bytes result e h = subst (λ (b : List ℕ). IfOk result (λ (h : Hello). IsHello guid salt now b h)) e h

pub hello_by : (conn_guid conn_salt guid salt : List ℕ) (now : ℕ) (bytes : List ℕ) (ms : List Checked) (cs : List hearing.Checked)
    (m : Checked) (h : Hello) → conn_guid ≡ guid → salt ≡ conn_salt → ShowsTaken bytes ms cs → slice_get ms 0 ≡ Some m
    → first_greets ms ≡ true → IsHello conn_guid conn_salt now (message_in bytes m) h → HelloOf guid salt now cs (Some h)
hello_by conn_guid conn_salt guid salt now bytes ms cs m h g s shows e greets hello =
    hello_some guid salt now bytes ms cs m h shows e greets
    (subst (λ (x : List ℕ). IsHello guid x now (message_in bytes m) h) (sym s)
    (subst (λ (x : List ℕ). IsHello x conn_salt now (message_in bytes m) h) g hello))

pub hello_none : (guid salt : List ℕ) (now : ℕ) (bytes : List ℕ) (ms : List Checked) (cs : List hearing.Checked) → ShowsTaken bytes ms cs
    → first_greets ms ≡ false → HelloOf guid salt now cs None
hello_none guid salt now bytes [] [] shows other = refl
hello_none guid salt now bytes (m ∷ ms) (c ∷ cs) shows other = ap (λ (x : Header). x.command == 0) shows.0.header ∙ other
hello_none guid salt now bytes [] (c ∷ cs) shows other = absurd shows
hello_none guid salt now bytes (m ∷ ms) [] shows other = absurd shows
