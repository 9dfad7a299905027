-- A dialog's two ends become a line's.
use Rattle.std.proofs.Common.{◌≡◌, ℕ, ◌<◌, ◌^◌, ◌==◌, Bool, true, false, not, ◌&&◌, List, [], ◌∷◌, refl, sym, ap}
use Rattle.std.proofs.Common.{◌∙◌, subst, Option, Some, None}
use Rattle.spec_exchange.specs.Commands.{has_bit}
use Rattle.spec_exchange.specs.Operations.{Op, Refusal, BadToken, BadSignature, BadChoice}
use Rattle.spec_exchange.specs.Client.{SaidSecond}
use Rattle.spec_exchange.specs.Network.{Received}
use Rattle.spec_wire.specs.credits.Purse.{after_add}
use Rattle.spec_wire.specs.credits.Exchange.{Line, hears, after_step}
use Rattle.spec_wire.specs.credits.Exchange.{heard as heard_grants}
use Rattle.spec_world.specs.Settings.{WorldSettings}
use Rattle.spec_world.specs.Messages.{HeardMessage}
use Rattle.spec_world.specs.Ends.{ClientEnd, ServerEnd, Logons}
use Rattle.spec_world.specs.Dialog.{first_refusal, unless, choices_of, has_form, has_token, is_signed, flags_fit, pays_next, dialog_fault}
use Rattle.spec_world.specs.Dialog.{setup_flags, seals_told, own_final}
use Rattle.law_ties.specs.events.Links.{Shared, AllAsked, AllAwaited, LinkReached, GreetedAs, Linked}
use Rattle.law_ties.proofs.events.Took.{reach_more}

-- what both ends have in common then
pub record Common (z : WorldSettings) (m : ClientEnd) (f : ServerEnd) : Type 0 where
  pub keys : f.keys ≡ Some m.keys
  pub encrypts : f.encrypts ≡ m.encrypts
  pub greeted : GreetedAs z f.greeting

none_left : (z : WorldSettings) (L : Logons) (k : ℕ) (f : ServerEnd) (qs : List (ℕ × ℕ)) → AllAsked z L k f [] [] qs → qs ≡ []
none_left z L k f [] all = refl
none_left z L k f (q ∷ qs) all = absurd all

pub lined_now : (z : WorldSettings) (op : ℕ → Op) (s t : Shared) (k : ℕ) (was so : Bool) (n m : ClientEnd) (f : ServerEnd)
    (down : List (List ℕ)) (ys : List Received) (g : ℕ) (i : Linked z op s k was so n f [] down [] ys) → t.logons ≡ s.logons
    → i.line.grants ≡ g ∷ [] → m.purse ≡ after_add g n.purse → m.keys.session < 2 ^ 64
    → (m.encrypts ≡ true → (m.keys.cipher == 0) ≡ false) → (so ≡ true → Common z m f) → Linked z op t k true so m f [] [] [] []
lined_now z op s t k was so n m f down ys g i same e purse fits sealable common =
    let l = i.line in
    let more : Line = record l { purse = after_add g l.purse; grants = [] } in
    let is : after_step hears l ≡ more = ap (λ v. heard_grants v l) e in
    let none : so ≡ true → l.requests ≡ [] = λ o. none_left z s.logons k f l.requests (i.asked o) in record {
      line = more;
      reached = subst LinkReached is (reach_more l hears i.reached);
      purse = purse ∙ ap (after_add g) i.purse;
      window = i.window;
      counted = i.counted;
      asked = λ o. subst (λ L. AllAsked z L k f [] [] l.requests) (sym same) (i.asked o);
      awaited = λ c o. subst (λ rs. AllAwaited m.awaited m.purse.next [] rs) (sym (none o)) tt;
      answers = λ c. tt;
      session_fits = λ c. fits;
      sealable = λ c. sealable;
      keys = λ c o. (let p = common o in p.keys);
      encrypts = λ c o. (let p = common o in p.encrypts);
      greeted = λ c o. (let p = common o in let q = p.greeted in (q.some, q.client));
    }

-- ---- where a final response has no fault, it seals only with a cipher

chain : (a b c d e f : Option Refusal) → first_refusal a (first_refusal b (first_refusal c (first_refusal d (first_refusal e f)))) ≡ None
    → e ≡ None
chain (Some v) b c d e f h = absurd (let q : Some v ≡ None = h in cc)
chain None (Some v) c d e f h = absurd (let q : Some v ≡ None = h in cc)
chain None None (Some v) d e f h = absurd (let q : Some v ≡ None = h in cc)
chain None None None (Some v) e f h = absurd (let q : Some v ≡ None = h in cc)
chain None None None None (Some v) f h = absurd (let q : Some v ≡ None = h in cc)
chain None None None None None f h = refl

unless_none : (b : Bool) (why : Refusal) → unless b why ≡ None → b ≡ true
unless_none true why e = refl
unless_none false why e = absurd (let q : Some why ≡ None = e in cc)

cipher_there : (a b s c : Bool) → (not a && (not b && not (s && c))) ≡ true → s ≡ true → c ≡ false
cipher_there a b s false e f = refl
cipher_there a b false true e f = absurd (let q : false ≡ true = f in cc)
cipher_there true b true true e f = absurd (let q : false ≡ true = e in cc)
cipher_there false true true true e f = absurd (let q : false ≡ true = e in cc)
cipher_there false false true true e f = absurd (let q : false ≡ true = e in cc)

pub seals_with : (z : WorldSettings) (n : ClientEnd) (bound : Bool) (x : HeardMessage) → dialog_fault z.client n (SaidSecond bound) x ≡ None
    → seals_told x.bytes ≡ true → ((own_final n bound 0).cipher == 0) ≡ false
unfolding seals_told
seals_with z n bound x sound e =
    let stage = SaidSecond bound in
    let m = x.bytes in
    let fit : flags_fit n stage m ≡ true =
    unless_none (flags_fit n stage m) (BadChoice 5)
    (chain (unless (has_form n stage x) BadToken) (choices_of z.client stage m) (unless (has_token z.client n stage m) BadToken)
    (unless (is_signed n stage m) BadSignature) (unless (flags_fit n stage m) (BadChoice 5))
    (unless (pays_next n stage x.header) BadToken) sound) in
    cipher_there (has_bit (setup_flags m) 1) (has_bit (setup_flags m) 2) (has_bit (setup_flags m) 4)
    ((own_final n bound 0).cipher == 0) fit e
