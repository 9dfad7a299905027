-- On a ready channel with nothing on its way, the client holds what the server's window does.
use Rattle.std.proofs.lemmas.Bool.Decides.{nat_tests}
use Rattle.std.proofs.Common.{◌≡◌, ℕ, ◌+◌, ◌-◌, ◌*◌, ◌^◌, ◌≤◌, ◌<◌, nat_lt, Bool, true, false, not, ◌&&◌, ◌||◌, ◌⊎◌, inl, inr}
use Rattle.std.proofs.Common.{List, [], ◌∷◌, length, length-append, sum, refl, sym, ap, ◌∙◌, subst, arith, Option}
use Rattle.spec_exchange.specs.Client.{Apart}
use Rattle.spec_exchange.specs.Operations.{Op}
use Rattle.spec_exchange.specs.Network.{Event, Token, run, start}
use Rattle.spec_wire.specs.credits.Ids.{ids_from}
use Rattle.spec_wire.specs.credits.Purse.{Credits}
use Rattle.spec_wire.specs.credits.Exchange.{Line, ids_on_their_way, IsBalanced, NothingIsRefused, first_line}
use Rattle.spec_crypto.specs.declared.sessions.material.Keys.{Keys}
use Rattle.spec_crypto.specs.sessions.Nonces.{last_counter}
use Rattle.spec_world.specs.Settings.{WorldSettings, values_of}
use Rattle.spec_world.specs.Ends.{ServerEnd, Logons}
use Rattle.spec_world.specs.World.{World}
use Rattle.law_ties.specs.events.Links.{AllAsked, AllAnswer, LinkReached, is_lined, IsTied}
use Rattle.law_dialogs.proofs.waiting.Due.{worlds_are_due}
use Rattle.law_runs.specs.purses.Purse.{IsStill, HasAll}
use Rattle.law_runs.proofs.purses.Windows.{IsFull, length_ids, never_above}
use Rattle.law_runs.proofs.purses.Ends.{IsGood, sent_by}

-- ---- what is asked and granted by lists that are empty

none_asked : (z : WorldSettings) (L : Logons) (k : ℕ) (f : ServerEnd) (bs : List (List ℕ)) (qs : List (ℕ × ℕ))
    → AllAsked z L k f bs [] qs → qs ≡ []
none_asked z L k f [] [] all = refl
none_asked z L k f [] (q ∷ qs) all = absurd all
none_asked z L k f (b ∷ bs) [] all = absurd all
none_asked z L k f (b ∷ bs) (q ∷ qs) all = absurd all

none_granted : (op : ℕ → Op) (keys : Keys) (encrypts : Bool) (awaited : ℕ → Option Token) (next : ℕ) (bs : List (List ℕ)) (gs : List ℕ)
    → AllAnswer op keys encrypts awaited next bs [] gs → gs ≡ []
none_granted op keys encrypts awaited next [] [] all = refl
none_granted op keys encrypts awaited next [] (g ∷ gs) all = absurd all
none_granted op keys encrypts awaited next (b ∷ bs) [] all = absurd all
none_granted op keys encrypts awaited next (b ∷ bs) (g ∷ gs) all = absurd all

-- ---- a line's credits

even_by : NothingIsRefused → (l : Line) → LinkReached l → IsBalanced l
even_by held l r = subst IsBalanced (sym r.is) (held r.steps).0

first_low : length first_line.window.held ≤ 512
first_low = omega arith

low_always : (l : Line) → LinkReached l → length l.window.held ≤ 512
low_always l r = subst (λ (v : Line). length v.window.held ≤ 512) (sym r.is) (never_above r.steps first_line first_low)

-- ids on their way, those held and those granted
length_is : (l : Line) → IsBalanced l → length l.window.held ≡ length (ids_on_their_way l.requests) + (l.purse.held + sum l.grants)
length_is l e =
    ap length e.0
    ∙ (length-append (ids_on_their_way l.requests) (ids_from l.purse.next (l.purse.held + sum l.grants))
    ∙ ap (λ n. length (ids_on_their_way l.requests) + n) (length_ids l.purse.next (l.purse.held + sum l.grants)))

held_part : (a b c d : ℕ) → a ≡ b + (c + d) → a ≤ 512 → c ≤ 512
held_part a b c d e l = omega (arith, e, l)

pub held_low : NothingIsRefused → (z : WorldSettings) (w : World) → IsTied z w → (k : ℕ) → (w.wires k).client_end.purse.held ≤ 512
held_low held z w i k =
    let t = i.tied k in
    let link = t.link in
    let l = link.line in
    let low = held_part (length l.window.held) (length (ids_on_their_way l.requests)) l.purse.held (sum l.grants)
    (length_is l (even_by held l link.reached)) (low_always l link.reached) in
    subst (λ (c : Credits). c.held ≤ 512) (sym link.purse) low

-- where nothing is on its way
alone_held : (rs : List (ℕ × ℕ)) (gs : List ℕ) (h : ℕ) → rs ≡ [] → gs ≡ [] → length (ids_on_their_way rs) + (h + sum gs) ≡ h
alone_held rs gs h e f =
    ap (λ v. length (ids_on_their_way v) + (h + sum gs)) e ∙ (ap (λ v. length (ids_on_their_way []) + (h + sum v)) f ∙ omega arith)

alone_next : (gs : List ℕ) (n h : ℕ) → gs ≡ [] → n + (h + sum gs) ≡ n + h
alone_next gs n h f = ap (λ v. n + (h + sum v)) f ∙ omega arith

-- ---- the nonce

low_tested : (n : ℕ) → n < last_counter → nat_lt n last_counter ≡ true
low_tested n l = grind (arith, nat_tests)

either_true : (a b : Bool) → b ≡ true → (a || b) ≡ true
either_true true b e = refl
either_true false b e = e

few_nonces : (p c : ℕ) → c ≤ p + 1 → p < 2 ^ 54 → c < 0xffff_ffff_ffff_ffff
few_nonces p c l h = omega (arith, l, h)

-- ---- all of it

both_true : (a b : Bool) → a ≡ true → b ≡ true → (a && b) ≡ true
both_true a b e f = ap (λ x. x && b) e ∙ f

all_held : (p held next count after : ℕ) → count ≡ held → after ≡ next + held → count ≤ 512 → next ≤ 4 + 512 * p → p < 2 ^ 54
    → (512 ≤ count) ⊎ (2 ^ 64 - 1 ≤ after) → held ≡ 512
all_held p held next count after e f low bound few (inl h) = omega (arith, e, low, h)
all_held p held next count after e f low bound few (inr h) = absurd (omega (arith, e, f, low, bound, few, h))

pub has_all : NothingIsRefused → (z : WorldSettings) (w : World) (es : List Event) → w.values ≡ run es (start (values_of z)) → IsTied z w
    → (p : ℕ) → p < 2 ^ 54 → (k : ℕ) → IsGood p (w.wires k) → IsStill w k → HasAll (w.wires k).client_end
has_all held z w es is i p few k good s =
    let n = (w.wires k).client_end in
    let f = (w.wires k).server_end in
    let due = worlds_are_due z w es is in
    let r = due.ready k s.ready in
    let at : n.stage ≡ Apart = i.stages k r.0 ∙ r.1 in
    let lined : ((w.values.conns k).client_open && is_lined n.stage) ≡ true =
    both_true (w.values.conns k).client_open (is_lined n.stage) r.0 (ap is_lined at) in
    let t = i.tied k in
    let link = t.link in
    let l = link.line in
    let even = even_by held l link.reached in
    let requests : l.requests ≡ [] =
    none_asked z w.logons k f (w.wires k).up l.requests
    (subst (λ xs. AllAsked z w.logons k f (w.wires k).up xs l.requests) s.up (link.asked s.server_open)) in
    let grants : l.grants ≡ [] =
    none_granted w.values.client.op n.keys n.encrypts n.awaited n.purse.next (w.wires k).down l.grants
    (subst (λ ys. AllAnswer w.values.client.op n.keys n.encrypts n.awaited n.purse.next (w.wires k).down ys l.grants) s.down
    (link.answers lined)) in
    let window = link.window s.server_open in
    let full : IsFull l.window = subst IsFull window (good.full (link.greeted lined s.server_open).0) in
    let count : length l.window.held ≡ n.purse.held =
    length_is l even ∙ (alone_held l.requests l.grants l.purse.held requests grants ∙ ap (λ (c : Credits). c.held) (sym link.purse)) in
    let after : l.window.next ≡ n.purse.next + n.purse.held =
    even.1 ∙ (alone_next l.grants l.purse.next l.purse.held grants ∙ ap (λ (c : Credits). c.next + c.held) (sym link.purse)) in
    let bound : n.purse.next ≤ 4 + 512 * p = subst (λ v. n.purse.next ≤ sent_by v + 512 * p) at good.next in
    record {
      held = all_held p n.purse.held n.purse.next (length l.window.held) l.window.next count after
          (low_always l link.reached) bound few full;
      nonce = either_true (not n.encrypts) (nat_lt n.counter last_counter)
          (low_tested n.counter (few_nonces p n.counter good.counter few));
    }
