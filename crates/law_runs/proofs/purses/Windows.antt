-- A server's window behind a request that asks for 512 credits: it holds 512 ids, or no id is left.
use Rattle.std.proofs.lemmas.Bool.Decides.{nat_tests}
use Rattle.std.proofs.Common.{◌≡◌, ℕ, ◌+◌, ◌-◌, ◌^◌, ◌≤◌, ◌<◌, nat_le, min, max, zero, suc, Bool, true, false, not, ◌&&◌}
use Rattle.std.proofs.Common.{cond, if◌then◌else◌, ◌⊎◌, inl, inr, List, [], ◌∷◌, length, filter, length-append, refl, sym, ap, ◌∙◌}
use Rattle.std.proofs.Common.{subst, arith, Option, Some, None}
use Rattle.spec_exchange.specs.Network.{Sent}
use Rattle.spec_wire.specs.credits.Ids.{counted, ids_from, is_among, without, outside}
use Rattle.spec_wire.specs.credits.Window.{HeldIds, after_take, granted, after_grant}
use Rattle.spec_wire.specs.credits.Exchange.{Line, Step, sends, serves, hears, sent_if, served_if, served, heard, after_step, after_steps}
use Rattle.spec_world.specs.Settings.{WorldSettings, draw}
use Rattle.spec_world.specs.Ends.{ServerEnd, Spent}
use Rattle.spec_world.specs.Hearing.{behind_turn, checked_as}
use Rattle.spec_world.specs.Logon.{Progress, Stays, Interim, Final}
use Rattle.spec_world.specs.Answering.{SaidReply, all_texts, each_joined, concatenated, joined_in, text_limit, has_nonces}
use Rattle.spec_world.specs.Answering.{first_text, later_texts}
use Rattle.spec_world.specs.Answering.{server_end_moved, server_end_behind, told_each}
use Rattle.spec_world.specs.Connection.{Going, ConnectionStep, beginning, counted_on, ended_by, answered_with, answered, went_by}
use Rattle.spec_world.specs.World.{World, step_at}
use Rattle.spec_exchange.specs.Network.{answer}
use Rattle.std.proofs.Common.{take}
use Rattle.law_ties.specs.events.Fronts.{MayServe}
use Rattle.law_ties.specs.events.Links.{Asked}
use Rattle.law_ties.proofs.events.Serving.{step_is, told_at}

-- it holds 512 ids, or its next one is the last
abbrev pub IsFull : HeldIds → Type 0
IsFull w = (512 ≤ length w.held) ⊎ (2 ^ 64 - 1 ≤ w.next)

-- ---- what is granted fills it

pub length_ids : (a n : ℕ) → length (ids_from a n) ≡ n
length_ids a zero = refl
length_ids a (suc n) = let e = length_ids (a + 1) n in omega (arith, e)

at_least : (n : ℕ) → nat_le 512 n ≡ true → 512 ≤ n
at_least n e = grind (arith, nat_tests)

less_than : (n : ℕ) → nat_le 512 n ≡ false → n < 512
less_than n e = grind (arith, nat_tests)

-- a of them held, and the next one n
or_last : (a n : ℕ) → a + min (min (max 512 1) (512 - a)) (2 ^ 64 - 1 - n) < 512
    → 2 ^ 64 - 1 ≤ n + min (min (max 512 1) (512 - a)) (2 ^ 64 - 1 - n)
or_last a n l = omega (arith, l)

by_count : (w v : HeldIds) → length v.held ≡ length w.held + granted 512 w → v.next ≡ w.next + granted 512 w → IsFull v
by_count w v count next = elim (nat_le 512 (length v.held)) as (λ b. nat_le 512 (length v.held) ≡ b → IsFull v) [
  | true ↦ λ e. inl (at_least (length v.held) e)
  | false ↦ λ e. inr (subst (λ m. 2 ^ 64 - 1 ≤ m) (sym next)
      (or_last (length w.held) w.next (subst (λ m. m < 512) count (less_than (length v.held) e))))
] refl

pub granted_fills : (w : HeldIds) → IsFull (after_grant 512 w)
granted_fills w =
    by_count w (after_grant 512 w)
    (length-append w.held (ids_from w.next (granted 512 w)) ∙ ap (λ n. length w.held + n) (length_ids w.next (granted 512 w))) refl

-- ---- and no more than 512

no_longer : (b : Bool) (x : ℕ) (ys : List ℕ) (n : ℕ) → length ys ≤ n → length (cond b (x ∷ ys) ys) ≤ suc n
no_longer true x ys n l = omega (arith, l)
no_longer false x ys n l = omega (arith, l)

filtered : (p : ℕ → Bool) (xs : List ℕ) → length (filter p xs) ≤ length xs
filtered p [] = omega arith
filtered p (x ∷ xs) = no_longer (p x) x (filter p xs) (length xs) (filtered p xs)

abbrev IsLow : Line → Type 0
IsLow l = length l.window.held ≤ 512

grant_sum : (asked a n : ℕ) → a ≤ 512 → a + min (min (max asked 1) (512 - a)) (2 ^ 64 - 1 - n) ≤ 512
grant_sum asked a n l = omega (arith, l)

low_grant : (asked : ℕ) (w : HeldIds) → length w.held ≤ 512 → length (after_grant asked w).held ≤ 512
low_grant asked w l =
    subst (λ n. n ≤ 512)
    (sym (length-append w.held (ids_from w.next (granted asked w)) ∙ ap (λ n. length w.held + n) (length_ids w.next (granted asked w))))
    (grant_sum asked (length w.held) w.next l)

up_to : (a b : ℕ) → a ≤ b → b ≤ 512 → a ≤ 512
up_to a b l h = omega (arith, l, h)

low_take : (first charge : ℕ) (w : HeldIds) → length w.held ≤ 512 → length (after_take first charge w).held ≤ 512
low_take first charge w l =
    up_to (length (without first (counted charge) w.held)) (length w.held)
    (filtered (λ id. not (is_among first (counted charge) id)) w.held) l

low_sent : (b : Bool) (charge : ℕ) (l : Line) → IsLow l → IsLow (sent_if b charge l)
low_sent true charge l low = low
low_sent false charge l low = low

low_if : (o : Option ℕ) (q : ℕ × ℕ) (rest : List (ℕ × ℕ)) (asked : ℕ) (l : Line) → IsLow l → IsLow (served_if o q rest asked l)
low_if None q rest asked l low = low_grant asked (after_take q.0 q.1 l.window) (low_take q.0 q.1 l.window low)
low_if (Some id) q rest asked l low = low

low_served : (rs : List (ℕ × ℕ)) (asked : ℕ) (l : Line) → IsLow l → IsLow (served rs asked l)
low_served [] asked l low = low
low_served (q ∷ rest) asked l low = low_if (outside l.window.held q.0 (counted q.1)) q rest asked l low

low_heard : (gs : List ℕ) (l : Line) → IsLow l → IsLow (heard gs l)
low_heard [] l low = low
low_heard (g ∷ rest) l low = low

low_step : (s : Step) (l : Line) → IsLow l → IsLow (after_step s l)
low_step (sends charge) l low = low_sent (nat_le (counted charge) l.purse.held) charge l low
low_step (serves asked) l low = low_served l.requests asked l low
low_step hears l low = low_heard l.grants l low

pub never_above : (steps : List Step) (l : Line) → length l.window.held ≤ 512 → length (after_steps steps l).window.held ≤ 512
never_above [] l low = low
never_above (s ∷ steps) l low = never_above steps (after_step s l) (low_step s l low)

-- ---- the window of a server's end behind a frame

moved_window : (f : ServerEnd) (r : SaidReply) (text : List ℕ) (p : Progress) → (server_end_moved f r text p).window ≡ f.window
moved_window f r text Stays = refl
moved_window f r text (Interim binding) = refl
moved_window f r text (Final binding channel encrypts) = refl

told_window : (sealed : Bool) (f : ServerEnd) (rs : List SaidReply) (ts : List (List ℕ))
    → (told_each sealed f rs ts).server_end.window ≡ f.window
unfolding told_each
told_window sealed f [] ts = refl
told_window sealed f (r ∷ rs) ts =
    told_window sealed (server_end_behind f r (first_text ts)) rs (later_texts ts) ∙ moved_window f r (first_text ts) r.progress

-- of two ways on, the one that ends the connection wasn't gone
by_way : (b : Bool) (x y : ConnectionStep) (w : HeldIds) → (x.ends ≡ None → ⊥) → y.server_end.window ≡ w → (if b then x else y).ends ≡ None
    → (if b then x else y).server_end.window ≡ w
by_way true x y w bad ok e = absurd (bad e)
by_way false x y w bad ok e = ok

not_spent : Some Spent ≡ None → ⊥
not_spent e = absurd (cc)

answered_window : (f : ServerEnd) (sealed : Bool) (g : Going) → (answered f sealed g).ends ≡ None
    → (answered f sealed g).server_end.window ≡ g.window
answered_window f sealed g e =
    let rows = all_texts sealed (joined_in (text_limit sealed) g.replies) in
    by_way (sealed && not (has_nonces f (length rows))) (ended_by g.server g.logons f g.taken Spent)
    (answered_with f sealed g rows (each_joined rows)) g.window not_spent
    (told_window sealed (counted_on f sealed g (length (each_joined rows))) g.replies (concatenated rows)) e

-- behind the answer to a front that was asked as each request asks
pub told_fills : (z : WorldSettings) (w : World) (k : ℕ) (b : List ℕ) (x : Sent) (bill : ℕ × ℕ)
    → (a : Asked z w.logons k (w.wires k).server_end b x bill) → MayServe (w.wires k).server_end bill
    → ((step_at z w k b).ends ≡ None) × IsFull (step_at z w k b).server_end.window
told_fills z w k b x bill a may =
    let r = a.reads in
    let f = (w.wires k).server_end in
    let t = told_at z w k b x bill r may in
    let e = step_is z w k b x bill r may in
    let F = behind_turn f r.heard.header in
    let G = went_by z.server k w.values.moment (take 8 (draw z.seed w.draws)) F (beginning w.values.server w.logons F)
    (checked_as f r.sealed false true r.heard) x.message (answer w.values x) in
    let ends : (answered F r.sealed G).ends ≡ None = ap (λ (s : ConnectionStep). s.ends) (sym e) ∙ t.ends in
    let window : (step_at z w k b).server_end.window ≡ G.window =
    ap (λ (s : ConnectionStep). s.server_end.window) e ∙ answered_window F r.sealed G ends in
    let full : IsFull G.window = subst (λ c. IsFull (after_grant c F.window)) (sym a.credits) (granted_fills F.window) in
    (t.ends, subst IsFull (sym window) full)
