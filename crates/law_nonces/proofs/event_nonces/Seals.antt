-- What a frame's answer leaves of the seals, where others drew numbers between its events; and from which logon each seal is.
use Rattle.std.proofs.Common.{◌≡◌, ℕ, zero, suc, ◌+◌, Bool, true, false, not, ◌&&◌, if◌then◌else◌, List, [], ◌∷◌, ◌++◌}
use Rattle.std.proofs.Common.{length, refl, subst, arith, Option, Some, None, slice_get, add-one}
use Rattle.spec_exchange.specs.Table.{put}
use Rattle.spec_crypto.specs.declared.sessions.material.Keys.{Keys}
use Rattle.law_server.proofs.tables.Logic.{either}
use Rattle.spec_world.specs.Ends.{ServerEnd, Spent}
use Rattle.spec_world.specs.Logon.{Progress, Stays, Interim, Final}
use Rattle.spec_world.specs.Answering.{SaidReply, Seal, all_texts, concatenated, each_joined, first_text, has_nonces, joined_in, later_texts}
use Rattle.spec_world.specs.Answering.{seal_by, seals_by, seals_of, server_end_behind, server_end_moved, text_limit, told_each}
use Rattle.spec_world.specs.Connection.{ConnectionStep, Going, answered, answered_with, counted_on, ended_by}
use Rattle.law_nonces.specs.server_nonces.Numbering.{NonceNumbered, Sealer, next_drawn, sealer_of}
use Rattle.law_nonces.proofs.negotiation.Tables.{put_same}
use Rattle.law_nonces.proofs.server_nonces.Numbers.{alike, grow_keeps}
use Rattle.law_nonces.proofs.server_nonces.Serving.{has_room}
use Rattle.law_nonces.proofs.server_nonces.Telling.{counted_by, joined_length, moved_keep, put_itself, put_twice, sealed_keep}
use Rattle.law_nonces.specs.event_nonces.Events.{DrawsAlong, SealsAlong}

-- ---- the end behind each reply

told_along : (us : List Seal) (ends : ℕ → Sealer) (drawn behind : ℕ → ℕ) (k : ℕ) (sealed : Bool) (f : ServerEnd) (rs : List SaidReply)
    (ts : List (List ℕ)) → ends k ≡ sealer_of true f → DrawsAlong drawn rs behind → NonceNumbered us ends drawn
    → NonceNumbered us (put ends k (sealer_of true (told_each sealed f rs ts).server_end)) behind
unfolding told_each
told_along us ends drawn behind k sealed f [] ts is along i =
    grow_keeps us (put ends k (sealer_of true f)) drawn behind along
    (alike us ends (put ends k (sealer_of true f)) drawn (put_itself ends k _ is) i)
told_along us ends drawn behind k sealed f (r ∷ rs) ts is along i =
    let g = server_end_behind f r (first_text ts) in
    let last = sealer_of true (told_each sealed g rs (later_texts ts)).server_end in
    let next = next_drawn along.0 r.keys.session r.progress in
    let one : NonceNumbered us (put ends k (sealer_of true g)) next =
    moved_keep us ends along.0 k f r (first_text ts) r.progress is along.2 (grow_keeps us ends drawn along.0 along.1 i) in
    let more = told_along us (put ends k (sealer_of true g)) next behind k sealed g rs (later_texts ts)
    (put_same ends k (sealer_of true g)) along.3 one in
    alike us (put (put ends k (sealer_of true g)) k last) (put ends k last) behind (put_twice ends k (sealer_of true g) last) more

-- ---- the answer

spent_apart : Some Spent ≡ None → ⊥
spent_apart e = absurd (cc)

pub answered_along : SealsAlong
answered_along f sealed g us ends k drawn behind is along n =
    let rows = all_texts sealed (joined_in (text_limit sealed) g.replies) in
    let texts = each_joined rows in
    let f2 = counted_on f sealed g (length texts) in
    let now = put ends k (counted_by f sealed (length texts)) in
    let last = sealer_of true (answered_with f sealed g rows texts).server_end in
    either (λ (S : ConnectionStep). S.ends ≡ None → NonceNumbered (us ++ S.sealings) (put ends k (sealer_of true S.server_end)) behind)
    (sealed && not (has_nonces f (length rows))) (ended_by g.server g.logons f g.taken Spent) (answered_with f sealed g rows texts)
    (λ _ none. absurd (spent_apart none))
    (λ room none. (let sealings = (answered_with f sealed g rows texts).sealings in
    let one : NonceNumbered (us ++ sealings) now drawn =
    sealed_keep us ends drawn k f sealed texts is
    (λ on. (let h = has_room f sealed (length rows) room on in let l = joined_length rows in omega (arith, h, l))) n in
    let told = told_along (us ++ sealings) now drawn behind k sealed f2 g.replies (concatenated rows)
    (put_same ends k (counted_by f sealed (length texts))) along one in
    alike (us ++ sealings) (put now k last) (put ends k last) behind (put_twice ends k (counted_by f sealed (length texts)) last) told))

-- ---- from which logon: what holds of the session and the number of each final reply holds of each seal's

module _ (P : ℕ → ℕ → Type 0) where
  abbrev pub EndFrom : ServerEnd → Type 0
  EndFrom f = (keys : Keys) → f.keys ≡ Some keys → P keys.session f.channel

  abbrev pub ReplyFrom : ℕ → Progress → Type 0
  ReplyFrom x Stays = Unit {0}
  ReplyFrom x (Interim binding) = Unit {0}
  ReplyFrom x (Final binding channel encrypts) = P x channel

  abbrev pub RepliesFrom : List SaidReply → Type 0
  RepliesFrom [] = Unit {0}
  RepliesFrom (r ∷ rs) = ReplyFrom r.keys.session r.progress × RepliesFrom rs

  abbrev pub SealFrom : Seal → Type 0
  SealFrom u = P u.session u.channel × (u.to_server ≡ false)

  abbrev pub SealsFrom : List Seal → Type 0
  SealsFrom us = (i : ℕ) (u : Seal) → slice_get us i ≡ Some u → SealFrom u

  pub none_from : SealsFrom []
  none_from zero u h = absurd (let q : None ≡ Some u = h in cc)
  none_from (suc i) u h = absurd (let q : None ≡ Some u = h in cc)

  one_more : (u : Seal) (us : List Seal) → SealFrom u → SealsFrom us → SealsFrom (u ∷ us)
  one_more u us one all zero v h = let same : u ≡ v = (let q : Some u ≡ Some v = h in cc) in subst (λ (w : Seal). SealFrom w) same one
  one_more u us one all (suc i) v h = all i v h

  rest_from : (u : Seal) (us : List Seal) → SealsFrom (u ∷ us) → SealsFrom us
  rest_from u us all i v h = all (i + 1) v (rw (add-one) h)

  pub joined_from : (us vs : List Seal) → SealsFrom us → SealsFrom vs → SealsFrom (us ++ vs)
  joined_from [] vs a b = b
  joined_from (u ∷ us) vs a b = one_more u (us ++ vs) (a 0 u refl) (joined_from us vs (rest_from u us a) b)

  of_keys : (keys : Keys) (channel counter : ℕ) (ts : List (List ℕ)) → P keys.session channel → SealsFrom (seals_of keys channel counter ts)
  unfolding seals_of
  of_keys keys channel counter [] p = none_from
  of_keys keys channel counter (t ∷ ts) p =
      one_more (seal_by keys channel counter t) (seals_of keys channel (counter + 1) ts) (p, refl) (of_keys keys channel (counter + 1) ts p)

  of_end : (o : Option Keys) (f : ServerEnd) (ts : List (List ℕ)) → ((keys : Keys) → o ≡ Some keys → P keys.session f.channel)
      → SealsFrom (seals_by o f ts)
  of_end None f ts p = none_from
  of_end (Some keys) f ts p = of_keys keys f.channel f.counter ts (p keys refl)

  of_sealed : (sealed : Bool) (f : ServerEnd) (ts : List (List ℕ)) → EndFrom f → SealsFrom (if sealed then seals_by f.keys f ts else [])
  of_sealed true f ts p = of_end f.keys f ts p
  of_sealed false f ts p = none_from

  moved_from : (f : ServerEnd) (r : SaidReply) (t : List ℕ) (p : Progress) → EndFrom f → ReplyFrom r.keys.session p
      → EndFrom (server_end_moved f r t p)
  moved_from f r t Stays e from = e
  moved_from f r t (Interim binding) e from = e
  moved_from f r t (Final binding channel encrypts) e from = λ keys is.
      (let same : r.keys ≡ keys = (let q : Some r.keys ≡ Some keys = is in cc) in subst (λ (y : Keys). P y.session channel) same from)

  told_from : (sealed : Bool) (f : ServerEnd) (rs : List SaidReply) (ts : List (List ℕ)) → EndFrom f → RepliesFrom rs
      → EndFrom (told_each sealed f rs ts).server_end
  unfolding told_each
  told_from sealed f [] ts e from = e
  told_from sealed f (r ∷ rs) ts e from =
      told_from sealed (server_end_behind f r (first_text ts)) rs (later_texts ts) (moved_from f r (first_text ts) r.progress e from.0) from.1

  abbrev pub AnsweredFrom : ConnectionStep → Type 0
  AnsweredFrom S = S.ends ≡ None → SealsFrom S.sealings × EndFrom S.server_end

  pub answered_from : (f : ServerEnd) (sealed : Bool) (g : Going) → EndFrom f → RepliesFrom g.replies → AnsweredFrom (answered f sealed g)
  answered_from f sealed g e from =
      let rows = all_texts sealed (joined_in (text_limit sealed) g.replies) in
      let texts = each_joined rows in
      let f2 = counted_on f sealed g (length texts) in
      either AnsweredFrom (sealed && not (has_nonces f (length rows))) (ended_by g.server g.logons f g.taken Spent)
      (answered_with f sealed g rows texts)
      (λ _ none. absurd (spent_apart none))
      (λ _ none. (of_sealed sealed f texts e, told_from sealed f2 g.replies (concatenated rows) e from))
