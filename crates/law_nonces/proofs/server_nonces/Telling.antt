-- What a frame's answer seals, and the server's end behind its replies: counters go on, and a final reply begins a new one.
use Rattle.std.proofs.Common.{◌≡◌, ℕ, suc, ◌+◌, ◌==◌, ◌≤◌, Bool, true, false, if◌then◌else◌, List, [], ◌∷◌, ◌++◌}
use Rattle.std.proofs.lemmas.List.{append-nil}
use Rattle.std.proofs.Common.{append_assoc, length, refl, sym, ◌∙◌, ap, subst, arith, Option, Some, None, is_some}
use Rattle.spec_exchange.specs.Table.{put}
use Rattle.spec_crypto.specs.declared.sessions.material.Keys.{Keys}
use Rattle.spec_crypto.specs.sessions.Nonces.{last_counter}
use Rattle.spec_world.specs.Ends.{ServerEnd}
use Rattle.spec_world.specs.Logon.{Progress, Stays, Interim, Final}
use Rattle.spec_world.specs.Answering.{SaidReply, Seal, seal_by, seals_of, seals_by, each_joined, server_end_moved}
use Rattle.spec_world.specs.Answering.{server_end_behind, told_each, first_text, later_texts}
use Rattle.law_nonces.proofs.negotiation.Tables.{by_key, put_same}
use Rattle.law_nonces.specs.server_nonces.Numbering.{next_drawn, DrawsOn, Sealer, session_of, sealer_of, NonceNumbered}
use Rattle.law_nonces.proofs.server_nonces.Numbers.{alike, seal_keeps, off_keeps, fresh_keeps, counted}
use Rattle.law_nonces.proofs.server_nonces.Going.{drawn_behind, AllDraw}

-- ---- tables of ends

-- an end put in its own place
pub put_itself : (ends : ℕ → Sealer) (k : ℕ) (e : Sealer) → ends k ≡ e → (j : ℕ) → put ends k e j ≡ ends j
put_itself ends k e is = by_key (λ j x. x ≡ ends j) ends k e (sym is) (λ j off. refl)

-- the last of two counts
pub put_twice : (ends : ℕ → Sealer) (k : ℕ) (a e : Sealer) (j : ℕ) → put ends k e j ≡ put (put ends k a) k e j
put_twice ends k a e j = elim (j == k) as (λ b. (if b then e else ends j) ≡ (if b then e else (if b then a else ends j))) [
  | true ↦ refl
  | false ↦ refl
]

-- ---- what is sealed, one after the other

abbrev sealer_at : Keys → ℕ → ℕ → Sealer
sealer_at keys channel counter = record { is_on = true; session = keys.session; channel = channel; counter = counter }

seals_keep : (us : List Seal) (ends : ℕ → Sealer) (drawn : ℕ → ℕ) (k : ℕ) (keys : Keys) (channel counter : ℕ) (ts : List (List ℕ))
    → ends k ≡ sealer_at keys channel counter → counter + length ts ≤ last_counter → NonceNumbered us ends drawn
    → NonceNumbered (us ++ seals_of keys channel counter ts) (put ends k (sealer_at keys channel (counter + length ts))) drawn
unfolding seals_of
seals_keep us ends drawn k keys channel counter [] is bound i =
    let same : ends k ≡ sealer_at keys channel (counter + 0) = is ∙ ap (sealer_at keys channel) (omega arith) in
    subst (λ vs. NonceNumbered vs (put ends k (sealer_at keys channel (counter + 0))) drawn) (sym (append-nil us))
    (alike us ends (put ends k (sealer_at keys channel (counter + 0))) drawn (put_itself ends k _ same) i)
seals_keep us ends drawn k keys channel counter (t ∷ ts) is bound i =
    let u = seal_by keys channel counter t in
    let next = put ends k (counted (ends k)) in
    let end = sealer_at keys channel (counter + length (t ∷ ts)) in
    let one : NonceNumbered (us ++ u ∷ []) next drawn =
    seal_keeps us ends drawn k u (ap (λ (e : Sealer). e.is_on) is) (ap (λ (e : Sealer). e.session) (sym is))
    (ap (λ (e : Sealer). e.channel) (sym is)) (ap (λ (e : Sealer). e.counter) (sym is))
    (let c : (ends k).counter ≡ counter = ap (λ (e : Sealer). e.counter) is in omega (arith, c, bound)) i in
    let at : next k ≡ sealer_at keys channel (counter + 1) = put_same ends k (counted (ends k)) ∙ ap counted is in
    let more = seals_keep (us ++ u ∷ []) next drawn k keys channel (counter + 1) ts at (omega (arith, bound)) one in
    let last : sealer_at keys channel (counter + 1 + length ts) ≡ end = ap (sealer_at keys channel) (omega arith) in
    subst (λ vs. NonceNumbered vs (put ends k end) drawn) (append_assoc us (u ∷ []) (seals_of keys channel (counter + 1) ts))
    (alike _ (put next k end) (put ends k end) drawn (put_twice ends k (counted (ends k)) end)
    (subst (λ e. NonceNumbered ((us ++ u ∷ []) ++ seals_of keys channel (counter + 1) ts) (put next k e) drawn) last more))

-- an end that counted so far
abbrev pub counted_by : ServerEnd → Bool → ℕ → Sealer
counted_by f sealed count = record {
  is_on = is_some f.keys;
  session = session_of f.keys;
  channel = f.channel;
  counter = if sealed then f.counter + count else f.counter;
}

keyed_keep : (us : List Seal) (ends : ℕ → Sealer) (drawn : ℕ → ℕ) (k channel counter : ℕ) (o : Option Keys) (ts : List (List ℕ))
    → ends k ≡ record { is_on = is_some o; session = session_of o; channel = channel; counter = counter }
    → counter + length ts ≤ last_counter → (f : ServerEnd) → f.channel ≡ channel → f.counter ≡ counter → NonceNumbered us ends drawn
    → NonceNumbered (us ++ seals_by o f ts) (put ends k (record {
      is_on = is_some o;
      session = session_of o;
      channel = channel;
      counter = counter + length ts;
    })) drawn
keyed_keep us ends drawn k channel counter None ts is bound f c n i =
    let off : Sealer = record { is_on = false; session = 0; channel = channel; counter = counter + length ts } in
    subst (λ vs. NonceNumbered vs (put ends k off) drawn) (sym (append-nil us)) (off_keeps us ends drawn k off refl i)
keyed_keep us ends drawn k channel counter (Some keys) ts is bound f c n i =
    subst (λ x. NonceNumbered (us ++ seals_of keys x f.counter ts)
    (put ends k (sealer_at keys channel (counter + length ts))) drawn) (sym c)
    (subst (λ x. NonceNumbered (us ++ seals_of keys channel x ts) (put ends k (sealer_at keys channel (counter + length ts))) drawn) (sym n)
    (seals_keep us ends drawn k keys channel counter ts is bound i))

pub sealed_keep : (us : List Seal) (ends : ℕ → Sealer) (drawn : ℕ → ℕ) (k : ℕ) (f : ServerEnd) (sealed : Bool) (ts : List (List ℕ))
    → ends k ≡ sealer_of true f → (sealed ≡ true → f.counter + length ts ≤ last_counter) → NonceNumbered us ends drawn
    → NonceNumbered (us ++ (if sealed then seals_by f.keys f ts else [])) (put ends k (counted_by f sealed (length ts))) drawn
sealed_keep us ends drawn k f true ts is bound i =
    keyed_keep us ends drawn k f.channel f.counter f.keys ts is (bound refl) f refl refl i
sealed_keep us ends drawn k f false ts is bound i =
    subst (λ vs. NonceNumbered vs (put ends k (counted_by f false (length ts))) drawn) (sym (append-nil us))
    (alike us ends (put ends k (counted_by f false (length ts))) drawn (put_itself ends k _ is) i)

pub joined_length : (rows : List (List (List ℕ))) → length (each_joined rows) ≡ length rows
unfolding each_joined
joined_length [] = refl
joined_length (ts ∷ rest) = ap (λ n. suc n) (joined_length rest)

-- ---- the end behind each reply

pub moved_keep : (us : List Seal) (ends : ℕ → Sealer) (drawn : ℕ → ℕ) (k : ℕ) (f : ServerEnd) (r : SaidReply) (t : List ℕ) (p : Progress)
    → ends k ≡ sealer_of true f → DrawsOn drawn r.keys.session p → NonceNumbered us ends drawn
    → NonceNumbered us (put ends k (sealer_of true (server_end_moved f r t p))) (next_drawn drawn r.keys.session p)
moved_keep us ends drawn k f r t Stays is on i = alike us ends (put ends k (sealer_of true f)) drawn (put_itself ends k _ is) i
moved_keep us ends drawn k f r t (Interim binding) is on i =
    alike us ends (put ends k (sealer_of true f)) drawn (put_itself ends k _ is) i
moved_keep us ends drawn k f r t (Final binding channel encrypts) is on i =
    fresh_keeps us ends drawn k (record { is_on = true; session = r.keys.session; channel = channel; counter = 0 }) on.0 on.1 i

pub told_keep : (us : List Seal) (ends : ℕ → Sealer) (drawn : ℕ → ℕ) (k : ℕ) (sealed : Bool) (f : ServerEnd) (rs : List SaidReply)
    (ts : List (List ℕ)) → ends k ≡ sealer_of true f → AllDraw drawn rs → NonceNumbered us ends drawn
    → NonceNumbered us (put ends k (sealer_of true (told_each sealed f rs ts).server_end)) (drawn_behind drawn rs)
unfolding told_each
told_keep us ends drawn k sealed f [] ts is on i = alike us ends (put ends k (sealer_of true f)) drawn (put_itself ends k _ is) i
told_keep us ends drawn k sealed f (r ∷ rs) ts is on i =
    let g = server_end_behind f r (first_text ts) in
    let last = sealer_of true (told_each sealed g rs (later_texts ts)).server_end in
    let one : NonceNumbered us (put ends k (sealer_of true g)) (next_drawn drawn r.keys.session r.progress) =
    moved_keep us ends drawn k f r (first_text ts) r.progress is on.0 i in
    let more = told_keep us (put ends k (sealer_of true g)) (next_drawn drawn r.keys.session r.progress) k sealed g rs (later_texts ts)
    (put_same ends k (sealer_of true g)) on.1 one in
    alike us (put (put ends k (sealer_of true g)) k last) (put ends k last) (drawn_behind (next_drawn drawn r.keys.session r.progress) rs)
    (put_twice ends k (sealer_of true g) last) more

-- ---- numbers only grow

pub one_grown : (drawn : ℕ → ℕ) (x : ℕ) (p : Progress) → DrawsOn drawn x p → (y : ℕ) → drawn y ≤ next_drawn drawn x p y
one_grown drawn x Stays on y = omega arith
one_grown drawn x (Interim binding) on y = omega arith
one_grown drawn x (Final binding channel encrypts) on y =
    by_key (λ z n. drawn z ≤ n) drawn x channel (let h = on.0 in omega (arith, h)) (λ z off. omega arith) y

pub all_grown : (drawn : ℕ → ℕ) (rs : List SaidReply) → AllDraw drawn rs → (y : ℕ) → drawn y ≤ drawn_behind drawn rs y
all_grown drawn [] on y = omega arith
all_grown drawn (r ∷ rs) on y =
    let a = one_grown drawn r.keys.session r.progress on.0 y in
    let b = all_grown (next_drawn drawn r.keys.session r.progress) rs on.1 y in
    omega (arith, a, b)
