-- Joined messages: where two chains begin at one place, the shorter one is the beginning of the other.
use Rattle.std.proofs.Common.{◌≡◌, ℕ, ◌≤◌, List, [], ◌∷◌, ◌++◌, length, drop, refl, sym, ap, subst, ◌∙◌, arith}
use Rattle.spec_wire.specs.messages.Header.{SpellsHeader, BreaksHeader}
use Rattle.spec_wire.specs.messages.Compound.{HasHeader, LeadsOn, IsJoined, AreJoined, IsLast, SpellsCompound, BreaksAt, BreaksCompound}
use Rattle.spec_wire.specs.declared.messages.header.Header.{Header}
use Rattle.spec_wire.specs.declared.messages.header.Span.{Span}
use Rattle.spec_wire.specs.declared.messages.error.HeaderError.{HeaderError}
use Rattle.spec_wire.specs.declared.messages.error.HeaderError.TheVariants as errors

-- what is known of headers
abbrev pub OneHeader : Type 0
OneHeader = (m : List ℕ) (h k : Header) → SpellsHeader m h → SpellsHeader m k → h ≡ k

abbrev pub NoBreak : Type 0
NoBreak = (m : List ℕ) (h : Header) (e : HeaderError) → SpellsHeader m h → BreaksHeader m e → ⊥

-- no message follows the last one
ends_there : OneHeader → (frame : List ℕ) (s t : Span) → s.start ≡ t.start → IsLast frame s → IsJoined frame t → ⊥
ends_there one frame s t e (h, header, last, end) (k, other, leads, next) =
    let same : h ≡ k = one (drop t.start frame) h k (subst (λ (at : ℕ). HasHeader frame at h) e header) other in
    let none : k.next ≡ 0 = ap (λ (x : Header). x.next) (sym same) ∙ last in
    let far : 64 ≤ k.next = leads.1 in
    absurd (omega (arith, none, far))

same_end : OneHeader → (frame : List ℕ) (s t : Span) → s.start ≡ t.start → IsJoined frame s → IsJoined frame t → s.end ≡ t.end
same_end one frame s t e (h, header, leads, end) (k, other, far, next) =
    let same : h ≡ k = one (drop t.start frame) h k (subst (λ (at : ℕ). HasHeader frame at h) e header) other in
    let step : h.next ≡ k.next = ap (λ (x : Header). x.next) same in
    omega (arith, e, end, next, step)

same_span : (s t : Span) → s.start ≡ t.start → s.end ≡ t.end → s ≡ t
same_span s t e f = ap {B = Span} (λ (x : ℕ). record { start = x; end = s.end }) e ∙ ap {B = Span} (λ (x : ℕ). record {
  start = t.start;
  end = x;
}) f

-- both chains come to a last message, so they are one
pub same_chain : OneHeader → (frame : List ℕ) (ss ts : List Span) (from : ℕ) (l m : Span) → AreJoined frame from ss
    l.start → AreJoined frame from ts m.start → IsLast frame l → IsLast frame m
    → (ss ≡ ts) × (l.start ≡ m.start)
same_chain one frame [] [] from l m f g last other = (refl, sym f ∙ g)
same_chain one frame [] (t ∷ ts) from l m f g last other = absurd (ends_there one frame l t (sym f ∙ sym g.0) last g.1)
same_chain one frame (s ∷ ss) [] from l m f g last other = absurd (ends_there one frame m s (sym g ∙ sym f.0) other f.1)
same_chain one frame (s ∷ ss) (t ∷ ts) from l m f g last other =
    let ends : s.end ≡ t.end = same_end one frame s t (f.0 ∙ sym g.0) f.1 g.1 in
    let span : s ≡ t = same_span s t (f.0 ∙ sym g.0) ends in
    let rest = same_chain one frame ss ts s.end l m f.2 (subst (λ (at : ℕ). AreJoined frame at ts m.start) (sym ends) g.2) last other in
    (ap (λ (x : Span). x ∷ ss) span ∙ ap (λ (xs : List Span). t ∷ xs) rest.0, rest.1)

last_end : (frame : List ℕ) (l : Span) → IsLast frame l → l.end ≡ length frame
last_end frame l (h, header, last, end) = end

pub one_split : OneHeader → (frame : List ℕ) (ss ts : List Span) → SpellsCompound frame ss → SpellsCompound frame ts → ss ≡ ts
one_split one frame ss ts p q =
    let chains = same_chain one frame p.joined q.joined 0 p.last q.last p.are_joined q.are_joined p.is_last q.is_last in
    let last : p.last ≡ q.last = same_span p.last q.last chains.1 (last_end frame p.last p.is_last
    ∙ sym (last_end frame q.last q.is_last)) in
    p.whole ∙ ap (λ (xs : List Span). xs ++ p.last ∷ []) chains.0 ∙ ap (λ (x : Span). q.joined ++ x ∷ []) last ∙ sym q.whole

-- a place where a message stands, and what follows it leads on or ends, has no break
last_holds : OneHeader → NoBreak → (frame : List ℕ) (s : Span) (e : HeaderError) → IsLast frame s
    → BreaksAt frame s.start e → (e ≡ errors.Memory → ⊥) → ⊥
last_holds one none frame s errors.Memory (h, header, last, end) broken other = other refl
last_holds one none frame s errors.Short (h, header, last, end) broken other = none (drop s.start frame) h errors.Short header broken
last_holds one none frame s (errors.BadProtocol p) (h, header, last, end) broken other = none (drop s.start frame) h
    (errors.BadProtocol p) header broken
last_holds one none frame s (errors.BadSize n) (h, header, last, end) broken other = none (drop s.start frame) h
    (errors.BadSize n) header broken
last_holds one none frame s (errors.BadNext at) (h, header, last, end) (is, (k, found, some, lost)) other =
    some (ap (λ (x : Header). x.next) (sym (one (drop s.start frame) h k header found)) ∙ last)

joined_holds : OneHeader → NoBreak → (frame : List ℕ) (s : Span) (e : HeaderError) → IsJoined frame s
    → BreaksAt frame s.start e → (e ≡ errors.Memory → ⊥) → ⊥
joined_holds one none frame s errors.Memory (h, header, leads, end) broken other = other refl
joined_holds one none frame s errors.Short (h, header, leads, end) broken other = none (drop s.start frame) h errors.Short header broken
joined_holds one none frame s (errors.BadProtocol p) (h, header, leads, end) broken other = none (drop s.start frame) h
    (errors.BadProtocol p) header broken
joined_holds one none frame s (errors.BadSize n) (h, header, leads, end) broken other = none (drop s.start frame) h
    (errors.BadSize n) header broken
joined_holds one none frame s (errors.BadNext at) (h, header, leads, end) (is, (k, found, some, lost)) other =
    lost (subst (λ (x : Header). LeadsOn frame s.start x.next) (one (drop s.start frame) h k header found) leads)

chain_holds : OneHeader → NoBreak → (frame : List ℕ) (ss ts : List Span) (from at : ℕ) (l : Span) (e : HeaderError)
    → AreJoined frame from ss l.start → IsLast frame l → AreJoined frame from ts at → BreaksAt frame at e
    → (e ≡ errors.Memory → ⊥) → ⊥
chain_holds one none frame [] [] from at l e f last g broken other = last_holds one none frame l e last
    (subst (λ (x : ℕ). BreaksAt frame x e) (sym g ∙ f) broken) other
chain_holds one none frame (s ∷ ss) [] from at l e f last g broken other = joined_holds one none frame s e f.1
    (subst (λ (x : ℕ). BreaksAt frame x e) (sym g ∙ sym f.0) broken) other
chain_holds one none frame [] (t ∷ ts) from at l e f last g broken other = ends_there one frame l t (sym f ∙ sym g.0) last g.1
chain_holds one none frame (s ∷ ss) (t ∷ ts) from at l e f last g broken other =
    let ends : s.end ≡ t.end = same_end one frame s t (f.0 ∙ sym g.0) f.1 g.1 in
    chain_holds one none frame ss ts s.end at l e f.2 last (subst (λ (x : ℕ). AreJoined frame x ts at) (sym ends) g.2) broken other

pub split_holds : OneHeader → NoBreak → (frame : List ℕ) (ss : List Span) (e : HeaderError) → SpellsCompound frame ss
    → BreaksCompound frame e → (e ≡ errors.Memory → ⊥) → ⊥
split_holds one none frame ss e p b other = chain_holds one none frame p.joined b.joined 0 b.at p.last e p.are_joined
    p.is_last b.are_joined b.breaks other
