-- Contexts that were written one behind the other stand there.
use Rattle.std.proofs.Common.{◌≡◌, ℕ, suc, ◌+◌, ◌^◌, ◌<◌, List, [], ◌∷◌, ◌++◌, length, refl, sym, ap, subst, ◌∙◌, arith}
use Rattle.std.proofs.Common.{append_assoc, length-append}
use Rattle.std.proofs.lemmas.List.{append-nil}
use Rattle.spec_wire.specs.messages.Places.{le, number, bytes_at, gap_to_8}
use Rattle.spec_wire.specs.messages.Table.{Field, Num, Raw, Any}
use Rattle.spec_wire.specs.messages.Contexts.{Context, context_place, context_end, contexts_end, contexts_in, with_context, with_contexts}
use Rattle.spec_wire.proofs.messages.Numbers.{length-le}
use Rattle.law_wire.proofs.messages.Rows.{row_stands}

-- kinds and lengths fit their fields
abbrev pub AreFit : List Context → Type 0
AreFit [] = Unit {0}
AreFit (c ∷ cs) = ((c.kind < 256 ^ 2) × (length c.bytes < 256 ^ 2)) × AreFit cs

abbrev context_fields : List ℕ → Context → List Field
context_fields out c = Any (gap_to_8 (length out)) ∷ Num 2 c.kind ∷ Num 2 (length c.bytes) ∷ Any 4 ∷ Raw (length c.bytes) c.bytes ∷ []

-- what is written begins with what was there
begins : (cs : List Context) (out : List ℕ) → (tail : List ℕ) × (with_contexts out cs ≡ out ++ tail)
unfolding with_contexts
begins [] out = ([], sym (append-nil out))
begins (c ∷ cs) out =
    let (tail, e) = begins cs (with_context out c) in
    let pad = le (gap_to_8 (length out)) 0 in
    (pad ++ (le 2 c.kind ++ (le 2 (length c.bytes) ++ (le 4 0 ++ (c.bytes ++ tail)))), e ∙ simp append_assoc refl)

length-context : (out : List ℕ) (c : Context) → length (with_context out c) ≡ context_place (length out) + 8 + length c.bytes
length-context out c =
    let a = out ++ le (gap_to_8 (length out)) 0 in
    let b = a ++ le 2 c.kind in
    let d = b ++ le 2 (length c.bytes) in
    let f = d ++ le 4 0 in
    omega (
      arith,
      length-append out (le (gap_to_8 (length out)) 0),
      length-append a (le 2 c.kind),
      length-append b (le 2 (length c.bytes)),
      length-append d (le 4 0),
      length-append f c.bytes,
      length-le (gap_to_8 (length out)) 0,
      length-le 2 c.kind,
      length-le 2 (length c.bytes),
      length-le 4 0,
    )

-- the first of them
pub record Begins (m : List ℕ) (behind : ℕ) (c : Context) : Type 0 where
  pub is_kind : number 2 m (context_place behind) ≡ c.kind
  pub is_length : number 2 m (context_place behind + 2) ≡ length c.bytes
  pub is_bytes : bytes_at (length c.bytes) m (context_place behind + 8) ≡ c.bytes

begins_here : (out rest : List ℕ) (c : Context) → (c.kind < 256 ^ 2) × (length c.bytes < 256 ^ 2)
    → Begins (with_context out c ++ rest) (length out) c
begins_here out rest c fit =
    let m : List ℕ = with_context out c ++ rest in
    let row = row_stands (context_fields out c) out rest (length out) refl (fit.0, (fit.1, (refl, tt))) in
    let place : context_place (length out) + 2 + 2 + 4 ≡ context_place (length out) + 8 = omega arith in
    record { is_kind = row.0; is_length = row.1.0; is_bytes = ap (λ (k : ℕ). bytes_at (length c.bytes) m k) (sym place) ∙ row.1.1.0 }

one_in : (m : List ℕ) (behind n : ℕ) (c : Context) (end : ℕ) → Begins m behind c → end ≡ context_place behind + 8
    + length c.bytes → contexts_in m behind (suc n) ≡ c ∷ contexts_in m end n
unfolding contexts_in
one_in m behind n c end is e =
    let there : context_end m (context_place behind) ≡ end = omega (arith, is.is_length, e) in
    ap (λ (k : ℕ). record {
      kind = k;
      bytes = bytes_at (number 2 m (context_place behind + 2)) m (context_place behind + 8);
    } ∷ contexts_in m
    (context_end m (context_place behind)) n) is.is_kind
    ∙ ap (λ (k : ℕ). record { kind = c.kind; bytes = bytes_at k m (context_place behind + 8) } ∷ contexts_in m
    (context_end m (context_place behind)) n) is.is_length
    ∙ ap (λ (b : List ℕ). record { kind = c.kind; bytes = b } ∷ contexts_in m (context_end m (context_place behind)) n) is.is_bytes
    ∙ ap (λ (k : ℕ). c ∷ contexts_in m k n) there

one_end : (m : List ℕ) (behind n : ℕ) (c : Context) (end : ℕ) → Begins m behind c → end ≡ context_place behind + 8
    + length c.bytes → contexts_end m behind (suc n) ≡ contexts_end m end n
unfolding contexts_end
one_end m behind n c end is e =
    let there : context_end m (context_place behind) ≡ end = omega (arith, is.is_length, e) in
    ap (λ (k : ℕ). contexts_end m k n) there

begins_again : (cs : List Context) (out rest : List ℕ) (c : Context) → (c.kind < 256 ^ 2) × (length c.bytes < 256 ^ 2)
    → Begins (with_contexts (with_context out c) cs ++ rest) (length out) c
begins_again cs out rest c fit =
    let (tail, e) = begins cs (with_context out c) in
    subst (λ (m : List ℕ). Begins m (length out) c)
    (sym (ap (λ (l : List ℕ). l ++ rest) e ∙ append_assoc (with_context out c) tail rest))
    (begins_here out (tail ++ rest) c fit)

pub written_in : (cs : List Context) (out rest : List ℕ) → AreFit cs → contexts_in (with_contexts out cs ++ rest)
    (length out) (length cs) ≡ cs
unfolding with_contexts contexts_in
written_in [] out rest fit = refl
written_in (c ∷ cs) out rest fit =
    let next = with_context out c in
    one_in (with_contexts next cs ++ rest) (length out) (length cs) c (length next) (begins_again cs out rest c fit.0)
    (length-context out c) ∙ ap (λ (l : List Context). c ∷ l) (written_in cs next rest fit.1)

pub written_end : (cs : List Context) (out rest : List ℕ) → AreFit cs → contexts_end (with_contexts out cs ++ rest)
    (length out) (length cs) ≡ length (with_contexts out cs)
unfolding with_contexts contexts_end
written_end [] out rest fit = refl
written_end (c ∷ cs) out rest fit =
    let next = with_context out c in
    one_end (with_contexts next cs ++ rest) (length out) (length cs) c (length next) (begins_again cs out rest c fit.0)
    (length-context out c) ∙ written_end cs next rest fit.1
