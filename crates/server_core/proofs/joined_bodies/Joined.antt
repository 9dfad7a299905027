-- Two bodies, one behind the other.
use Rattle.std.proofs.Common.{◌≡◌, ℕ, List, [], ◌∷◌, ◌++◌, flat_map, refl, sym, ap, subst, ◌∙◌}
use Rattle.std.proofs.lemmas.List.{append-nil}
use Rattle.std.proofs.lemmas.List.Concat.{flat_map-append}
use Rattle.std.proofs.lemmas.List.Elements.{All-append}
use Rattle.spec_exchange.specs.State as model
use Rattle.journal_bytes.specs.record_bytes.Grammar.{IsWritableRecord, record_spelling}
use Rattle.journal_bytes.specs.record_bytes.Meaning.{record_of, records_of}
use Rattle.journal_bytes.specs.declared.record_bytes.value.Record.{Record}
use Rattle.journal_bytes.specs.record_bodies.Body.{IsBody, IsBodyOf}

records_both : (xs ys : List Record) → records_of (xs ++ ys) ≡ records_of xs ++ records_of ys
records_both [] ys = refl
records_both (x ∷ xs) ys = ap (λ (l : List model.Record). record_of x ∷ l) (records_both xs ys)

both : (a b : List ℕ) (xs ys : List Record) → IsBody a xs → IsBody b ys → IsBody (a ++ b) (xs ++ ys)
both a b [] ys e h = subst (λ (v : List ℕ). IsBody (v ++ b) ys) (sym e) h
both a b (x ∷ xs) [] h e =
    subst (λ (l : List Record). IsBody (a ++ b) l) (sym (append-nil (x ∷ xs)))
    (subst (λ (v : List ℕ). IsBody (a ++ v) (x ∷ xs)) (sym e)
    (subst (λ (v : List ℕ). IsBody v (x ∷ xs)) (sym (append-nil a)) h))
both a b (x ∷ xs) (y ∷ ys) h k = (
  All-append IsWritableRecord (x ∷ xs) (y ∷ ys) h.0 k.0,
  ap (λ (v : List ℕ). v ++ b) h.1
      ∙ (ap (λ (v : List ℕ). flat_map record_spelling (x ∷ xs) ++ v) k.1
      ∙ sym (flat_map-append record_spelling (x ∷ xs) (y ∷ ys))),
)

pub joined : (a b : List ℕ) (rs qs : List model.Record) → IsBodyOf a rs → IsBodyOf b qs → IsBodyOf (a ++ b) (rs ++ qs)
joined a b rs qs p q = (
  p.0 ++ q.0,
  records_both p.0 q.0 ∙ (ap (λ (l : List model.Record). l ++ records_of q.0) p.1 ∙ ap (λ (l : List model.Record). rs ++ l) q.1),
  both a b p.0 q.0 p.2 q.2,
)
